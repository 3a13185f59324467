use Rattle.std.proofs.Common.{◌<◌, arith}
use Rattle.std.proofs.lemmas.List.Elements.{All-push}
use Rattle.marks_file.specs.declared.marks.MarkedPlace.{MarkedPlace}
use Rattle.session_marks.proofs.PlaceLemmas.{places_step}
use Rattle.session_marks.proofs.marking.marked_places.Goals as goal

pub loop-n-preserved : goal.loop-n-preserved
loop-n-preserved g c =
    let before = c.loop-n.invariant in
    let sets = g.R.FactSets.set_of c.args.sets.now c.args.s.0 in
    record {
      items = places_step c.args.base c.args.tables.now.places sets c.args.first c.loop-n.n c.loop-n.places.items c.push.new.self.items c.marked_place.result (omega arith) before.items c.in_ok-push.ensures.items c.marked_place.ensures.value;
      halfwords = rw c.in_ok-push.ensures.items (All-push (λ (p : MarkedPlace). p.original < 65536) c.loop-n.places.items c.marked_place.result before.halfwords c.marked_place.ensures.halfword);
    }
