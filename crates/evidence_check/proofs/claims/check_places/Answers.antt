use Rattle.std.proofs.Common.{get_or, sym}
use Rattle.std.proofs.lemmas.List.{get_or_default}
use Rattle.evidence_check.specs.Found.{found_at}
use Rattle.evidence_check.proofs.CheckLemmas.{places_step, places_stop}
use Rattle.evidence_check.proofs.claims.check_places.Goals as goal

pub returns-in-Some-clause-some : goal.returns-in-Some-clause-some
returns-in-Some-clause-some c =
    places_stop c.args.bytes.now (found_at c.args.found.now) c.args.from c.args.row c.args.first c.args.places.now c.loop-i.at c.loop-i.i
    (get_or c.args.places.now c.loop-i.i c.index-places-i.result) c.in-Some.refuted c.loop-i.invariant c.loop-i-test.true (get_or_default c.args.places.now c.loop-i.i _ _ c.loop-i-test.true) (sym c.in-Some.ensures)

pub loop-i-preserved : goal.loop-i-preserved
loop-i-preserved c =
    places_step c.args.bytes.now (found_at c.args.found.now) c.args.from c.args.row c.args.first c.args.places.now c.loop-i.at c.past_place-at.result c.loop-i.i
    (get_or c.args.places.now c.loop-i.i c.index-places-i.result) c.loop-i.invariant c.loop-i-test.true (get_or_default c.args.places.now c.loop-i.i _ _ c.loop-i-test.true) (sym c.in-None.ensures) c.past_place-at.ensures.inside c.past_place-at.ensures.rest
