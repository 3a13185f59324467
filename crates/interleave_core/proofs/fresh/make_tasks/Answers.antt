use Rattle.std.proofs.Common.{rules, ◌≡◌, ◌++◌, [], ◌∷◌}
use Rattle.interleave_core.specs.Meaning.{World}
use Rattle.interleave_core.proofs.Starts.{AreReady-push}
use Rattle.interleave_core.proofs.fresh.make_tasks.Goals as goal

pub loop-t-preserved : goal.loop-t-preserved
loop-t-preserved c =
    let w : World = record { job = c.args.job.now; places = c.args.tables.now.places } in
    let items : c.push.new.self.items ≡ c.loop-t.tasks.items ++ c.in_ok-new.field-0 ∷ [] = search rules in
    let ready = AreReady-push w c.loop-t.t c.loop-t.tasks.items c.push.new.self.items c.in_ok-new.field-0 c.loop-t.invariant.ready items c.in_ok-new.ensures.running c.in_ok-new.ensures.part in
    record { count = ready.count; ready = ready }
