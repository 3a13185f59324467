use Rattle.std.proofs.Common.{Some, refl, sym, subst}
use Rattle.job_run.specs.Crews.{GoesWith}
use Rattle.job_run.specs.declared.slots.Slot.{Slot}
use Rattle.job_run.proofs.crew.run_slot.Goals as goal

pub returns-in-Some : goal.returns-in-Some
returns-in-Some g c =
    let new : Slot _ _ = record { done = c.run.new.done; pass = Some c.run.new.pass; extra = c.run.new.extra; apart = c.args.slot.now.apart } in
    subst (λ o. GoesWith (g.C.Crew.HasRun c.args.crew.now) (g.C.Crew.Ends c.args.crew.now) c.args.task.0 c.args.slot.now new o) (sym c.in-Some.is) record {
      pass = c.run.new.pass;
      has = refl;
      run = c.run.ensures.run;
      ends = c.run.ensures.ends;
    }
