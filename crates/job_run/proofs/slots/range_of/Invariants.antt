use Rattle.job_run.specs.Slots.{IsRange}
use Rattle.job_run.proofs.slots.range_of.Given as goal

abbrev pub invariant-loop-t : goal.invariant-loop-t
invariant-loop-t l = IsRange l.job l.phase l.t l.range.start l.range.end
