use Rattle.std.proofs.Common.{◌≡◌, ◌+◌, length}
use Rattle.job_run.specs.Slots.{HaveAllExtras, StandBefore}
use Rattle.job_run.proofs.PhaseLemmas.{HasRunTo}
use Rattle.job_run.proofs.phase.run_phases.Given as goal

abbrev pub invariant-loop-phase : goal.invariant-loop-phase
invariant-loop-phase g l = record {
  before : StandBefore (g.R.Runner.course l.runner) l.job l.tables.places l.phase l.slots;
  extras : HaveAllExtras g.R.Runner.ends l.job l.tables.places l.phase l.finals.items l.slots;
  count : length l.finals.items ≡ l.phase;
  made : g.A.Areas.made l.areas ≡ g.A.Areas.made l.initial.areas + l.phase;
  areas : HasRunTo (g.R.Runner.course l.runner) l.job l.tables.places l.phase l.finals.items (g.A.Areas.ledger l.initial.areas) (g.A.Areas.ledger l.areas) (g.A.Areas.finals l.initial.areas) (g.A.Areas.finals l.areas);
}
