use Rattle.count_session.specs.Phases.{AreBefore, AreCounted}
use Rattle.count_session.proofs.job.count_phases.Given as goal

abbrev pub invariant-loop-phase : goal.invariant-loop-phase
invariant-loop-phase g l = record {
  before : AreBefore l.job l.tables.places l.phase l.slots;
  counts : AreCounted l.job l.tables.places l.phase l.phases.items;
}
