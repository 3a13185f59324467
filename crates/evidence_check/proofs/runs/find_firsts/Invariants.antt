use Rattle.evidence_check.proofs.PhaseLemmas.{HaveRun}
use Rattle.evidence_check.proofs.runs.find_firsts.Given as goal

abbrev pub invariant-loop-t : goal.invariant-loop-t
invariant-loop-t l = record {
  run : HaveRun l.job l.tables.places l.phase l.t l.found.items;
}
