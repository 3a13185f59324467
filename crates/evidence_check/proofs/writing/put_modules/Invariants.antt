use Rattle.std.proofs.Common.{drop, ◌++◌}
use Rattle.std.specs.List.{flat_map}
use Rattle.cov_outside.proofs.Laws.{Progress}
use Rattle.evidence_check.specs.Meaning.{module_entries}
use Rattle.evidence_check.specs.Found.{found_at}
use Rattle.evidence_check.proofs.writing.put_modules.Given as goal

abbrev pub invariant-loop-i : goal.invariant-loop-i
invariant-loop-i g l = Progress g.K.Sink.written g.K.Sink.faults l.initial.sink l.sink (l.buffer ++ flat_map (module_entries l.tables (found_at l.found)) (drop l.i l.modules)) (l.initial.buffer ++ flat_map (module_entries l.tables (found_at l.found)) l.modules)
