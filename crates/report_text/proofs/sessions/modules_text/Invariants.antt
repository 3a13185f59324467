use Rattle.std.proofs.Common.{drop}
use Rattle.std.specs.List.{flat_map}
use Rattle.report_text.specs.Meaning.{module_lines}
use Rattle.report_text.proofs.WriteLemmas.{Progress}
use Rattle.report_text.proofs.sessions.modules_text.Given as goal

abbrev pub invariant-loop-m : goal.invariant-loop-m
invariant-loop-m g l = Progress g.K.Sink.written g.K.Sink.faults l.initial.sink l.sink (flat_map (module_lines l.job l.tables (g.R.FactSets.set_of l.sets l.s.0)) (drop l.m-index l.modules)) (flat_map (module_lines l.job l.tables (g.R.FactSets.set_of l.sets l.s.0)) l.modules)
