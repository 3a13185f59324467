use Rattle.std.proofs.Common.{drop}
use Rattle.std.specs.List.{flat_map}
use Rattle.report_text.specs.Meaning.{module_counts}
use Rattle.report_text.proofs.WriteLemmas.{Progress}
use Rattle.report_text.proofs.counts.modules_counts.Given as goal

abbrev pub invariant-loop-m : goal.invariant-loop-m
invariant-loop-m g l = Progress g.K.Sink.written g.K.Sink.faults l.initial.sink l.sink (flat_map (module_counts l.job l.tables (g.R.FactCounts.count_of l.counts l.s.0)) (drop l.m-index l.modules)) (flat_map (module_counts l.job l.tables (g.R.FactCounts.count_of l.counts l.s.0)) l.modules)
