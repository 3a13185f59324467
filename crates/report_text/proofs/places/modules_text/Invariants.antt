use Rattle.std.proofs.Common.{◌-◌, length}
use Rattle.report_text.specs.Meaning.{table_part, lines_from}
use Rattle.report_text.proofs.WriteLemmas.{Progress}
use Rattle.report_text.proofs.places.modules_text.Given as goal

abbrev pub invariant-loop-m : goal.invariant-loop-m
invariant-loop-m g l = Progress g.K.Sink.written g.K.Sink.faults l.initial.sink l.sink (lines_from (table_part l.job l.tables) l.m (length l.job.images - l.m)) (lines_from (table_part l.job l.tables) 0 (length l.job.images))
