use Rattle.std.proofs.Common.{◌+◌, ◌-◌, length}
use Rattle.report_text.specs.Meaning.{lines_from}
use Rattle.report_text.proofs.Laws.{Progress}
use Rattle.schedule_play.proofs.TextLemmas.{line_of}
use Rattle.schedule_play.proofs.text.events_text.Given as goal

abbrev pub invariant-loop-i : goal.invariant-loop-i
invariant-loop-i g l = Progress g.K.Sink.written g.K.Sink.faults l.initial.sink l.sink (lines_from (line_of l.job l.tables.places l.played) (l.i + 1) (length l.played - l.i)) (lines_from (line_of l.job l.tables.places l.played) 1 (length l.played))
