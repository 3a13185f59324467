use Rattle.std.proofs.Common.{◌-◌}
use Rattle.module_area.specs.Meaning.{first_bytes}
use Rattle.report_text.specs.Meaning.{changed_row, lines_from}
use Rattle.report_text.proofs.WriteLemmas.{Progress}
use Rattle.report_text.proofs.storage.block_part.Given as goal

abbrev pub invariant-loop-n : goal.invariant-loop-n
invariant-loop-n g l =
    let lines = changed_row (first_bytes l.task.private l.task.cards) (g.R.Results.result_of l.results l.t.0).bytes in
    Progress g.K.Sink.written g.K.Sink.faults l.initial.sink l.sink (lines_from lines l.n (l.past - l.n)) (lines_from lines l.from (l.past - l.from))
