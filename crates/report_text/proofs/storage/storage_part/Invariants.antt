use Rattle.std.proofs.Common.{◌-◌, ◌*◌}
use Rattle.module_area.specs.Meaning.{first_bytes}
use Rattle.report_text.specs.Meaning.{changed_row, storage_lines, lines_from, row_count}
use Rattle.report_text.proofs.WriteLemmas.{Progress}
use Rattle.report_text.proofs.storage.storage_part.Given as goal

abbrev pub invariant-loop-b : goal.invariant-loop-b
invariant-loop-b g l =
    let first = first_bytes l.task.private l.task.cards in
    let now = (g.R.Results.result_of l.results l.t.0).bytes in
    Progress g.K.Sink.written g.K.Sink.faults l.initial.sink l.sink (lines_from (changed_row first now) (4096 * l.b) (row_count 16 now - 4096 * l.b)) (storage_lines first now)
