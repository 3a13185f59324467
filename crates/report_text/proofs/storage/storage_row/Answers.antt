use Rattle.std.proofs.Common.{◌*◌}
use Rattle.report_text.proofs.RowLemmas.{row_lines-changed, row_lines-same}
use Rattle.report_text.proofs.WriteLemmas.{writes_none}
use Rattle.report_text.proofs.storage.storage_row.Goals as goal

pub returns-then-ne : goal.returns-then-ne
returns-then-ne g c = rw (row_lines-changed (16 * c.args.n) _ _ _ c.ne.ensures c.if-ne.true) (c.put.ensures _ c.storage_line.ensures)

pub returns-else-ne : goal.returns-else-ne
returns-else-ne g c = rw (row_lines-same (16 * c.args.n) _ _ _ c.ne.ensures c.if-ne.false) writes_none
