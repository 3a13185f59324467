use Rattle.std.proofs.Common.{◌*◌, ◌<◌, rules, arith}
use Rattle.module_area.specs.Meaning.{first_bytes}
use Rattle.report_text.specs.Meaning.{changed_row}
use Rattle.report_text.proofs.FirstRowLemmas.{zeros_part, part_row_lines}
use Rattle.report_text.proofs.RowLemmas.{lines_from-next}
use Rattle.report_text.proofs.WriteLemmas.{progress_at, progress_more, progress_exit}
use Rattle.report_text.proofs.storage.block_part.Goals as goal

pub put_cards-requires-clause-zeros : goal.put_cards-requires-clause-zeros
put_cards-requires-clause-zeros g c = zeros_part 65536 _ _

pub returns-in_err-storage_row : goal.returns-in_err-storage_row
returns-in_err-storage_row g c =
    let task = c.args.task.now in
    let now = (g.R.Results.result_of c.args.results.now c.args.t.0).bytes in
    let lines = changed_row (first_bytes task.private task.cards) now in
    let n = c.loop-n.n in
    let exists : 16 * n < task.private = omega (arith, c.requires.storage.size) in
    let row = part_row_lines c.put_cards.new.block now c.row.result.now task.private task.cards c.args.from n c.requires.storage.cards (omega arith) (search rules) c.put_cards.ensures c.requires.storage.size exists c.row.ensures in
    progress_exit _ c.from_residual.ensures.0 (rw row at c.in_err-storage_row.ensures) (progress_at (lines_from-next lines n n c.args.past (omega arith)) c.loop-n.invariant)

pub loop-n-preserved : goal.loop-n-preserved
loop-n-preserved g c =
    let task = c.args.task.now in
    let now = (g.R.Results.result_of c.args.results.now c.args.t.0).bytes in
    let lines = changed_row (first_bytes task.private task.cards) now in
    let n = c.loop-n.n in
    let exists : 16 * n < task.private = omega (arith, c.requires.storage.size) in
    let row = part_row_lines c.put_cards.new.block now c.row.result.now task.private task.cards c.args.from n c.requires.storage.cards (omega arith) (search rules) c.put_cards.ensures c.requires.storage.size exists c.row.ensures in
    progress_more (rw row at c.in_ok-storage_row.ensures) (progress_at (lines_from-next lines n n c.args.past (omega arith)) c.loop-n.invariant)
