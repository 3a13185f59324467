use Rattle.std.proofs.Common.{◌≡◌, ◌+◌, ◌-◌, ◌*◌, ◌≤◌, min, ap, arith}
use Rattle.module_area.specs.Meaning.{first_bytes}
use Rattle.session_book.specs.Meaning.{TaskView}
use Rattle.report_text.specs.Meaning.{changed_row, storage_lines, row_count}
use Rattle.report_text.proofs.RowLemmas.{lines_from-block}
use Rattle.report_text.proofs.WriteLemmas.{progress_start, progress_at, progress_more, progress_exit}
use Rattle.report_text.proofs.storage.storage_part.Goals as goal

pub loop-b-init : goal.loop-b-init
unfolding storage_lines
loop-b-init g c =
    let count = row_count 16 (g.R.Results.result_of c.args.results.now c.args.t.0).bytes in
    let whole : count - 0 ≡ count = omega arith in
    rw whole progress_start

pub returns-in_err-block_part : goal.returns-in_err-block_part
returns-in_err-block_part g c =
    let now = (g.R.Results.result_of c.args.results.now c.args.t.0).bytes in
    let lines = changed_row (first_bytes c.args.task.now.private c.args.task.now.cards) now in
    let at = 4096 * c.loop-b.b in
    let count = row_count 16 now in
    let here : at ≤ count = omega (arith, c.requires.size, ap (λ (t : TaskView). t.private) c.task.view_is) in
    let past : c.min.result ≡ min (at + 4096) count = omega (arith, c.min.ensures, c.requires.size, ap (λ (t : TaskView). t.private) c.task.view_is) in
    progress_exit _ c.from_residual.ensures.0 (rw past at c.in_err-block_part.ensures) (progress_at (lines_from-block lines at 4096 count here) c.loop-b.invariant)

pub loop-b-preserved : goal.loop-b-preserved
loop-b-preserved g c =
    let now = (g.R.Results.result_of c.args.results.now c.args.t.0).bytes in
    let lines = changed_row (first_bytes c.args.task.now.private c.args.task.now.cards) now in
    let at = 4096 * c.loop-b.b in
    let count = row_count 16 now in
    let here : at ≤ count = omega (arith, c.requires.size, ap (λ (t : TaskView). t.private) c.task.view_is) in
    let past : c.min.result ≡ min (at + 4096) count = omega (arith, c.min.ensures, c.requires.size, ap (λ (t : TaskView). t.private) c.task.view_is) in
    let next : 4096 * (c.loop-b.b + 1) ≡ at + 4096 = omega arith in
    rw next (progress_more (rw past at c.in_ok-block_part.ensures) (progress_at (lines_from-block lines at 4096 count here) c.loop-b.invariant))
