use Rattle.std.proofs.Common.{◌≡◌, ◌<◌, [], ◌∷◌, ◌++◌, rules}
use Rattle.report_text.specs.Meaning.{hex_bytes, hexadecimal_row, row_count}
use Rattle.report_text.proofs.RowLemmas.{lines_from-next}
use Rattle.report_text.proofs.WriteLemmas.{progress_at, progress_more, progress_exit}
use Rattle.report_text.proofs.tasks.output_rows.Goals as goal

pub returns-in_err-put : goal.returns-in_err-put
returns-in_err-put g c =
    let output = c.args.output.now in
    let n = c.loop-n.n in
    let line : c.bytes_line.result.items ≡ hex_bytes (hexadecimal_row 32 output n) ++ 10 ∷ [] = rw c.output_row.ensures.value at c.bytes_line.ensures in
    let here : n < row_count 32 output = search rules in
    progress_exit _ c.from_residual.ensures.0 (c.in_err-put.ensures _ line) (progress_at (lines_from-next (λ k. hex_bytes (hexadecimal_row 32 output k) ∷ []) n n (row_count 32 output) here) c.loop-n.invariant)

pub loop-n-preserved : goal.loop-n-preserved
loop-n-preserved g c =
    let output = c.args.output.now in
    let n = c.loop-n.n in
    let line : c.bytes_line.result.items ≡ hex_bytes (hexadecimal_row 32 output n) ++ 10 ∷ [] = rw c.output_row.ensures.value at c.bytes_line.ensures in
    let here : n < row_count 32 output = search rules in
    progress_more (c.in_ok-put.ensures _ line) (progress_at (lines_from-next (λ k. hex_bytes (hexadecimal_row 32 output k) ∷ []) n n (row_count 32 output) here) c.loop-n.invariant)
