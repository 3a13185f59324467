use Rattle.std.proofs.Common.{◌≡◌, [], ◌∷◌, ◌++◌, length, codes, decimal}
use Rattle.report_text.specs.Meaning.{output_lines}
use Rattle.report_text.proofs.WriteLemmas.{progress_start, progress_more, progress_exit, progress_last}
use Rattle.report_text.proofs.tasks.output_part.Goals as goal

pub returns-in_err-put : goal.returns-in_err-put
unfolding output_lines
returns-in_err-put g c =
    let count : c.output_line.result.items ≡ (codes "OUT " ++ decimal (length c.args.output.now)) ++ 10 ∷ [] = c.output_line.ensures in
    progress_exit _ c.from_residual.ensures.0 (c.in_err-put.ensures _ count) progress_start

pub returns : goal.returns
unfolding output_lines
returns g c =
    let count : c.output_line.result.items ≡ (codes "OUT " ++ decimal (length c.args.output.now)) ++ 10 ∷ [] = c.output_line.ensures in
    let first = progress_more (c.in_ok-put.ensures _ count) progress_start in
    progress_last c.output_rows.ensures first
