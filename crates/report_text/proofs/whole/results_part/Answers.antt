use Rattle.std.proofs.Common.{◌≡◌, [], ◌∷◌, ◌++◌, codes}
use Rattle.report_text.proofs.WriteLemmas.{progress_start, progress_more, progress_exit, progress_last}
use Rattle.report_text.proofs.whole.results_part.Goals as goal

pub returns-in_err-tasks_text : goal.returns-in_err-tasks_text
returns-in_err-tasks_text g c =
    progress_exit _ c.from_residual.ensures.0 c.in_err-tasks_text.ensures progress_start

pub returns-in_err-sessions_text : goal.returns-in_err-sessions_text
returns-in_err-sessions_text g c =
    let first = progress_more c.in_ok-tasks_text.ensures progress_start in
    progress_exit _ c.from_residual-in_err-sessions_text.ensures.0 c.in_err-sessions_text.ensures first

pub returns : goal.returns
returns g c =
    let end : c.words_line.result.items ≡ codes "END" ++ 10 ∷ [] = c.words_line.ensures in
    let first = progress_more c.in_ok-tasks_text.ensures progress_start in
    let second = progress_more c.in_ok-sessions_text.ensures first in
    progress_last (c.put.ensures _ end) second
