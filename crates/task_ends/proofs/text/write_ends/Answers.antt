use Rattle.std.proofs.Common.{◌≡◌, [], ◌∷◌, ◌++◌, length, codes, rules}
use Rattle.report_text.specs.Meaning.{lines_from}
use Rattle.report_text.specs.Writes.{WritesLines}
use Rattle.report_text.proofs.Laws.{progress_start, progress_more, progress_exit, progress_last}
use Rattle.task_ends.proofs.Parts.{end_part, unlisted_part}
use Rattle.task_ends.proofs.text.write_ends.Goals as goal

pub returns-in_err-put : goal.returns-in_err-put
returns-in_err-put g c = λ each unlisted is.
    let rest = lines_from (end_part c.args.job.now each) 0 (length c.args.job.now.tasks) ++ (lines_from (unlisted_part c.args.job.now unlisted) 0 (length c.args.job.now.images) ++ (codes "END" ∷ [])) in
    let head : c.words_line.result.items ≡ codes "COVERAGE ENDS" ++ 10 ∷ [] = search rules in
    let w : WritesLines _ _ _ _ c.from_residual.result (codes "COVERAGE ENDS" ∷ rest) = progress_exit _ c.from_residual.ensures.0 (c.in_err-put.ensures _ head) progress_start in
    w.as_text

pub returns-in_err-tasks_text : goal.returns-in_err-tasks_text
returns-in_err-tasks_text g c = λ each unlisted is.
    let rest = lines_from (end_part c.args.job.now each) 0 (length c.args.job.now.tasks) ++ (lines_from (unlisted_part c.args.job.now unlisted) 0 (length c.args.job.now.images) ++ (codes "END" ∷ [])) in
    let head : c.words_line.result.items ≡ codes "COVERAGE ENDS" ++ 10 ∷ [] = search rules in
    let first = progress_more (c.in_ok-put.ensures _ head) progress_start in
    let w : WritesLines _ _ _ _ c.from_residual-in_err-tasks_text.result (codes "COVERAGE ENDS" ∷ rest) = progress_exit _ c.from_residual-in_err-tasks_text.ensures.0 (c.in_err-tasks_text.ensures each unlisted is) first in
    w.as_text

pub returns-in_err-modules_text : goal.returns-in_err-modules_text
returns-in_err-modules_text g c = λ each unlisted is.
    let rest = lines_from (end_part c.args.job.now each) 0 (length c.args.job.now.tasks) ++ (lines_from (unlisted_part c.args.job.now unlisted) 0 (length c.args.job.now.images) ++ (codes "END" ∷ [])) in
    let head : c.words_line.result.items ≡ codes "COVERAGE ENDS" ++ 10 ∷ [] = search rules in
    let first = progress_more (c.in_ok-put.ensures _ head) progress_start in
    let second = progress_more (c.in_ok-tasks_text.ensures each unlisted is) first in
    let w : WritesLines _ _ _ _ c.from_residual-in_err-modules_text.result (codes "COVERAGE ENDS" ∷ rest) = progress_exit _ c.from_residual-in_err-modules_text.ensures.0 (c.in_err-modules_text.ensures each unlisted is) second in
    w.as_text

pub returns : goal.returns
returns g c = λ each unlisted is.
    let rest = lines_from (end_part c.args.job.now each) 0 (length c.args.job.now.tasks) ++ (lines_from (unlisted_part c.args.job.now unlisted) 0 (length c.args.job.now.images) ++ (codes "END" ∷ [])) in
    let head : c.words_line.result.items ≡ codes "COVERAGE ENDS" ++ 10 ∷ [] = search rules in
    let end : c.words_line-2.result.items ≡ codes "END" ++ 10 ∷ [] = search rules in
    let first = progress_more (c.in_ok-put.ensures _ head) progress_start in
    let second = progress_more (c.in_ok-tasks_text.ensures each unlisted is) first in
    let third = progress_more (c.in_ok-modules_text.ensures each unlisted is) second in
    let w : WritesLines _ _ _ _ c.put-2.result (codes "COVERAGE ENDS" ∷ rest) = progress_last (c.put-2.ensures _ end) third in
    w.as_text
