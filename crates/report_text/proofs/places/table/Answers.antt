use Rattle.std.proofs.Common.{◌≡◌, [], ◌∷◌, ◌++◌, length, codes}
use Rattle.report_text.specs.Meaning.{table_part, lines_from}
use Rattle.report_text.specs.Writes.{WritesLines}
use Rattle.report_text.proofs.WriteLemmas.{progress_start, progress_more, progress_exit, progress_last}
use Rattle.report_text.proofs.places.table.Goals as goal

pub returns-in_err-put : goal.returns-in_err-put
returns-in_err-put g c =
    let rest = lines_from (table_part c.args.job.now c.args.tables.now) 0 (length c.args.job.now.images) ++ (codes "END" ∷ []) in
    let head : c.words_line.result.items ≡ codes "COVERAGE TABLE" ++ 10 ∷ [] = c.words_line.ensures in
    let w : WritesLines _ _ _ _ c.from_residual.result (codes "COVERAGE TABLE" ∷ rest) = progress_exit _ c.from_residual.ensures.0 (c.in_err-put.ensures _ head) progress_start in
    w.as_text

pub returns-in_err-modules_text : goal.returns-in_err-modules_text
returns-in_err-modules_text g c =
    let rest = lines_from (table_part c.args.job.now c.args.tables.now) 0 (length c.args.job.now.images) ++ (codes "END" ∷ []) in
    let head : c.words_line.result.items ≡ codes "COVERAGE TABLE" ++ 10 ∷ [] = c.words_line.ensures in
    let first = progress_more (c.in_ok-put.ensures _ head) progress_start in
    let w : WritesLines _ _ _ _ c.from_residual-in_err-modules_text.result (codes "COVERAGE TABLE" ∷ rest) = progress_exit _ c.from_residual-in_err-modules_text.ensures.0 c.in_err-modules_text.ensures first in
    w.as_text

pub returns : goal.returns
returns g c =
    let rest = lines_from (table_part c.args.job.now c.args.tables.now) 0 (length c.args.job.now.images) ++ (codes "END" ∷ []) in
    let head : c.words_line.result.items ≡ codes "COVERAGE TABLE" ++ 10 ∷ [] = c.words_line.ensures in
    let end : c.words_line-2.result.items ≡ codes "END" ++ 10 ∷ [] = c.words_line-2.ensures in
    let first = progress_more (c.in_ok-put.ensures _ head) progress_start in
    let second = progress_more c.in_ok-modules_text.ensures first in
    let w : WritesLines _ _ _ _ c.put-2.result (codes "COVERAGE TABLE" ∷ rest) = progress_last (c.put-2.ensures _ end) second in
    w.as_text
