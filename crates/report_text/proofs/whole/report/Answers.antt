use Rattle.std.proofs.Common.{◌≡◌, [], ◌∷◌, ◌++◌, codes}
use Rattle.report_text.specs.Meaning.{result_lines}
use Rattle.report_text.specs.Writes.{WritesLines}
use Rattle.report_text.proofs.WriteLemmas.{progress_start, progress_more, progress_exit, progress_last}
use Rattle.report_text.proofs.whole.report.Goals as goal

pub returns-in_err-put : goal.returns-in_err-put
returns-in_err-put g c =
    let rest = result_lines c.args.job.now c.args.tables.now (g.R.Results.result_of c.args.results.now) (g.R.FactSets.set_of c.args.results.now) in
    let head : c.words_line.result.items ≡ codes "COVERAGE REPORT" ++ 10 ∷ [] = c.words_line.ensures in
    let w : WritesLines _ _ _ _ c.from_residual.result (codes "COVERAGE REPORT" ∷ rest) = progress_exit rest c.from_residual.ensures.0 (c.in_err-put.ensures _ head) progress_start in
    w.as_text

pub returns : goal.returns
returns g c =
    let rest = result_lines c.args.job.now c.args.tables.now (g.R.Results.result_of c.args.results.now) (g.R.FactSets.set_of c.args.results.now) in
    let head : c.words_line.result.items ≡ codes "COVERAGE REPORT" ++ 10 ∷ [] = c.words_line.ensures in
    let w : WritesLines _ _ _ _ c.results_part.result (codes "COVERAGE REPORT" ∷ rest) = progress_last c.results_part.ensures (progress_more (c.in_ok-put.ensures _ head) progress_start) in
    w.as_text
