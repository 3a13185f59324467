use Rattle.std.proofs.Common.{◌≡◌, [], ◌∷◌, ◌++◌, codes}
use Rattle.report_text.specs.Meaning.{session_counts, job_lines}
use Rattle.report_text.specs.Writes.{WritesLines}
use Rattle.report_text.proofs.WriteLemmas.{progress_start, progress_more, progress_exit, progress_last}
use Rattle.report_text.proofs.counts.count_text.Goals as goal

pub returns-in_err-put : goal.returns-in_err-put
returns-in_err-put g c =
    let rest = job_lines c.args.job.now (g.R.Results.result_of c.args.results.now) (session_counts c.args.job.now c.args.tables.now (g.R.FactCounts.count_of c.args.results.now)) in
    let head : c.words_line.result.items ≡ codes "COVERAGE COUNT" ++ 10 ∷ [] = c.words_line.ensures in
    let w : WritesLines _ _ _ _ c.from_residual.result (codes "COVERAGE COUNT" ∷ rest) = progress_exit _ c.from_residual.ensures.0 (c.in_err-put.ensures _ head) progress_start in
    w.as_text

pub returns-in_err-tasks_text : goal.returns-in_err-tasks_text
returns-in_err-tasks_text g c =
    let rest = job_lines c.args.job.now (g.R.Results.result_of c.args.results.now) (session_counts c.args.job.now c.args.tables.now (g.R.FactCounts.count_of c.args.results.now)) in
    let head : c.words_line.result.items ≡ codes "COVERAGE COUNT" ++ 10 ∷ [] = c.words_line.ensures in
    let first = progress_more (c.in_ok-put.ensures _ head) progress_start in
    let w : WritesLines _ _ _ _ c.from_residual-in_err-tasks_text.result (codes "COVERAGE COUNT" ∷ rest) = progress_exit _ c.from_residual-in_err-tasks_text.ensures.0 c.in_err-tasks_text.ensures first in
    w.as_text

pub returns-in_err-sessions_counts : goal.returns-in_err-sessions_counts
returns-in_err-sessions_counts g c =
    let rest = job_lines c.args.job.now (g.R.Results.result_of c.args.results.now) (session_counts c.args.job.now c.args.tables.now (g.R.FactCounts.count_of c.args.results.now)) in
    let head : c.words_line.result.items ≡ codes "COVERAGE COUNT" ++ 10 ∷ [] = c.words_line.ensures in
    let first = progress_more (c.in_ok-put.ensures _ head) progress_start in
    let second = progress_more c.in_ok-tasks_text.ensures first in
    let w : WritesLines _ _ _ _ c.from_residual-in_err-sessions_counts.result (codes "COVERAGE COUNT" ∷ rest) = progress_exit _ c.from_residual-in_err-sessions_counts.ensures.0 c.in_err-sessions_counts.ensures second in
    w.as_text

pub returns : goal.returns
returns g c =
    let rest = job_lines c.args.job.now (g.R.Results.result_of c.args.results.now) (session_counts c.args.job.now c.args.tables.now (g.R.FactCounts.count_of c.args.results.now)) in
    let head : c.words_line.result.items ≡ codes "COVERAGE COUNT" ++ 10 ∷ [] = c.words_line.ensures in
    let end : c.words_line-2.result.items ≡ codes "END" ++ 10 ∷ [] = c.words_line-2.ensures in
    let first = progress_more (c.in_ok-put.ensures _ head) progress_start in
    let second = progress_more c.in_ok-tasks_text.ensures first in
    let third = progress_more c.in_ok-sessions_counts.ensures second in
    let w : WritesLines _ _ _ _ c.put-2.result (codes "COVERAGE COUNT" ∷ rest) = progress_last (c.put-2.ensures _ end) third in
    w.as_text
