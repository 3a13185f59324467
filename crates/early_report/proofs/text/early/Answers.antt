use Rattle.std.proofs.Common.{◌≡◌, [], ◌∷◌, ◌++◌, map, codes, rules}
use Rattle.report_text.specs.Meaning.{job_lines}
use Rattle.report_text.specs.Writes.{WritesLines}
use Rattle.report_text.proofs.Laws.{progress_start, progress_more, progress_exit, progress_last}
use Rattle.early_report.specs.Meaning.{early_part}
use Rattle.early_report.specs.Text.{drained_of}
use Rattle.early_report.proofs.text.early.Goals as goal

pub returns-in_err-put : goal.returns-in_err-put
returns-in_err-put g c =
    let rest = job_lines c.args.job.now (g.R.Results.result_of c.args.results.now) (early_part c.args.job.now c.args.tables.now (g.R.FactSets.set_of c.args.results.now) (drained_of c.args.job.now (map (λ v. v.items) c.args.lists.now))) in
    let head : c.words_line.result.items ≡ codes "COVERAGE REPORT" ++ 10 ∷ [] = search rules in
    let w : WritesLines _ _ _ _ c.from_residual.result (codes "COVERAGE REPORT" ∷ rest) = progress_exit _ c.from_residual.ensures.0 (c.in_err-put.ensures _ head) progress_start in
    w.as_text

pub returns-in_err-tasks_text : goal.returns-in_err-tasks_text
returns-in_err-tasks_text g c =
    let rest = job_lines c.args.job.now (g.R.Results.result_of c.args.results.now) (early_part c.args.job.now c.args.tables.now (g.R.FactSets.set_of c.args.results.now) (drained_of c.args.job.now (map (λ v. v.items) c.args.lists.now))) in
    let head : c.words_line.result.items ≡ codes "COVERAGE REPORT" ++ 10 ∷ [] = search rules in
    let first = progress_more (c.in_ok-put.ensures _ head) progress_start in
    let w : WritesLines _ _ _ _ c.from_residual-in_err-tasks_text.result (codes "COVERAGE REPORT" ∷ rest) = progress_exit _ c.from_residual-in_err-tasks_text.ensures.0 c.in_err-tasks_text.ensures first in
    w.as_text

pub returns-in_err-early_parts : goal.returns-in_err-early_parts
returns-in_err-early_parts g c =
    let rest = job_lines c.args.job.now (g.R.Results.result_of c.args.results.now) (early_part c.args.job.now c.args.tables.now (g.R.FactSets.set_of c.args.results.now) (drained_of c.args.job.now (map (λ v. v.items) c.args.lists.now))) in
    let head : c.words_line.result.items ≡ codes "COVERAGE REPORT" ++ 10 ∷ [] = search rules in
    let first = progress_more (c.in_ok-put.ensures _ head) progress_start in
    let second = progress_more c.in_ok-tasks_text.ensures first in
    let w : WritesLines _ _ _ _ c.from_residual-in_err-early_parts.result (codes "COVERAGE REPORT" ∷ rest) = progress_exit _ c.from_residual-in_err-early_parts.ensures.0 c.in_err-early_parts.ensures second in
    w.as_text

pub returns : goal.returns
returns g c =
    let rest = job_lines c.args.job.now (g.R.Results.result_of c.args.results.now) (early_part c.args.job.now c.args.tables.now (g.R.FactSets.set_of c.args.results.now) (drained_of c.args.job.now (map (λ v. v.items) c.args.lists.now))) in
    let head : c.words_line.result.items ≡ codes "COVERAGE REPORT" ++ 10 ∷ [] = search rules in
    let end : c.words_line-2.result.items ≡ codes "END" ++ 10 ∷ [] = search rules in
    let first = progress_more (c.in_ok-put.ensures _ head) progress_start in
    let second = progress_more c.in_ok-tasks_text.ensures first in
    let third = progress_more c.in_ok-early_parts.ensures second in
    let w : WritesLines _ _ _ _ c.put-2.result (codes "COVERAGE REPORT" ∷ rest) = progress_last (c.put-2.ensures _ end) third in
    w.as_text
