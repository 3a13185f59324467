use Rattle.std.proofs.Common.{◌≡◌, ℕ, List, [], ◌∷◌, ◌++◌, codes, rules}
use Rattle.report_text.specs.Meaning.{session_part}
use Rattle.report_text.specs.Writes.{WritesLines}
use Rattle.report_text.proofs.Laws.{progress_start, progress_more, progress_exit, progress_last}
use Rattle.job_answers.proofs.showing.show_text.Goals as goal

pub returns-in_err-put : goal.returns-in_err-put
returns-in_err-put g c =
    let part = session_part c.args.job.now c.args.tables.now (g.R.FactSets.set_of c.args.sets.now) c.args.s.0 in
    let all : List (List ℕ) = codes "COVERAGE SHOW" ∷ (part ++ (codes "END" ∷ [])) in
    let head : c.words_line.result.items ≡ codes "COVERAGE SHOW" ++ 10 ∷ [] = search rules in
    let w : WritesLines _ _ _ _ c.from_residual.result all = progress_exit _ c.from_residual.ensures.0 (c.in_err-put.ensures _ head) progress_start in
    w.as_text

pub returns-in_err-session_part : goal.returns-in_err-session_part
returns-in_err-session_part g c =
    let part = session_part c.args.job.now c.args.tables.now (g.R.FactSets.set_of c.args.sets.now) c.args.s.0 in
    let all : List (List ℕ) = codes "COVERAGE SHOW" ∷ (part ++ (codes "END" ∷ [])) in
    let head : c.words_line.result.items ≡ codes "COVERAGE SHOW" ++ 10 ∷ [] = search rules in
    let first = progress_more {all = all} (c.in_ok-put.ensures _ head) progress_start in
    let w : WritesLines _ _ _ _ c.from_residual-in_err-session_part.result all = progress_exit {piece = part} _ c.from_residual-in_err-session_part.ensures.0 (record { as_text = c.in_err-session_part.ensures }) first in
    w.as_text

pub returns : goal.returns
returns g c =
    let part = session_part c.args.job.now c.args.tables.now (g.R.FactSets.set_of c.args.sets.now) c.args.s.0 in
    let all : List (List ℕ) = codes "COVERAGE SHOW" ∷ (part ++ (codes "END" ∷ [])) in
    let head : c.words_line.result.items ≡ codes "COVERAGE SHOW" ++ 10 ∷ [] = search rules in
    let end : c.words_line-2.result.items ≡ codes "END" ++ 10 ∷ [] = search rules in
    let first = progress_more {all = all} (c.in_ok-put.ensures _ head) progress_start in
    let second = progress_more {piece = part} {all = all} (record { as_text = c.in_ok-session_part.ensures }) first in
    let w : WritesLines _ _ _ _ c.put-2.result all = progress_last (c.put-2.ensures _ end) second in
    w.as_text
