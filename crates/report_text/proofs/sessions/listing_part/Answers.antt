use Rattle.std.proofs.Common.{◌≡◌, ℕ, ◌+◌, ◌-◌, ◌<◌, ◌≤◌, ◌++◌, ◌∷◌, [], List, length, get_or, arith}
use Rattle.annotator.specs.Meaning.{annotated}
use Rattle.report_text.specs.Meaning.{line_mark}
use Rattle.report_text.proofs.RowLemmas.{lines_from-next, lines_from-end}
use Rattle.report_text.proofs.WriteLemmas.{progress_start, progress_at, progress_more, progress_exit, progress_end}
use Rattle.report_text.proofs.sessions.listing_part.Goals as goal

pub loop-i-init : goal.loop-i-init
loop-i-init g c = let whole : length c.args.lines.now - 0 ≡ length c.args.lines.now = omega arith in rw whole progress_start

pub returns-in_err-put : goal.returns-in_err-put
returns-in_err-put g c =
    let lines = c.args.lines.now in
    let text : ℕ → List ℕ = λ i. annotated (line_mark c.args.tables.now (g.R.FactSets.set_of c.args.sets.now c.args.s.0) c.args.m (i + 1)) (get_or lines i []) in
    let i = c.loop-i.i in
    let here : i < length lines = omega (arith, c.len-i-end.ensures) in
    let is : c.marked_line.result.items ≡ text i ++ 10 ∷ [] = rw (c.mark_at-mark.ensures, c.line.ensures) at c.marked_line.ensures in
    progress_exit _ c.from_residual.ensures.0 (c.in_err-put.ensures _ is) (progress_at (lines_from-next (λ k. text k ∷ []) i i (length lines) here) c.loop-i.invariant)

pub loop-i-preserved : goal.loop-i-preserved
loop-i-preserved g c =
    let lines = c.args.lines.now in
    let text : ℕ → List ℕ = λ i. annotated (line_mark c.args.tables.now (g.R.FactSets.set_of c.args.sets.now c.args.s.0) c.args.m (i + 1)) (get_or lines i []) in
    let i = c.loop-i.i in
    let here : i < length lines = omega (arith, c.len-i-end.ensures) in
    let is : c.marked_line.result.items ≡ text i ++ 10 ∷ [] = rw (c.mark_at-mark.ensures, c.line.ensures) at c.marked_line.ensures in
    progress_more (c.in_ok-put.ensures _ is) (progress_at (lines_from-next (λ k. text k ∷ []) i i (length lines) here) c.loop-i.invariant)

pub returns : goal.returns
returns g c =
    let text : ℕ → List ℕ = λ i. annotated (line_mark c.args.tables.now (g.R.FactSets.set_of c.args.sets.now c.args.s.0) c.args.m (i + 1)) (get_or c.args.lines.now i []) in
    let past : length c.args.lines.now ≤ c.loop-i.i = omega (arith, c.len-i-end.ensures) in
    progress_end (progress_at (lines_from-end (λ k. text k ∷ []) c.loop-i.i c.loop-i.i (length c.args.lines.now) past) c.loop-i.invariant)
