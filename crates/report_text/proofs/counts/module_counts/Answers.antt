use Rattle.std.proofs.Common.{◌≡◌, ℕ, ◌-◌, List, [], ◌∷◌, ◌++◌, arith}
use Rattle.brk_table.specs.Meaning.{place_count}
use Rattle.module_area.specs.Meaning.{place_of}
use Rattle.session_book.specs.Meaning.{module_of}
use Rattle.report_text.specs.Meaning.{count_line, location_of, module_line}
use Rattle.report_text.proofs.RowLemmas.{lines_from-next, lines_from-end}
use Rattle.report_text.proofs.WriteLemmas.{progress_start, progress_at, progress_more, progress_exit, progress_last, progress_end}
use Rattle.report_text.proofs.counts.module_counts.Goals as goal

pub returns-in_err-put : goal.returns-in_err-put
returns-in_err-put g c =
    let size = place_count c.args.tables.now.tables c.args.m in
    let count : c.range-first.result.1 - c.range-first.result.0 ≡ size = omega arith in
    let text : c.module_line.result.items ≡ module_line (module_of c.args.job.now c.args.m).name size ++ 10 ∷ [] = rw (count, c.module_name.ensures) at c.module_line.ensures in
    progress_exit _ c.from_residual.ensures.0 (c.in_err-put.ensures _ text) progress_start

pub returns-in_err-put-2 : goal.returns-in_err-put-2
returns-in_err-put-2 g c =
    let size = place_count c.args.tables.now.tables c.args.m in
    let count : c.range-first.result.1 - c.range-first.result.0 ≡ size = omega arith in
    let head : c.module_line.result.items ≡ module_line (module_of c.args.job.now c.args.m).name size ++ 10 ∷ [] = rw (count, c.module_name.ensures) at c.module_line.ensures in
    let counted = progress_more (c.in_ok-put.ensures _ head) progress_start in
    let places = c.args.tables.now.places in
    let counts = g.R.FactCounts.count_of c.args.counts.now c.args.s.0 in
    let text : ℕ → List ℕ = λ n. count_line (location_of c.args.job.now (place_of places n)) (place_of places n).kind (counts n) in
    let n = c.loop-n.n in
    let line : c.count_line.result.items ≡ text n ++ 10 ∷ [] = rw (c.location.ensures.value, c.place-place.ensures.value) at c.count_line.ensures in
    let part = progress_exit _ c.from_residual-in_err-put-2.ensures.0 (c.in_err-put-2.ensures _ line) (progress_at (lines_from-next (λ k. text k ∷ []) n n c.range-first.result.1 c.loop-n-test.true) c.loop-n.invariant) in
    progress_last (rw (count, c.range-first.ensures.first) at part) counted

pub loop-n-preserved : goal.loop-n-preserved
loop-n-preserved g c =
    let places = c.args.tables.now.places in
    let counts = g.R.FactCounts.count_of c.args.counts.now c.args.s.0 in
    let text : ℕ → List ℕ = λ n. count_line (location_of c.args.job.now (place_of places n)) (place_of places n).kind (counts n) in
    let n = c.loop-n.n in
    let line : c.count_line.result.items ≡ text n ++ 10 ∷ [] = rw (c.location.ensures.value, c.place-place.ensures.value) at c.count_line.ensures in
    progress_more (c.in_ok-put-2.ensures _ line) (progress_at (lines_from-next (λ k. text k ∷ []) n n c.range-first.result.1 c.loop-n-test.true) c.loop-n.invariant)

pub returns : goal.returns
returns g c =
    let size = place_count c.args.tables.now.tables c.args.m in
    let count : c.range-first.result.1 - c.range-first.result.0 ≡ size = omega arith in
    let head : c.module_line.result.items ≡ module_line (module_of c.args.job.now c.args.m).name size ++ 10 ∷ [] = rw (count, c.module_name.ensures) at c.module_line.ensures in
    let counted = progress_more (c.in_ok-put.ensures _ head) progress_start in
    let places = c.args.tables.now.places in
    let counts = g.R.FactCounts.count_of c.args.counts.now c.args.s.0 in
    let text : ℕ → List ℕ = λ n. count_line (location_of c.args.job.now (place_of places n)) (place_of places n).kind (counts n) in
    let n = c.loop-n.n in
    let part = progress_at (lines_from-end (λ k. text k ∷ []) n n c.range-first.result.1 c.loop-n-test.false) c.loop-n.invariant in
    progress_last (progress_end (rw (count, c.range-first.ensures.first) at part)) counted
