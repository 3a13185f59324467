-- Places, and sums over numbers.
use Rattle.std.proofs.Common.{◌≡◌, ℕ, ◌+◌, ◌-◌, ◌<◌, suc, List, if◌then◌else◌, nat_eq, refl, arith}
use Rattle.annotator.specs.Meaning.{mark_byte}
use Rattle.cov_base.specs.Meaning.{FactSet, full_of, mark_of}
use Rattle.cov_base.specs.declared.marks.Mark.{Mark}
-- by this name a line of the source gives it
pub use Rattle.cov_base.proofs.Laws.{length_of-least as some_length}
use Rattle.module_area.specs.Meaning.{fact_count, place_of}
use Rattle.module_area.specs.declared.places.Place.{Place}
use Rattle.session_book.specs.Meaning.{ResultView}
use Rattle.report_text.specs.Meaning.{lacks, sum_from}

-- what a place adds to each sum of a report, and a task
abbrev pub executed_at : (ℕ → FactSet) → ℕ → ℕ
executed_at sets n = if lacks (sets n) then 0 else 1

abbrev pub facts_at : (ℕ → FactSet) → ℕ → ℕ
facts_at sets n = fact_count (sets n)

abbrev pub possible_at : List Place → ℕ → ℕ
possible_at places n = fact_count (full_of (place_of places n).kind)

abbrev pub marked_at : Mark → List Place → (ℕ → FactSet) → ℕ → ℕ
marked_at mark places sets n = if nat_eq (mark_byte mark) (mark_byte (mark_of (place_of places n).kind (sets n))) then 1 else 0

abbrev pub done_at : (ℕ → ResultView) → ℕ → ℕ
done_at results t = (results t).done

-- the sum so far and the rest
pub sum_from-next : (amount : ℕ → ℕ) (n past : ℕ) → n < past → sum_from amount n (past - n) ≡ amount n + sum_from amount (n + 1) (past - (n + 1))
sum_from-next amount n past h = let one : past - n ≡ suc (past - (n + 1)) = omega arith in rw one refl

pub sum_step : (amount : ℕ → ℕ) (n past so_far x total : ℕ) → n < past → x ≡ amount n → so_far + sum_from amount n (past - n) ≡ total → so_far + x + sum_from amount (n + 1) (past - (n + 1)) ≡ total
sum_step amount n past so_far x total h is sum = omega (arith, sum, sum_from-next amount n past h, is)
