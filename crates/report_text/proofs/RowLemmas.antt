-- Rows, one after another.
use Rattle.std.proofs.Common.{◌≡◌, ℕ, ◌+◌, ◌-◌, ◌<◌, ◌≤◌, min, inl, inr, zero, suc, Bool, true, false, not, if◌then◌else◌, bytes_eq, codes, List, [], ◌∷◌, ◌++◌, refl, sym, ap, ◌∙◌, arith, append_assoc, append-nil}
use Rattle.std.proofs.lemmas.Bool.{cases_lt}
use Rattle.std.proofs.lemmas.Bool.{false≢true}
use Rattle.annotator.specs.Meaning.{hex_digits}
use Rattle.report_text.specs.Meaning.{row_lines, hex_bytes, lines_from}

-- the lines of the next number, and those after it
pub lines_from-next : (lines : ℕ → List (List ℕ)) (at n count : ℕ) → n < count → lines_from lines at (count - n) ≡ lines at ++ lines_from lines (at + 1) (count - (n + 1))
lines_from-next lines at n count h = let one : count - n ≡ suc (count - (n + 1)) = omega arith in rw one refl

pub lines_from-end : (lines : ℕ → List (List ℕ)) (at n count : ℕ) → count ≤ n → lines_from lines at (count - n) ≡ []
lines_from-end lines at n count h = let none : count - n ≡ 0 = omega arith in rw none refl

lines_from-split : (lines : ℕ → List (List ℕ)) (at some more : ℕ) → lines_from lines at (some + more) ≡ lines_from lines at some ++ lines_from lines (at + some) more
lines_from-split lines at zero more =
    let none : at + 0 ≡ at = omega arith in
    let all : 0 + more ≡ more = omega arith in
    rw (none, all) refl
lines_from-split lines at (suc some) more =
    let one_more : suc some + more ≡ suc (some + more) = omega arith in
    let next : at + suc some ≡ at + 1 + some = omega arith in
    rw (one_more, next) (ap (λ rest. lines at ++ rest) (lines_from-split lines (at + 1) some more) ∙ sym (append_assoc (lines at) (lines_from lines (at + 1) some) (lines_from lines (at + 1 + some) more)))

-- the lines of the next block of numbers, and those after it
pub lines_from-block : (lines : ℕ → List (List ℕ)) (at step count : ℕ) → at ≤ count → lines_from lines at (count - at) ≡ lines_from lines at (min (at + step) count - at) ++ lines_from lines (at + step) (count - (at + step))
lines_from-block lines at step count h = elim (cases_lt (at + step) count) [
  | inl whole ↦
      let width : min (at + step) count - at ≡ step = omega arith in
      let all : count - at ≡ step + (count - (at + step)) = omega arith in
      rw width (ap (lines_from lines at) all ∙ lines_from-split lines at step (count - (at + step)))
  | inr last ↦
      let width : min (at + step) count - at ≡ count - at = omega arith in
      rw width (sym (append-nil (lines_from lines at (count - at))) ∙ ap (λ rest. lines_from lines at (count - at) ++ rest) (sym (lines_from-end lines (at + step) (at + step) count last)))
]

unless : (same : Bool) (lines : List (List ℕ)) → not same ≡ true → (if same then [] else lines) ≡ lines
unless true lines h = absurd (false≢true h)
unless false lines h = refl

where_same : (same : Bool) (lines : List (List ℕ)) → not same ≡ false → (if same then [] else lines) ≡ []
where_same true lines h = refl
where_same false lines h = absurd (false≢true (sym h))

pub row_lines-changed : (at : ℕ) (first now : List ℕ) (changed : Bool) → changed ≡ not (bytes_eq first now) → changed ≡ true → row_lines at first now ≡ (codes "STOR " ++ hex_digits 6 at ++ codes " " ++ hex_bytes now) ∷ []
unfolding row_lines
row_lines-changed at first now changed test holds = unless (bytes_eq first now) ((codes "STOR " ++ hex_digits 6 at ++ codes " " ++ hex_bytes now) ∷ []) (sym test ∙ holds)

pub row_lines-same : (at : ℕ) (first now : List ℕ) (changed : Bool) → changed ≡ not (bytes_eq first now) → changed ≡ false → row_lines at first now ≡ []
unfolding row_lines
row_lines-same at first now changed test fails = where_same (bytes_eq first now) ((codes "STOR " ++ hex_digits 6 at ++ codes " " ++ hex_bytes now) ∷ []) (sym test ∙ fails)
