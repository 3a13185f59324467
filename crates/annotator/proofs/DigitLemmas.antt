-- How many digits a number has, and one digit more.
use Rattle.std.proofs.Common.{◌≡◌, ℕ, zero, suc, ◌+◌, ◌-◌, ◌/◌, ◌%◌, ◌^◌, ◌<◌, ◌≤◌, true, List, [], ◌∷◌, ◌++◌, length, drop, sym, ap, ◌∙◌, arith, append_assoc, decimal, slice_set}
use Rattle.std.specs.Fmt.{digit_glyph}
use Rattle.std.proofs.lemmas.Fmt.{length-decimal-le}
use Rattle.std.proofs.lemmas.List.{drop-set}
use Rattle.annotator.specs.Meaning.{hex_digits}

-- a number of 32 bits
pub decimal_of_word : (n : ℕ) → n < 2 ^ 32 → length (decimal n) ≤ 10
decimal_of_word n h = length-decimal-le 10 n (omega arith) (omega arith) (omega arith)

-- a number of 64 bits
pub decimal_of_double : (n : ℕ) → n < 2 ^ 64 → length (decimal n) ≤ 20
decimal_of_double n h = length-decimal-le 20 n (omega arith) (omega arith) h

-- the last digit joins those after it
pub hex_step : (k n : ℕ) (after : List ℕ) → 0 < k →
    hex_digits k n ++ after ≡ hex_digits (k - 1) (n / 16) ++ digit_glyph true (n % 16) ∷ after
hex_step zero n after some = absurd (omega arith)
hex_step (suc k) n after some = append_assoc (hex_digits k (n / 16)) (digit_glyph true (n % 16) ∷ []) after ∙ ap (λ m. hex_digits m (n / 16) ++ digit_glyph true (n % 16) ∷ after) {x = k} {y = suc k - 1} (omega arith)

-- the digits so far, after the next one is put before them
pub hex_put : (at first rest : ℕ) (out all : List ℕ) → first < at → at ≤ length out →
    hex_digits (at - first) rest ++ drop at out ≡ all →
    hex_digits (at - 1 - first) (rest / 16) ++ drop (at - 1) (slice_set out (at - 1) (digit_glyph true (rest % 16))) ≡ all
hex_put at first rest out all before fits so_far =
    let glyph = digit_glyph true (rest % 16) in
    let put : drop (at - 1) (slice_set out (at - 1) glyph) ≡ glyph ∷ drop at out = drop-set out (at - 1) glyph (omega arith) ∙ ap (λ m. glyph ∷ drop m out) {x = at - 1 + 1} {y = at} (omega arith) in
    let width : at - 1 - first ≡ at - first - 1 = omega arith in
    rw (put, width) (sym (hex_step (at - first) rest (drop at out) (omega arith)) ∙ so_far)
