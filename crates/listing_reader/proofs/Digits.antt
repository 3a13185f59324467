-- Tests and digits of several columns.
use Rattle.std.proofs.Common.{◌≡◌, ℕ, ◌+◌, ◌*◌, ◌^◌, ◌/◌, ◌%◌, inl, inr, unwrap_or, ◌<◌, ◌≤◌, zero, suc, Bool, true, false, Option, Some, None, List, refl, add-one, arith, eq-or-lt_of_le, lit<}
use Rattle.std.proofs.Common.{add-zero}
use Rattle.std.specs.Prelude.{option_map}
use Rattle.std.specs.Option.{option_and_then}
use Rattle.std.proofs.Math.Bool.{and-false}
use Rattle.std.proofs.Math.Nat.{pow-le-pow_right}
use Rattle.hex.specs.Hex.{hex_digit_value}
use Rattle.listing_reader.specs.declared.columns.Columns.{Columns}
use Rattle.listing_reader.specs.Meaning.{column, all_below, number_in, byte_in}

pub all_below_none : (test : ℕ → Bool) → all_below test 0 ≡ true
unfolding all_below
all_below_none test = refl

pub all_below_more : (test : ℕ → Bool) (k : ℕ) → all_below test k ≡ true → test k ≡ true → all_below test (k + 1) ≡ true
unfolding all_below
all_below_more test k h t = rw (add-one, h, t) refl

pub all_below_false : (test : ℕ → Bool) (m k : ℕ) → test k ≡ false → k < m → all_below test m ≡ false
unfolding all_below
all_below_false test zero k t h = absurd (omega arith)
all_below_false test (suc m) k t h = elim (eq-or-lt_of_le {n = k} {m = m} (omega arith)) [
  | inl e ↦ rw (← e, t) (and-false (all_below test k))
  | inr l ↦ rw (all_below_false test m k t l) refl
]

-- the number with a digit more
abbrev pub with_digit : Option ℕ → Option ℕ → Option ℕ
with_digit n d = option_and_then (λ v. option_map (λ k. 16 * v + k) d) n

no_digit : (n : Option ℕ) → with_digit n None ≡ None
no_digit None = refl
no_digit (Some n) = refl

pub number_in_more : (line : List ℕ) (shift from k n d : ℕ) → number_in line shift from k ≡ Some n → hex_digit_value (column line shift (from + k)) ≡ Some d → number_in line shift from (k + 1) ≡ Some (16 * n + d)
unfolding number_in
number_in_more line shift from k n d h e = rw (add-one, h, e) refl

pub number_in_none : (line : List ℕ) (shift from m k : ℕ) → hex_digit_value (column line shift (from + k)) ≡ None → k < m → number_in line shift from m ≡ None
unfolding number_in
number_in_none line shift from zero k e h = absurd (omega arith)
number_in_none line shift from (suc m) k e h = elim (eq-or-lt_of_le {n = k} {m = m} (omega arith)) [
  | inl q ↦ rw (← q, e) (no_digit (number_in line shift from k))
  | inr l ↦ rw (number_in_none line shift from m k e l) refl
]

-- two digits
pub number_in_two : (line : List ℕ) (shift from : ℕ) → number_in line shift from 2 ≡ with_digit (with_digit (Some 0) (hex_digit_value (column line shift from))) (hex_digit_value (column line shift (from + 1)))
unfolding number_in
number_in_two line shift from = rw (add-zero from) refl

pub power_16 : (i : ℕ) → i < 8 → 16 ^ i ≤ 268435456
power_16 i h = pow-le-pow_right {n = 16} (lit< tt) {i = i} {j = 7} (omega arith)

-- a byte of the object code by its two digits
pub byte_in_two : (c : Columns) (line : List ℕ) (shift i : ℕ) (high low : Option ℕ) → hex_digit_value (column line shift (c.object + 5 * (i / 2) + 2 * (i % 2))) ≡ high
    → hex_digit_value (column line shift (c.object + 5 * (i / 2) + 2 * (i % 2) + 1)) ≡ low → byte_in c line shift i ≡ unwrap_or (with_digit (with_digit (Some 0) high) low) 0
unfolding byte_in
byte_in_two c line shift i high low e f = rw (number_in_two line shift (c.object + 5 * (i / 2) + 2 * (i % 2)), e, f) refl
