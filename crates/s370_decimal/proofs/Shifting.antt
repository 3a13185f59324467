-- Shifts to the left whose whole result doesn't fit 128 bits, by the digits that stay and those that are lost.
use Rattle.std.proofs.Common.{◌≡◌, ℕ, ◌+◌, ◌-◌, ◌*◌, ◌%◌, ◌^◌, ◌<◌, ◌≤◌, Bool, false, not, nat_lt, ◌==◌, if◌then◌else◌, refl, arith, lit<, inl, inr, add-zero}
use Rattle.std.proofs.Math.Nat.{zero-mul, mul_assoc, pow-le-pow_right, mul-mod_left, mul-div_cancel, mod-one, pow-zero, lt_of_mul-lt-mul_right, mul-lt-mul_of_pos_right}
use Rattle.std.proofs.Math.Arith.{mod-mul}
use Rattle.std.proofs.lemmas.Nat.{pow-add, mod_below}
use Rattle.std.proofs.lemmas.Bool.{cases_lt, lt-ltb, ltb-true, ltb_from_iff}
use Rattle.std.proofs.lemmas.Bool.Decides.{nat_tests}
use Rattle.s370_decimal.specs.Meaning.{kept}
use Rattle.s370_decimal.proofs.Powers.{power_above, power_most}

parted : (k n : ℕ) → n ≤ k → 10 ^ k ≡ 10 ^ (k - n) * 10 ^ n
parted k n l = let e : k - n + n ≡ k = omega arith in rw e at (pow-add 10 (k - n) n)

scaled_mod : (v m c : ℕ) → 0 < m → 0 < c → v * c % (m * c) ≡ v % m * c
scaled_mod v m c p q = rw (mod-mul (v * c) p q, mul-div_cancel v q, mul-mod_left v c, add-zero) refl

-- the low k digits of a magnitude that went n digits to the left
pub left_digits : (k v n : ℕ) → v * 10 ^ n % 10 ^ k ≡ v % 10 ^ (k - n) * 10 ^ n
left_digits k v n =
    elim (cases_lt k n) [
      | inl l ↦
          let e : k - n ≡ 0 = omega arith in
          rw (parted n k (omega arith), e, pow-zero, mod-one, zero-mul, ← mul_assoc, mul-mod_left) refl
      | inr g ↦ rw (parted k n g, scaled_mod v (10 ^ (k - n)) (10 ^ n) (power_above _) (power_above _)) refl
    ]

same_test : (a b c d : ℕ) → (a < b → c < d) → (c < d → a < b) → nat_lt a b ≡ nat_lt c d
same_test a b c d f g = ltb_from_iff ((λ t. f (ltb-true a b t)), (λ l. lt-ltb a b (g l)))

-- whether they are all of its digits
pub left_fits : (k v n : ℕ) → nat_lt (v * 10 ^ n) (10 ^ k) ≡ nat_lt v (10 ^ (k - n))
left_fits k v n =
    elim (cases_lt k n) [
      | inl l ↦
          let e : k - n ≡ 0 = omega arith in
          let b : 10 ^ k ≤ 10 ^ n = pow-le-pow_right {n = 10} (lit< tt) {i = k} {j = n} (omega arith) in
          rw (e, pow-zero) (same_test (v * 10 ^ n) (10 ^ k) v 1 (λ h. lt_of_mul-lt-mul_right (10 ^ n) {m = v} {n = 1} (omega (arith, b, h))) (λ h. let z : v ≡ 0 = omega arith in rw (z, zero-mul) (power_above k)))
      | inr g ↦
          rw (parted k n g) (same_test (v * 10 ^ n) (10 ^ (k - n) * 10 ^ n) v (10 ^ (k - n)) (λ h. lt_of_mul-lt-mul_right (10 ^ n) h) (λ h. mul-lt-mul_of_pos_right h (power_above n)))
    ]

zero_test : (v n : ℕ) → (v * 10 ^ n == 0) ≡ (v == 0)
zero_test v n =
    elim (cases_lt 0 v) [
      | inl l ↦ let h : 0 * 10 ^ n < v * 10 ^ n = mul-lt-mul_of_pos_right l (power_above n) in grind (arith, nat_tests, h, zero-mul)
      | inr l ↦ let z : v ≡ 0 = omega arith in rw (z, zero-mul) refl
    ]

pub left_kept : (l v n : ℕ) (minus : Bool) → kept l (v * 10 ^ n) minus ≡ record { digits = v % 10 ^ (2 * l + 1 - n) * 10 ^ n; minus = if v == 0 then false else minus; lost = not (nat_lt v (10 ^ (2 * l + 1 - n))) }
unfolding kept
left_kept l v n minus = rw (left_digits, left_fits, zero_test) refl

pub left_below : (k v n : ℕ) → k ≤ 31 → v % 10 ^ (k - n) * 10 ^ n < 340282366920938463463374607431768211456
left_below k v n l =
    let b = power_most k l in
    let m = mod_below (v * 10 ^ n) (10 ^ k) (power_above k) in
    rw (← left_digits) (omega (arith, b, m))
