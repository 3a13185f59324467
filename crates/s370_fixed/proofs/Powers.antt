-- Shifts as products and quotients by powers of two.
use Rattle.std.proofs.Common.{◌≡◌, ℕ, ◌*◌, ◌%◌, ◌^◌, ◌<◌, ◌≤◌, ℤ, pos, negsuc, refl, arith, lit<, FitsSigned}
use Rattle.std.specs.Prelude.{◌*ℤ◌}
use Rattle.std.specs.Int.{w64, w128, int_shr}
use Rattle.std.specs.Int.RustNames.{unsigned_abs}
use Rattle.std.proofs.Math.Nat.{mod-eq_of_lt}
use Rattle.std.proofs.Math.Pow.{pow_mono}
use Rattle.std.proofs.lemmas.Int.{ints, fits_signed_mul}
use Rattle.s370_fixed.specs.Meaning.{right_by}

power_most : (n : ℕ) → n < 64 → 2 ^ n ≤ 9223372036854775808
power_most n h = let p : 2 ^ n ≤ 2 ^ 63 = pow_mono {i = n} {j = 63} (omega arith) in omega (arith, p)

pub power_below : (n : ℕ) → n < 64 → 1 * 2 ^ n < 18446744073709551616
power_below n h = let p = power_most n h in omega (arith, p)

pub power_is : (n : ℕ) → n < 64 → 1 * 2 ^ n % 18446744073709551616 ≡ 2 ^ n
power_is n h = let p = power_most n h in let e : 1 * 2 ^ n ≡ 2 ^ n = omega arith in rw e (mod-eq_of_lt (omega (arith, p)))

abs_of : (z : ℤ) → FitsSigned w64 z → unsigned_abs z ≤ 9223372036854775808
abs_of (pos n) f = let l : n < 9223372036854775808 = f.sfits in omega (arith, ints)
abs_of (negsuc n) f = let l : n < 9223372036854775808 = f.sfits in omega (arith, ints)

pub left_fits : (x : ℤ) (n : ℕ) → FitsSigned w64 x → n < 64 → FitsSigned w128 (x *ℤ pos (2 ^ n))
left_fits x n f h = fits_signed_mul w128 x (pos (2 ^ n)) 9223372036854775808 9223372036854775808 (abs_of x f) (power_most n h) (lit< tt)

-- a shift that copies the sign bit divides, and rounds down
pub right_is : (x : ℤ) (n : ℕ) → int_shr x n ≡ right_by x n
unfolding right_by
right_is (pos a) n = refl
right_is (negsuc a) n = refl
