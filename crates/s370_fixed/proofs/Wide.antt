-- Products and quotients of 64 bits.
use Rattle.std.proofs.Common.{◌≡◌, ◌<◌, ◌≤◌, ◌^◌, ℤ, pos, negsuc, neg_ℤ, ◌*ℤ◌, true, false, sym, arith, lit<, FitsSigned, nat_lt}
use Rattle.std.specs.Prelude.{◌≤ℤ◌, ◌<ℤ◌}
use Rattle.std.specs.Int.{w64, CanDivide, IsNonZero}
use Rattle.std.specs.Int.RustNames.{int_div, unsigned_abs}
use Rattle.std.proofs.lemmas.Int.{ints, fits_signed_mul, fits_signed_from_abs}
use Rattle.std.proofs.lemmas.Bool.Decides.{nat_tests}
use Rattle.std.proofs.Math.Bool.{and-false}
use Rattle.std.proofs.lemmas.Bool.{and_parts, false_from_ne_true}
use Rattle.s370_fixed.specs.Meaning.{is_word, divides}

abs_of_word : (z : ℤ) → neg_ℤ (pos 2147483648) ≤ℤ z → z <ℤ pos 2147483648 → unsigned_abs z ≤ 2147483648
abs_of_word (pos n) h l = omega (arith, ints)
abs_of_word (negsuc n) h l = omega (arith, ints)

pub product_fits : (a b : ℤ) → neg_ℤ (pos 2147483648) ≤ℤ a → a <ℤ pos 2147483648 → neg_ℤ (pos 2147483648) ≤ℤ b → b <ℤ pos 2147483648 → FitsSigned w64 (a *ℤ b)
product_fits a b al ah bl bh = fits_signed_mul w64 a b 2147483648 2147483648 (abs_of_word a al ah) (abs_of_word b bl bh) (lit< tt)

word_fits : (z : ℤ) → is_word z ≡ true → FitsSigned w64 z
unfolding is_word
word_fits (pos n) h = fits_signed_from_abs w64 (pos n) (grind (arith, nat_tests))
word_fits (negsuc n) h = fits_signed_from_abs w64 (negsuc n) (grind (arith, nat_tests))

-- the tests of a divisor
nonzero : (d : ℤ) → IsNonZero w64 d → nat_lt 0 (unsigned_abs d) ≡ true
nonzero (pos n) h = grind (arith, nat_tests)
nonzero (negsuc n) h = grind (arith, nat_tests)

nonzero_back : (d : ℤ) → nat_lt 0 (unsigned_abs d) ≡ true → FitsSigned w64 d → IsNonZero w64 d
nonzero_back (pos n) h f = grind (arith, nat_tests)
nonzero_back (negsuc n) h f = let g : n < 2 ^ 63 = f.sfits in omega arith

divides_true : (p d : ℤ) → CanDivide w64 p d → is_word (int_div p d) ≡ true → divides p d ≡ true
unfolding divides
divides_true p d h w = rw (nonzero d h.0) w

divides_wide : (p d : ℤ) → is_word (int_div p d) ≡ false → divides p d ≡ false
unfolding divides
divides_wide p d w = rw w (and-false _)

pub divides_none : (p d : ℤ) → FitsSigned w64 d → (CanDivide w64 p d → ⊥) → divides p d ≡ false
unfolding divides
divides_none p d f cannot = false_from_ne_true _ (λ e. let p = and_parts _ _ e in cannot (nonzero_back d p.0 f, word_fits _ p.1))

pub divides_told : (p d q p' d' q' : ℤ) → p' ≡ p → d' ≡ d → q' ≡ q → CanDivide w64 p' d' × (q ≡ int_div p' d') → true ≡ is_word q' → divides p d ≡ true
divides_told p d q p' d' q' ep ed eq h w =
    rw (← ep, ← ed) (divides_true p' d' h.0 (rw (← h.1, ← eq) (sym w)))

pub divides_not : (p d q p' d' q' : ℤ) → p' ≡ p → d' ≡ d → q' ≡ q → CanDivide w64 p' d' × (q ≡ int_div p' d') → false ≡ is_word q' → divides p d ≡ false
divides_not p d q p' d' q' ep ed eq h w = rw (← ep, ← ed) (divides_wide p' d' (rw (← h.1, ← eq) (sym w)))
