-- Numbers that fit a signed word, by their low words and by one comparison.
use Rattle.std.proofs.Common.{◌≡◌, ◌<◌, ◌+◌, ◌-◌, ◌%◌, ◌^◌, ℕ, ℤ, pos, negsuc, true, arith, FitsSigned, nat_lt}
use Rattle.std.specs.Prelude.{not}
use Rattle.std.specs.Int.{w32, w64, cast_unsigned}
use Rattle.std.proofs.lemmas.Int.{to_z-of_z}
use Rattle.std.proofs.lemmas.Bool.Decides.{nat_tests}
use Rattle.s370_state.specs.Meaning.{signed}
use Rattle.s370_fixed.specs.Meaning.{is_word, low_word}

-- a number that fits is the signed number of its low word
pub signed_low : (z : ℤ) → is_word z ≡ true → signed (low_word z) ≡ z
unfolding is_word low_word signed
signed_low (pos n) h =
    let l : n < 2147483648 = grind (arith, nat_tests) in
    let e : n % 4294967296 ≡ n = omega arith in
    rw e (to_z-of_z w32 (pos n) (record { sfits = l }))
signed_low (negsuc n) h =
    let l : n < 2147483648 = grind (arith, nat_tests) in
    let e : 4294967295 - n % 4294967296 ≡ cast_unsigned w32 (negsuc n) = omega arith in
    rw e (to_z-of_z w32 (negsuc n) (record { sfits = l }))

-- a number fits just where 2^31 more, taken without a sign, is below 2^32
pub beyond : (z : ℤ) (u : ℕ) → FitsSigned w64 z → u ≡ (cast_unsigned w64 z + 2147483648) % 2 ^ 64 → nat_lt 4294967295 u ≡ not (is_word z)
unfolding is_word
beyond (pos n) u f e = let l : n < 2 ^ 63 = f.sfits in grind (arith, nat_tests)
beyond (negsuc n) u f e = let l : n < 2 ^ 63 = f.sfits in grind (arith, nat_tests)
