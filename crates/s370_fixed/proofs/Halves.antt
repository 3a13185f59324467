-- Halfwords by their bytes.
use Rattle.std.proofs.Common.{◌≡◌, ℕ, ◌+◌, ◌*◌, ◌/◌, ◌%◌, List, slice_set, zero-add, add-zero, refl, ℤ, pos, negsuc, ◌<◌, arith, FitsSigned}
use Rattle.std.specs.Prelude.{◌≤ℤ◌, ◌<ℤ◌}
use Rattle.std.specs.Int.{w16}
use Rattle.std.proofs.lemmas.Int.{ints}
use Rattle.cov_base.specs.Meaning.{Memory, byte_at, wrap}
use Rattle.s370_state.specs.Meaning.{number_at, store_number}

pub half_of_bytes : (m : Memory) (bytes : List ℕ) (a : ℕ) → number_at m bytes a 2 ≡ byte_at m bytes (wrap a) * 256 + byte_at m bytes (wrap (a + 1))
unfolding number_at
half_of_bytes m bytes a = rw (zero-add, add-zero)

pub half_stored : (bytes : List ℕ) (a v : ℕ) → store_number bytes a 2 v ≡ slice_set (slice_set bytes (wrap (a + 1)) (v % 256)) (wrap a) (v / 256 % 256)
unfolding store_number
half_stored bytes a v = rw add-zero refl

pub half_low : (z : ℤ) → FitsSigned w16 z → negsuc 32767 ≤ℤ z
half_low (pos n) f = let l : n < 32768 = f.sfits in omega (arith, ints)
half_low (negsuc n) f = let l : n < 32768 = f.sfits in omega (arith, ints)

pub half_high : (z : ℤ) → FitsSigned w16 z → z <ℤ pos 32768
half_high (pos n) f = let l : n < 32768 = f.sfits in omega (arith, ints)
half_high (negsuc n) f = let l : n < 32768 = f.sfits in omega (arith, ints)
