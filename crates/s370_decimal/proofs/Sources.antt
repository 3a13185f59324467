-- Source bytes, tested one at a time.
use Rattle.std.proofs.Common.{◌≡◌, ℕ, ◌+◌, List, refl, add-zero, arith}
use Rattle.cov_base.specs.Meaning.{Memory, wrap, byte_at, can_reach, is_accessible}

pub reach_one : (m : Memory) (x : ℕ) → can_reach m (wrap x) 1 ≡ is_accessible m (wrap x)
unfolding can_reach
reach_one m x = let e : wrap (wrap x + 0) ≡ wrap x = omega arith in rw e refl

pub first_byte : (m : Memory) (bytes : List ℕ) (a : ℕ) → byte_at m bytes (wrap (a + 0)) ≡ byte_at m bytes (wrap a)
first_byte m bytes a = rw add-zero refl
