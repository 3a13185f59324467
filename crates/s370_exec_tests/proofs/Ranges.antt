-- Ranges of bytes that are stored one after the other.
use Rattle.std.proofs.Common.{◌≡◌, ℕ, ◌+◌, true, refl, add-one}
use Rattle.cov_base.specs.Meaning.{Memory, wrap, can_store, is_private}

pub store_none : (m : Memory) (a : ℕ) → can_store m a 0 ≡ true
unfolding can_store
store_none m a = refl

pub store_more : (m : Memory) (a n b : ℕ) → b ≡ wrap (a + n) → can_store m a n ≡ true → is_private m b ≡ true → can_store m a (n + 1) ≡ true
unfolding can_store
store_more m a n b e h k = rw (add-one, h, ← e) k
