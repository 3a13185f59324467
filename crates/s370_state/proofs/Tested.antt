-- What an operand that passed its tests gives for each of its bytes.
use Rattle.std.proofs.Common.{◌≡◌, ℕ, ◌+◌, ◌*◌, ◌/◌, ◌%◌, ◌<◌, ◌≤◌, zero, suc, true, List, slice_set, arith, zero-add, add-zero, refl, inl, inr, eq-or-lt_of_le}
use Rattle.std.proofs.lemmas.Bool.{and_parts}
use Rattle.cov_base.specs.Meaning.{Memory, can_reach, can_store, is_accessible, is_private, wrap, byte_at}
use Rattle.s370_state.specs.Meaning.{number_at, store_number}

pub reach_at : (m : Memory) (a n i b : ℕ) → can_reach m a n ≡ true → i < n → b ≡ wrap (a + i) → is_accessible m b ≡ true
unfolding can_reach
reach_at m a zero i b h l e = absurd (omega arith)
reach_at m a (suc n) i b h l e =
    elim (eq-or-lt_of_le {n = i} {m = n} (omega arith)) [
      | inl q ↦ rw (e, q) (and_parts (can_reach m a n) _ h).1
      | inr k ↦ reach_at m a n i b (and_parts (can_reach m a n) _ h).0 k e
    ]

pub store_at : (m : Memory) (a n i b : ℕ) → can_store m a n ≡ true → i < n → b ≡ wrap (a + i) → is_private m b ≡ true
unfolding can_store
store_at m a zero i b h l e = absurd (omega arith)
store_at m a (suc n) i b h l e =
    elim (eq-or-lt_of_le {n = i} {m = n} (omega arith)) [
      | inl q ↦ rw (e, q) (and_parts (can_store m a n) _ h).1
      | inr k ↦ store_at m a n i b (and_parts (can_store m a n) _ h).0 k e
    ]

pub word_of_bytes : (m : Memory) (bytes : List ℕ) (a : ℕ) → number_at m bytes a 4 ≡ ((byte_at m bytes (wrap a) * 256 + byte_at m bytes (wrap (a + 1))) * 256 + byte_at m bytes (wrap (a + 2))) * 256 + byte_at m bytes (wrap (a + 3))
unfolding number_at
word_of_bytes m bytes a = rw (zero-add, add-zero)

pub word_stored : (bytes : List ℕ) (a v : ℕ) → v < 4294967296 →
    store_number bytes a 4 v ≡ slice_set (slice_set (slice_set (slice_set bytes (wrap (a + 3)) (v % 256)) (wrap (a + 2)) (v / 256 % 256)) (wrap (a + 1)) (v / 65536 % 256)) (wrap a) (v / 16777216)
unfolding store_number
word_stored bytes a v h =
    let second : v / 256 / 256 % 256 ≡ v / 65536 % 256 = omega arith in
    let first : v / 256 / 256 / 256 % 256 ≡ v / 16777216 = omega arith in
    rw (add-zero, second, first) refl

wrapped_once : (a i k : ℕ) → wrap (wrap (a + i) + k) ≡ wrap (a + (i + k))
wrapped_once a i k = omega arith

-- a part of an operand
pub reach_part : (m : Memory) (a n i b k : ℕ) → can_reach m a n ≡ true → i + k ≤ n → b ≡ wrap (a + i) → can_reach m b k ≡ true
unfolding can_reach
reach_part m a n i b zero h l e = refl
reach_part m a n i b (suc k) h l e =
    rw (reach_part m a n i b k h (omega arith) e, e, wrapped_once a i k) (reach_at m a n (i + k) (wrap (a + (i + k))) h (omega arith) refl)

-- the first bytes of a range that may be stored, and any of its bytes

pub store_prefix : (m : Memory) (a n k : ℕ) → can_store m a n ≡ true → k ≤ n → can_store m a k ≡ true
unfolding can_store
store_prefix m a zero k h l = let e : k ≡ 0 = omega arith in rw e refl
store_prefix m a (suc n) k h l =
    elim (eq-or-lt_of_le l) [
      | inl q ↦ rw q h
      | inr z ↦ store_prefix m a n k (and_parts (can_store m a n) (is_private m (wrap (a + n))) h).0 (omega arith)
    ]

pub store_part : (m : Memory) (a n i b k : ℕ) → can_store m a n ≡ true → i + k ≤ n → b ≡ wrap (a + i) → can_store m b k ≡ true
unfolding can_store
store_part m a n i b zero h l e = refl
store_part m a n i b (suc k) h l e =
    rw (store_part m a n i b k h (omega arith) e, e, wrapped_once a i k) (store_at m a n (i + k) (wrap (a + (i + k))) h (omega arith) refl)

wrapped_in : (a k : ℕ) → wrap (wrap a + k) ≡ wrap (a + k)
wrapped_in a k = omega arith

-- a number at an address beyond the last is that at the address that it wraps to
pub number_wrapped : (m : Memory) (bytes : List ℕ) (a n : ℕ) → number_at m bytes (wrap a) n ≡ number_at m bytes a n
unfolding number_at
number_wrapped m bytes a zero = refl
number_wrapped m bytes a (suc n) = rw (number_wrapped m bytes a n, wrapped_in a n) refl

pub store_wrapped : (bytes : List ℕ) (a n v : ℕ) → store_number bytes (wrap a) n v ≡ store_number bytes a n v
unfolding store_number
store_wrapped bytes a zero v = refl
store_wrapped bytes a (suc n) v = rw (wrapped_in a n) (store_wrapped (slice_set bytes (wrap (a + n)) (v % 256)) a n (v / 256))
