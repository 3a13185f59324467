-- Ranges of bytes that are reached, stored and read one after the other.
use Rattle.std.proofs.Common.{◌≡◌, ℕ, ◌+◌, ◌<◌, zero, suc, Bool, true, false, Some, None, refl, add-one, arith, inl, inr, eq-or-lt_of_le}
use Rattle.s370_state.proofs.Tested.{reach_at}
use Rattle.std.proofs.Common.{Ok, Err, if◌then◌else◌}
use Rattle.std.proofs.lemmas.Bool.{and_left}
use Rattle.std.proofs.Math.Bool.{and-false}
use Rattle.cov_base.specs.Meaning.{Memory, wrap, can_reach, can_store, first_touch, is_accessible, is_private}

pub reach_none : (m : Memory) (a : ℕ) → can_reach m a 0 ≡ true
unfolding can_reach
reach_none m a = refl

pub reach_more : (m : Memory) (a n b : ℕ) → b ≡ wrap (a + n) → can_reach m a n ≡ true → is_accessible m b ≡ true → can_reach m a (n + 1) ≡ true
unfolding can_reach
reach_more m a n b e h k = rw (add-one, h, ← e) k

pub reach_fails : (m : Memory) (a n i b : ℕ) → b ≡ wrap (a + i) → i < n → is_accessible m b ≡ false → can_reach m a n ≡ false
unfolding can_reach
reach_fails m a zero i b e l h = absurd (omega arith)
reach_fails m a (suc n) i b e l h = elim (eq-or-lt_of_le {n = i} {m = n} (omega arith)) [ inl q ↦ rw (← q, ← e, h) (and-false _) | inr z ↦ and_left _ _ (reach_fails m a n i b e z h) ]

pub store_fails : (m : Memory) (a n i b : ℕ) → b ≡ wrap (a + i) → i < n → is_private m b ≡ false → can_store m a n ≡ false
unfolding can_store
store_fails m a zero i b e l h = absurd (omega arith)
store_fails m a (suc n) i b e l h = elim (eq-or-lt_of_le {n = i} {m = n} (omega arith)) [ inl q ↦ rw (← q, ← e, h) (and-false _) | inr z ↦ and_left _ _ (store_fails m a n i b e z h) ]

pub touch_none : (m : Memory) (a : ℕ) → first_touch m a 0 ≡ None
unfolding first_touch
touch_none m a = refl

pub touch_more : (m : Memory) (a n b : ℕ) → b ≡ wrap (a + n) → first_touch m a n ≡ None → m.is_touch b ≡ false → first_touch m a (n + 1) ≡ None
unfolding first_touch
touch_more m a n b e h k = rw (add-one, h, ← e, k) refl

pub touch_found : (m : Memory) (a n i b : ℕ) → b ≡ wrap (a + i) → i < n → first_touch m a i ≡ None → m.is_touch b ≡ true → first_touch m a n ≡ Some b
unfolding first_touch
touch_found m a zero i b e l h k = absurd (omega arith)
touch_found m a (suc n) i b e l h k = elim (eq-or-lt_of_le {n = i} {m = n} (omega arith)) [ inl q ↦ rw (← q, h, ← e, k) refl | inr z ↦ rw (touch_found m a n i b e z h k) refl ]

-- a byte of two that are reached
pub reach_two : (m : Memory) (a i b : ℕ) → can_reach m a 2 ≡ true → i < 2 → b ≡ wrap (a + i) → is_accessible m b ≡ true
reach_two m a i b h l e = reach_at m a 2 i b h l e

pub answer_ok : {A B : Type 0} (b : Bool) (x : A) (y : B) → Ok x ≡ (if b then Ok x else Err y) → b ≡ true
answer_ok true x y h = refl
answer_ok false x y h = let e : Ok x ≡ Err y = h in absurd cc
