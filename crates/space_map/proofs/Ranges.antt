-- Whole ranges of addresses in a memory.
use Rattle.std.proofs.Common.{◌≡◌, ℕ, ◌+◌, ◌-◌, ◌<◌, ◌≤◌, zero, suc, true, false, None, refl, arith, inl, inr}
use Rattle.std.proofs.lemmas.Bool.{lt-ltb, le-ltb, cases_lt}
use Rattle.std.proofs.Math.Bool.{or-true}
use Rattle.cov_base.specs.Meaning.{Memory, wrap, can_reach, can_store, first_touch, is_accessible, is_private}
use Rattle.s370_state.proofs.Laws.{store_fails}

wrapped : (a : ℕ) → a < 16777216 → wrap a ≡ a
wrapped a h = omega arith

pub reach_private : (m : Memory) (a n : ℕ) → a + n ≤ m.private → m.private ≤ 16777216 → can_reach m a n ≡ true
unfolding can_reach is_accessible
reach_private m a zero h k = refl
reach_private m a (suc n) h k = rw (reach_private m a n (omega arith) k, wrapped (a + n) (omega arith), lt-ltb (a + n) m.private (omega arith)) refl

pub reach_image : (m : Memory) (a n : ℕ) → ((b : ℕ) → a ≤ b → b < a + n → m.is_image b ≡ true) → a + n ≤ 16777216 → can_reach m a n ≡ true
unfolding can_reach is_accessible
reach_image m a zero h k = refl
reach_image m a (suc n) h k = rw (reach_image m a n (λ b p q. h b p (omega arith)) (omega arith), wrapped (a + n) (omega arith), h (a + n) (omega arith) (omega arith)) (or-true _)

pub store_private : (m : Memory) (a n : ℕ) → a + n ≤ m.private → m.private ≤ 16777216 → can_store m a n ≡ true
unfolding can_store is_private
store_private m a zero h k = refl
store_private m a (suc n) h k = rw (store_private m a n (omega arith) k, wrapped (a + n) (omega arith), lt-ltb (a + n) m.private (omega arith)) refl

is_private-outside : (m : Memory) (b : ℕ) → m.private ≤ b → is_private m b ≡ false
unfolding is_private
is_private-outside m b h = le-ltb b m.private h

-- past private storage's end lies a byte of the range, or the last address does
pub store_outside : (m : Memory) (a n : ℕ) → 0 < n → m.private < a + n → a < 16777216 → m.private < 16777216 → can_store m a n ≡ false
store_outside m a n p h l k =
    elim (cases_lt 16777216 (a + n)) [
      | inl q ↦ store_fails m a n (16777215 - a) 16777215 (omega arith) (omega arith) (is_private-outside m 16777215 (omega arith))
      | inr q ↦ store_fails m a n (n - 1) (a + (n - 1)) (omega arith) (omega arith) (is_private-outside m (a + (n - 1)) (omega arith))
    ]

pub touch_private : (m : Memory) (a n : ℕ) → ((b : ℕ) → b < m.private → m.is_touch b ≡ false) → a + n ≤ m.private → m.private ≤ 16777216 → first_touch m a n ≡ None
unfolding first_touch
touch_private m a zero f h k = refl
touch_private m a (suc n) f h k = rw (touch_private m a n f (omega arith) k, wrapped (a + n) (omega arith), f (a + n) (omega arith)) refl
