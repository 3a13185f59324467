-- Two operands of which one is not all accessible.
use Rattle.std.proofs.Common.{◌≡◌, ℕ, false, Some, [], ◌∷◌, refl}
use Rattle.std.proofs.Math.Bool.{and-false}
use Rattle.cov_base.specs.Meaning.{Memory, can_reach}
use Rattle.s370_state.specs.Meaning.{use_tests, all_reached, reads, stores}
use Rattle.s370_state.specs.declared.endings.Ending.TheVariants.{Abend}

pub first_lost : (m : Memory) (a n b k : ℕ) → can_reach m a n ≡ false → use_tests m (stores a n ∷ (reads b k ∷ [])) ≡ Some (Abend 5)
unfolding use_tests all_reached
first_lost m a n b k h = rw h refl

pub second_lost : (m : Memory) (a n b k : ℕ) → can_reach m b k ≡ false → use_tests m (stores a n ∷ (reads b k ∷ [])) ≡ Some (Abend 5)
unfolding use_tests all_reached
second_lost m a n b k h = rw (h, and-false (can_reach m a n)) refl
