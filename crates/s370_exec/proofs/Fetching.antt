-- An instruction whose later halfwords are reached and no place's first.
use Rattle.std.proofs.Common.{◌≡◌, ◌⊎◌, inl, inr, ℕ, ◌+◌, ◌/◌, ◌%◌, ◌≤◌, Bool, true, false, ◌==◌, nat_lt, if◌then◌else◌, Option, None, List, [], ◌∷◌, refl, sym, ◌∙◌, arith}
use Rattle.cov_base.specs.Meaning.{length_of, Memory, can_reach, half_at, wrap}
use Rattle.cov_base.proofs.Laws.{length_of-cases}
use Rattle.s370_state.specs.declared.endings.Ending.{Ending}
use Rattle.s370_exec.specs.Meaning.{later, rest_tests, code_at}

abbrev IsSize : ℕ → Type 0
IsSize n = (n ≡ 2) ⊎ ((n ≡ 4) ⊎ (n ≡ 6))

later_by : (reached touch : Bool) (x y : Option Ending) → reached ≡ true → touch ≡ false → (if reached then (if touch then x else None) else y) ≡ None
later_by reached touch x y r t = rw (r, t) refl

rest_by : (m : Memory) (a n : ℕ) → IsSize n → ((i : ℕ) → 2 ≤ i → i + 2 ≤ n → later m (wrap (a + i)) ≡ None) → rest_tests m a n ≡ None
unfolding rest_tests
rest_by m a n (inl two) h = rw two refl
rest_by m a n (inr (inl four)) h = rw (four, h 2 (omega arith) (omega (arith, four))) refl
rest_by m a n (inr (inr six)) h = rw (six, h 2 (omega arith) (omega (arith, six)), h 4 (omega arith) (omega (arith, six))) refl

pub rest_none : (m : Memory) (a h n : ℕ) → n ≡ length_of h → ((i : ℕ) → 2 ≤ i → i + 2 ≤ n → can_reach m (wrap (a + i)) 2 ≡ true) → ((i : ℕ) → 2 ≤ i → i + 2 ≤ n → m.is_touch (wrap (a + i)) ≡ false) → rest_tests m a (length_of h) ≡ None
rest_none m a h n size reached untouched =
    rest_by m a (length_of h) (length_of-cases h) (λ i from to. later_by (can_reach m (wrap (a + i)) 2) (m.is_touch (wrap (a + i))) _ _ (reached i from (omega (arith, to, size))) (untouched i from (omega (arith, to, size))))

second_by : (n x : ℕ) → IsSize n → (if n == 2 then 0 else x) ≡ (if nat_lt 2 n then x else 0)
second_by n x (inl two) = rw two refl
second_by n x (inr (inl four)) = rw four refl
second_by n x (inr (inr six)) = rw six refl

third_by : (n x : ℕ) → IsSize n → (if n == 2 then 0 else (if n == 4 then 0 else x)) ≡ (if nat_lt 4 n then x else 0)
third_by n x (inl two) = rw two refl
third_by n x (inr (inl four)) = rw four refl
third_by n x (inr (inr six)) = rw six refl

-- its bytes are those of its halfwords, each 0 past its length
pub code_at-halves : (m : Memory) (bytes : List ℕ) (a h n s t : ℕ) → n ≡ length_of h → (if nat_lt 2 n then half_at m bytes (wrap (a + 2)) else 0) ≡ s → (if nat_lt 4 n then half_at m bytes (wrap (a + 4)) else 0) ≡ t
    → code_at m bytes a h ≡ record { at = a; bytes = h / 256 ∷ (h % 256 ∷ (s / 256 ∷ (s % 256 ∷ (t / 256 ∷ (t % 256 ∷ []))))); len = n }
unfolding code_at
code_at-halves m bytes a h n s t size second third =
    let is : IsSize n = rw size (length_of-cases h) in
    rw (sym size, second_by n (half_at m bytes (wrap (a + 2))) is ∙ second, third_by n (half_at m bytes (wrap (a + 4))) is ∙ third) refl
