-- The first number that passes a test, one number on.
use Rattle.std.proofs.Common.{◌≡◌, ℕ, ◌+◌, ◌<◌, ◌≤◌, zero, suc, Bool, true, false, if◌then◌else◌, Option, Some, None, refl, add-one, arith, ◌⊎◌, inl, inr, eq-or-lt_of_le}
use Rattle.std.specs.Option.{option_or}
use Rattle.s370_storage.specs.Meaning.{first_where}

pub first_none : (p : ℕ → Bool) → first_where p 0 ≡ None
unfolding first_where
first_none p = refl

pub first_more : (p : ℕ → Bool) (n : ℕ) → first_where p n ≡ None → p n ≡ false → first_where p (n + 1) ≡ None
unfolding first_where
first_more p n h k = rw (add-one, h, k) refl

pub first_here : (p : ℕ → Bool) (n i : ℕ) → i < n → first_where p i ≡ None → p i ≡ true → first_where p n ≡ Some i
unfolding first_where
first_here p zero i l h k = absurd (omega arith)
first_here p (suc n) i l h k =
    elim (eq-or-lt_of_le {n = i} {m = n} (omega arith)) [
      | inl q ↦ rw (← q, h, k) refl
      | inr z ↦ rw (first_here p n i z h k) refl
    ]

last_of : (b : Bool) (q : Option ℕ) (n j : ℕ) → option_or q (if b then Some n else None) ≡ Some j → (q ≡ Some j) ⊎ (j ≡ n)
last_of true None n j h = let e : Some n ≡ Some j = h in inr cc
last_of false None n j h = let e : None ≡ Some j = h in absurd cc
last_of b (Some k) n j h = inl h

-- where none is below i, the first isn't either
pub first_past : (p : ℕ → Bool) (n i j : ℕ) → i ≤ n → first_where p i ≡ None → first_where p n ≡ Some j → i ≤ j
unfolding first_where
first_past p zero i j l h e = let x : None ≡ Some j = e in absurd cc
first_past p (suc n) i j l h e =
    elim (eq-or-lt_of_le l) [
      | inl q ↦ let x : first_where p (suc n) ≡ None = rw q at h in let y : first_where p (suc n) ≡ Some j = e in absurd cc
      | inr k ↦ elim (last_of (p n) (first_where p n) n j e) [
        | inl q ↦ first_past p n i j (omega arith) h q
        | inr z ↦ rw z (omega arith)
      ]
    ]
