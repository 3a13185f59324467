-- Which bytes of a module have a line.
use Rattle.std.proofs.Common.{◌≡◌, inl, inr, ℕ, ◌+◌, ◌<◌, zero, suc, Bool, true, false, Option, Some, None, is_some, List, get_or, refl, sym, ◌∙◌, add-one, arith, eq-or-lt_of_le}
use Rattle.std.proofs.lemmas.Bool.{or_parts}
use Rattle.std.proofs.Math.Bool.{or-true}
use Rattle.brk_table.specs.Cover.{is_covered}

pub covered_none : (cover : List (Option ℕ)) (from : ℕ) → is_covered cover from 0 ≡ false
unfolding is_covered
covered_none cover from = refl

pub covered_more : (cover : List (Option ℕ)) (from k : ℕ) → is_covered cover from k ≡ false → get_or cover (from + k) None ≡ None → is_covered cover from (k + 1) ≡ false
unfolding is_covered
covered_more cover from k h e = rw (add-one, h, e) refl

pub covered_found : (cover : List (Option ℕ)) (from len k i : ℕ) → k < len → get_or cover (from + k) None ≡ Some i → is_covered cover from len ≡ true
unfolding is_covered
covered_found cover from zero k i l e = absurd (omega arith)
covered_found cover from (suc n) k i l e = elim (eq-or-lt_of_le {n = k} {m = n} (omega arith)) [
  | inl q ↦ rw (← q, e) (or-true (is_covered cover from k))
  | inr b ↦ rw (covered_found cover from n k i b e) refl
]

pub not_covered : (cover : List (Option ℕ)) (from len : ℕ) → is_covered cover from len ≡ false → (k : ℕ) → k < len → get_or cover (from + k) None ≡ None
unfolding is_covered
not_covered cover from zero h k l = absurd (omega arith)
not_covered cover from (suc n) h k l =
    let both = or_parts (is_covered cover from n) (is_some (get_or cover (from + n) None)) h in
    elim (eq-or-lt_of_le {n = k} {m = n} (omega arith)) [
      | inl q ↦ rw q (none (get_or cover (from + n) None) both.1)
      | inr b ↦ not_covered cover from n both.0 k b
    ]
  where
    none : (o : Option ℕ) → is_some o ≡ false → o ≡ None
    none None e = refl
    none (Some i) e = absurd cc

-- the byte that is covered
pub record Covered (cover : List (Option ℕ)) (from len : ℕ) : Type 0 where
  pub k : ℕ
  pub i : ℕ
  pub below : k < len
  pub is : get_or cover (from + k) None ≡ Some i

pub covered : (cover : List (Option ℕ)) (from len : ℕ) → is_covered cover from len ≡ true → Covered cover from len
unfolding is_covered
covered cover from zero h = absurd cc
covered cover from (suc n) h = by_last (get_or cover (from + n) None) refl (is_covered cover from n) refl (covered cover from n)
  where
    by_last : (o : Option ℕ) → get_or cover (from + n) None ≡ o → (b : Bool) → is_covered cover from n ≡ b → (is_covered cover from n ≡ true → Covered cover from n) → Covered cover from (suc n)
    by_last (Some i) e b q more = record { k = n; i = i; below = omega arith; is = e }
    by_last None e true q more = let c = more q in record { k = c.k; i = c.i; below = omega (arith, c.below); is = c.is }
    by_last None e false q more = absurd (let f : false ≡ true = sym (rw (q, e) refl) ∙ h in cc)
