-- Long operands, one byte on.
use Rattle.std.proofs.Common.{◌≡◌, ◌≢◌, ℕ, ◌+◌, ◌<◌, ◌≤◌, zero, suc, true, Some, None, List, slice_set, refl, sym, add-one, arith, inl, inr, eq-or-lt_of_le, ◌∙◌}
use Rattle.std.proofs.lemmas.Bool.{and_parts, eq-eqb, ne_eqb, not_from_false, not_from_true}
use Rattle.cov_base.specs.Meaning.{Memory, wrap, can_reach, is_accessible}
use Rattle.s370_storage.proofs.Firsts.{first_none, first_more, first_here}
use Rattle.s370_storage.specs.Meaning.{lesser, padded_bytes, first_byte, second_byte, unequal}
use Rattle.s370_storage.specs.declared.long.Long.{Long}

pub padded_none : (bytes : List ℕ) (o : Long) → padded_bytes bytes o 0 ≡ bytes
unfolding padded_bytes
padded_none bytes o = refl

pub padded_more : (bytes : List ℕ) (o : Long) (k : ℕ) → padded_bytes bytes o (k + 1) ≡ slice_set (padded_bytes bytes o k) (wrap (o.first + (lesser o + k))) o.padding
unfolding padded_bytes
padded_more bytes o k = rw add-one refl

-- the left part of an operand
pub reach_prefix : (m : Memory) (a n k : ℕ) → can_reach m a n ≡ true → k ≤ n → can_reach m a k ≡ true
unfolding can_reach
reach_prefix m a zero k h l = let e : k ≡ 0 = omega arith in rw e refl
reach_prefix m a (suc n) k h l =
    elim (eq-or-lt_of_le l) [
      | inl q ↦ rw q h
      | inr z ↦ reach_prefix m a n k (and_parts (can_reach m a n) (is_accessible m (wrap (a + n))) h).0 (omega arith)
    ]

pub unequal_none : (m : Memory) (bytes : List ℕ) (o : Long) → unequal m bytes o 0 ≡ None
unfolding unequal
unequal_none m bytes o = first_none _

pub unequal_more : (m : Memory) (bytes : List ℕ) (o : Long) (n x y : ℕ) → unequal m bytes o n ≡ None → x ≡ first_byte m bytes o n → y ≡ second_byte m bytes o n → x ≡ y → unequal m bytes o (n + 1) ≡ None
unfolding unequal
unequal_more m bytes o n x y h d e z = first_more _ n h (not_from_true _ (eq-eqb _ _ (sym d ∙ z ∙ e)))

pub unequal_here : (m : Memory) (bytes : List ℕ) (o : Long) (n i x y : ℕ) → i < n → unequal m bytes o i ≡ None → x ≡ first_byte m bytes o i → y ≡ second_byte m bytes o i → x ≢ y → Some i ≡ unequal m bytes o n
unfolding unequal
unequal_here m bytes o n i x y l h d e z = sym (first_here _ n i l h (rw (← d, ← e) (not_from_false _ (ne_eqb x y z))))
