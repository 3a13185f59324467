-- The words of a new area keep the rule, and how the sets are read in the end.
use Rattle.std.proofs.Common.{◌≡◌, ℕ, zero, suc, ◌+◌, ◌-◌, ◌*◌, ◌/◌, ◌%◌, ◌<◌, Bool, true, false, nat_eq, if◌then◌else◌, List, [], ◌∷◌, ◌++◌, length, get_or, take, sym, refl, ap, ◌∙◌, subst, arith, length-append, suc-mul}
use mathlib.Core.Logic.{dite}
use mathlib.Core.Option.{some}
use native.Mathlib.Decide.{ℕ_discrete}
use lib.ListN.{get_elem?}
use Rattle.std.proofs.Math.Seq.{get_or-append_seam}
use Rattle.std.proofs.lemmas.Nat.{div-mul-add, mod-mul-add}
use Rattle.std.proofs.lemmas.Nat.Bits.{bit_at-zero}
use Rattle.std.proofs.lemmas.List.{get_or-take, get_or_append_left}
use Rattle.atomic_table.specs.Table.{opening}
use Rattle.cov_base.specs.declared.facts.Fact.{Fact}
use Rattle.cov_base.specs.declared.facts.Fact.TheVariants.{Ran, Went, Stayed}
use Rattle.cov_base.specs.declared.facts.Kind.{Kind}
use Rattle.cov_base.specs.declared.facts.Kind.TheVariants.{Straight, Conditional}
use Rattle.cov_base.specs.Meaning.{FactSet, has_fact, no_facts}
use Rattle.module_area.specs.declared.parties.Role.TheVariants.{Root}
use Rattle.module_area.specs.Meaning.{PlanView, original_at, kind_at}
use Rattle.module_area.specs.Rule.{IsPlan, has_task, blank, untouched}
use Rattle.module_area.specs.declared.cells.Cell.{Cell}
use Rattle.module_area.proofs.Laws.{begins, begins_drained, begins_raced, first_cell, zero_behind, starting_count, read_at}
use Rattle.module_area.specs.Words.{cell_of, starting, AllFit}
use Rattle.shared_area.specs.Words.{bit_of, has_bit, facts_of, set_word, base_of, word_count, front, task_word, cells_in, sets_in, numbers_in}
use Rattle.shared_area.specs.Sets.{AreSets}
use Rattle.shared_area.specs.Rule.{IsArea}
use Rattle.shared_area.proofs.WordLemmas.{same_cell, cell_front, words_enough}

-- a word that is 0 is so among the first ones, and none stands behind these
zero_front : (n i : ℕ) (xs : List ℕ) → ◌≡◌ {A = ℕ} (get_or xs i 0) 0 → ◌≡◌ {A = ℕ} (get_or (take n xs) i 0) 0
zero_front zero i xs e = refl
zero_front (suc n) i [] e = refl
zero_front (suc n) zero (x ∷ xs) e = e
zero_front (suc n) (suc i) (x ∷ xs) e = zero_front n i xs e

no_bit : (i : ℕ) → has_bit 0 i ≡ true → ⊥
no_bit i h = let e : nat_eq 0 1 ≡ true = subst (λ z. nat_eq z 1 ≡ true) (bit_at-zero i) h in cc

nothing : (k : Kind) (p : ℕ) (f : Fact) → has_fact (facts_of k p 0) f ≡ true → ⊥
nothing Straight p Ran h = no_bit (bit_of p Ran) h
nothing Straight p Went h = cc
nothing Straight p Stayed h = no_bit (bit_of p Stayed) h
nothing Conditional p Ran h = cc
nothing Conditional p Went h = no_bit (bit_of p Went) h
nothing Conditional p Stayed h = no_bit (bit_of p Stayed) h

module _ (plan : PlanView) (ok : IsPlan plan) (fits : AllFit plan (length plan.places)) where
  abbrev words : List ℕ
  words = starting plan (word_count plan)

  first_set : (s p : ℕ) → get_or (front plan words) (set_word (length plan.places) s p) 0 ≡ 0
  first_set s p = zero_front (base_of plan) (set_word (length plan.places) s p) words (zero_behind plan (word_count plan) (set_word (length plan.places) s p) (omega arith))

  plain : (p : ℕ) → p < length plan.places → cells_in (front plan words) p ≡ untouched (original_at plan p)
  plain p l = let f = fits p l in ap cell_of (get_or-take (base_of plan) words p 0 (cell_front plan p l) ∙ first_cell plan (word_count plan) p l) ∙ same_cell (cell_of (original_at plan p)) (untouched (original_at plan p)) (omega arith) (omega arith)

  no_number : (t : ℕ) (b : Bool) → (if b then get_or words (task_word plan t) 0 else 0) ≡ 0
  no_number t true = zero_behind plan (word_count plan) (task_word plan t) (omega arith)
  no_number t false = refl

  pub begins_area : IsArea plan (opening words [] (blank Root))
  begins_area = let F : List ℕ = front plan words in record {
    wide = let d = words_enough plan in let n = starting_count plan (word_count plan) (omega (arith, d)) in omega (arith, n, d);
    rooted = (blank Root, refl, refl);
    held = begins plan (cells_in F) (sets_in plan F) ok plain (λ s p f _ _ h. nothing (kind_at plan p) p f (subst (λ w. has_fact (facts_of (kind_at plan p) p w) f ≡ true) (first_set s p) h));
    drained = begins_drained plan (cells_in F) (sets_in plan F) (numbers_in plan words) (λ t. no_number t (has_task plan.tasks t));
    raced = begins_raced plan (cells_in F) (λ p l. ap (λ (c : Cell). c.tag) (plain p l));
  }

-- ---- the sets as they are read in the end
-- the session and place of the next set
place_of_next : (n k s p : ℕ) → 0 < s → p < n → k + n ≡ s * n + p → (s ≡ k / n + 1) × (p ≡ k % n)
place_of_next n k s p pos l e = let a : s * n ≡ suc (s - 1) * n = ap (λ z. z * n) (let x : s ≡ suc (s - 1) = omega arith in x) in let b : suc (s - 1) * n ≡ (s - 1) * n + n = suc-mul (s - 1) n in
    let is : k ≡ (s - 1) * n + p = omega arith in
    let d : k / n ≡ s - 1 = ap (λ z. z / n) is ∙ div-mul-add (s - 1) n p l in
    (omega arith, sym (ap (λ z. z % n) is ∙ mod-mul-add (s - 1) n p l))

pub next_set : (plan : PlanView) (words : List ℕ) (sets : List FactSet) (s p w : ℕ) (x : FactSet) → AreSets plan words sets → 0 < s → p < length plan.places → length sets + length plan.places ≡ s * length plan.places + p
    → get_elem? words (set_word (length plan.places) s p) ≡ some w → x ≡ facts_of (kind_at plan p) p w → AreSets plan words (sets ++ x ∷ [])
next_set plan words sets s p w x old pos l at e is i li = let long = length-append sets (x ∷ []) in let at_place = place_of_next (length plan.places) (length sets) s p pos l at in dite (ℕ_discrete i (length sets))
    (λ here. ap (λ k. get_or (sets ++ x ∷ []) k no_facts) here
    ∙ (get_or-append_seam sets x [] no_facts
    ∙ (is
    ∙ (ap (facts_of (kind_at plan p) p) (sym (read_at words (set_word (length plan.places) s p) w e))
    ∙ ((λ j. sets_in plan words (at_place.0 j) (at_place.1 j)) ∙ ap (λ k. sets_in plan words (k / length plan.places + 1) (k % length plan.places)) (sym here))))))
    (λ other. get_or_append_left sets (x ∷ []) no_facts i (omega arith) ∙ old i (omega arith))
