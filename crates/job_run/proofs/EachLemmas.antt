-- A step that the elements of a list go one after the other, and one that those of a part go.
use Rattle.std.proofs.Common.{◌≡◌, inl, inr, ℕ, ◌+◌, ◌<◌, ◌≤◌, List, length, get_or, set, sym, ◌∙◌, ap, subst, arith}
use Rattle.std.proofs.lemmas.Bool.{cases_eq}
use Rattle.std.proofs.lemmas.Grind.{get_or-set_at}
use Rattle.std.proofs.lemmas.List.{get_or_default, get_or-set_other, length-set}
use Rattle.job_run.specs.Crews.{Each}

-- the elements before the next have gone the second step, and the others the first
pub record Along {X : Type 0} (first second : ℕ → X → X → Type 0) (next : ℕ) (old new : List X) : Type 0 where
  pub count : length new ≡ length old
  pub gone : (t : ℕ) (d : X) → t < next → t < length old → second t (get_or old t d) (get_or new t d)
  pub left : (t : ℕ) (d : X) → next ≤ t → t < length old → first t (get_or old t d) (get_or new t d)

pub Along-start : {X : Type 0} (first second : ℕ → X → X → Type 0) (old new : List X) → Each first old new → Along first second 0 old new
Along-start first second old new e = record { count = e.count; gone = λ t d never. absurd (omega (arith, never)); left = λ t d from l. e.each t d l }

-- the next is written
pub Along-one : {X : Type 0} (first second : ℕ → X → X → Type 0) (next : ℕ) (old mid : List X) (e none : X) (f : X → X) → next < length old → e ≡ f (get_or mid next none) →
    ((d : X) → first next (get_or old next d) (get_or mid next d) → second next (get_or old next d) (f (get_or mid next d))) → Along first second next old mid → Along first second (next + 1) old (set mid next e)
Along-one first second next old mid e none f here is step a = record {
  count = length-set mid next e ∙ a.count;
  gone = λ t d below l. elim (cases_eq t next) [
    | inl same ↦
        let written : get_or (set mid next e) t d ≡ f (get_or mid next d) = get_or-set_at mid next t e d same there ∙ (is ∙ ap f (get_or_default mid next none d there)) in
        subst (second t (get_or old t d)) (sym written)
        (subst (λ k. second k (get_or old k d) (f (get_or mid next d))) (sym same) (step d (a.left next d (omega arith) here)))
    | inr other ↦ subst (second t (get_or old t d)) (sym (get_or-set_other mid next t e d other)) (a.gone t d (omega (arith, below, other)) l)
  ];
  left = λ t d from l.
      subst (first t (get_or old t d)) (sym (get_or-set_other mid next t e d (λ same. absurd (omega (arith, same, from))))) (a.left t d (omega (arith, from)) l);
}
  where
    there : next < length mid
    there = omega (arith, here, a.count)

-- the next is as it was
pub Along-other : {X : Type 0} (first second : ℕ → X → X → Type 0) (next : ℕ) (old mid : List X) →
    ((d : X) → first next (get_or old next d) (get_or mid next d) → second next (get_or old next d) (get_or mid next d)) → Along first second next old mid → Along first second (next + 1) old mid
Along-other first second next old mid step a = record {
  count = a.count;
  gone = λ t d below l. elim (cases_eq t next) [
    | inl same ↦ subst (λ k. second k (get_or old k d) (get_or mid k d)) (sym same) (step d (a.left next d (omega arith) (omega (arith, same, l))))
    | inr other ↦ a.gone t d (omega (arith, below, other)) l
  ];
  left = λ t d from l. a.left t d (omega (arith, from)) l;
}

pub Along-all : {X : Type 0} (first second : ℕ → X → X → Type 0) (next : ℕ) (old new : List X) → length old ≤ next → Along first second next old new → Each second old new
Along-all first second next old new all a = record { count = a.count; each = λ t d l. a.gone t d (omega (arith, l, all)) l }

-- the second step comes to more
pub Along-more : {X : Type 0} (first second more : ℕ → X → X → Type 0) (next : ℕ) (old new : List X) → ((t : ℕ) (x y : X) → second t x y → more t x y) → Along first second next old new → Along first more next old new
Along-more first second more next old new step a = record { count = a.count; gone = λ t d below l. step t _ _ (a.gone t d below l); left = a.left }
