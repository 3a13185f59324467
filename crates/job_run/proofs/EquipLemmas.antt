-- Tasks that get their sessions and extras.
use Rattle.std.proofs.Common.{[], ◌≡◌, inl, inr, ℕ, ◌<◌, ◌≤◌, true, false, nat_eq, nat_lt, None, List, ◌∷◌, ◌++◌, length, get_or, sym, ◌∙◌, ap, subst, arith}
use Rattle.std.proofs.lemmas.Bool.{cases_Bool, cases_eq}
use Rattle.std.proofs.lemmas.Bool.Decides.{nat_tests}
use Rattle.std.proofs.lemmas.List.{get_or_append_left, length-append}
use Rattle.std.proofs.Math.Seq.{get_or-append_seam}
use Rattle.module_area.specs.Meaning.{PlanView}
use Rattle.module_area.specs.declared.places.Place.{Place}
use Rattle.task_run.specs.Meaning.{Course}
use Rattle.session_book.specs.Meaning.{JobView, task_of}
use Rattle.job_run.specs.Crews.{Each, Own, phase_at}
use Rattle.job_run.specs.Passes.{AreEquipped, HasStart}
use Rattle.job_run.specs.Slots.{in_phase, AreEmpty, KeepsOthers}
use Rattle.job_run.specs.Tasks.{Begins, AreRun, HasNotRun, IsEnded}
use Rattle.job_run.specs.declared.slots.Slot.{Slot}
use Rattle.job_run.proofs.EachLemmas.{Along, Along-all}

not_run : (p phase : ℕ) → nat_eq p phase ≡ true → nat_lt p phase ≡ false
not_run p phase h = grind (arith, nat_tests)

pub begun_in : {P E : Type 0} (course : Course) (j : JobView) (places : List Place) (phase t : ℕ) (slots : List (Slot P E)) (d : Slot P E) → AreRun course j places phase slots → t < length slots →
    in_phase j phase t ≡ true → HasNotRun j places t (get_or slots t d).done
begun_in course j places phase t slots d a l h = a.begun t d l (not_run (task_of j t).phase phase h)

-- a slot that has got what its task begins with
pub record IsEquippedSlot {P E : Type 0} (begins : Begins E) (plan : PlanView) (j : JobView) (places : List Place) (t : ℕ) (old new : Slot P E) : Type 0 where
  pub start : HasStart begins plan j places t new.done new.extra
  pub pass : new.pass ≡ old.pass

module _ {P E : Type 0} (course : Course) (begins : Begins E) (plan : PlanView) (j : JobView) (places : List Place) (phase : ℕ) (old new : List (Slot P E)) (n : ℕ)
    (past : length old ≤ n) (a : Along (λ t x y. y ≡ x) (Own (phase_at j phase) (IsEquippedSlot begins plan j places)) n old new) where
  e : Each (Own (phase_at j phase) (IsEquippedSlot begins plan j places)) old new
  e = Along-all (λ t x y. y ≡ x) (Own (phase_at j phase) (IsEquippedSlot begins plan j places)) n old new past a

  pub others_kept : KeepsOthers j phase old new
  others_kept = record { count = e.count; done = λ t d l h. ap (λ (s : Slot _ _). s.done) ((e.each t d l).other h); extra = λ t d l h. ap (λ (s : Slot _ _). s.extra) ((e.each t d l).other h) }

  pub all_ready : length old ≡ length j.tasks → AreEmpty old → AreEquipped begins plan j places phase new
  all_ready size empty = record {
    count = e.count ∙ size;
    empty = λ t d l. let here : t < length old = omega (arith, l, e.count) in elim (cases_Bool (in_phase j phase t)) [
      | inl its ↦ ((e.each t d here).its its).pass ∙ empty t d here
      | inr other ↦ ap (λ (s : Slot _ _). s.pass) ((e.each t d here).other other) ∙ empty t d here
    ];
    can = λ t d its. ((e.each t d (omega (arith, its.exists, size))).its its.its).start;
  }

  pub still_run : AreRun course j places phase old → AreRun course j places phase new
  still_run r = record {
    count = e.count ∙ r.count;
    ended = λ t d l h. let here : t < length old = omega (arith, l, e.count) in elim (cases_Bool (in_phase j phase t)) [
      | inl its ↦ let never : true ≡ false = sym h ∙ not_run (task_of j t).phase phase its in absurd cc
      | inr other ↦ subst (λ (s : Slot _ _). IsEnded course j places t s.done) (sym ((e.each t d here).other other)) (r.ended t d here h)
    ];
    begun = λ t d l h. let here : t < length old = omega (arith, l, e.count) in elim (cases_Bool (in_phase j phase t)) [
      | inl its ↦ ((e.each t d here).its its).start.task.begun
      | inr other ↦ subst (λ (s : Slot _ _). HasNotRun j places t s.done) (sym ((e.each t d here).other other)) (r.begun t d here h)
    ];
  }

-- one task more, as it begins
pub begun_more : {P E : Type 0} (j : JobView) (places : List Place) (slots : List (Slot P E)) (e : Slot P E) →
    ((k : ℕ) (d : Slot P E) → k < length slots → HasNotRun j places k (get_or slots k d).done) → HasNotRun j places (length slots) e.done →
    (k : ℕ) (d : Slot P E) → k < length (slots ++ e ∷ []) → HasNotRun j places k (get_or (slots ++ e ∷ []) k d).done
begun_more j places slots e begun last k d l = elim (cases_eq k (length slots)) [
  | inl at ↦
      let found : get_or (slots ++ e ∷ []) k d ≡ e = ap (λ n. get_or (slots ++ e ∷ []) n d) at ∙ get_or-append_seam slots e [] d in
      subst (λ (s : Slot _ _). HasNotRun j places k s.done) (sym found) (subst (λ (n : ℕ). HasNotRun j places n e.done) (sym at) last)
  | inr other ↦
      let before : k < length slots = omega (arith, l, other, length-append slots (e ∷ [])) in
      subst (λ (s : Slot _ _). HasNotRun j places k s.done) (sym (get_or_append_left slots (e ∷ []) d k before)) (begun k d before)
]

pub empty_more : {P E : Type 0} (slots : List (Slot P E)) (e : Slot P E) → AreEmpty slots → e.pass ≡ None → AreEmpty (slots ++ e ∷ [])
empty_more slots e empty none k d l = elim (cases_eq k (length slots)) [
  | inl at ↦ ap (λ s. s.pass) (ap (λ n. get_or (slots ++ e ∷ []) n d) at ∙ get_or-append_seam slots e [] d) ∙ none
  | inr other ↦
      let before : k < length slots = omega (arith, l, other, length-append slots (e ∷ [])) in
      ap (λ s. s.pass) (get_or_append_left slots (e ∷ []) d k before) ∙ empty k d before
]
