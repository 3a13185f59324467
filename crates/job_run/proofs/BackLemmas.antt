-- What the slots hold once a crew is through.
use Rattle.std.proofs.Common.{◌≡◌, inl, inr, ℕ, ◌+◌, ◌<◌, Option, IfOk, List, length, get_or, ◌∙◌, ap, subst, arith}
use Rattle.std.proofs.lemmas.Bool.{cases_Bool}
use Rattle.std.specs.declared.result.Result.{Result}
use Rattle.std.specs.declared.result.Result.TheVariants.{Ok, Err}
use Rattle.cov_base.specs.Meaning.{FactSet}
use Rattle.cov_base.specs.declared.shortage.NoMemory.{NoMemory}
use Rattle.module_area.specs.Ended.{AreSettled}
use Rattle.module_area.specs.Meaning.{FinalsView, set_at, PlanView}
use Rattle.module_area.specs.Notes.{Notes}
use Rattle.module_area.specs.declared.places.Place.{Place}
use Rattle.task_run.specs.Meaning.{Course}
use Rattle.session_book.specs.Meaning.{JobView}
use Rattle.phase_plan.specs.Meaning.{plan_view}
use Rattle.job_run.specs.Crews.{AreBack, phase_at}
use Rattle.job_run.specs.Passes.{AreEquipped, EndsTask, KnowsFinal}
use Rattle.job_run.specs.Slots.{AreEmpty, HaveExtras, KeepsOthers, in_phase}
use Rattle.job_run.specs.Tasks.{AreRun, Begins, Ends, IsEnded}
use Rattle.job_run.specs.declared.outcome.Done.{Done}
use Rattle.job_run.specs.declared.slots.Slot.{Slot}
use Rattle.job_run.proofs.SlotLemmas.{plan_here}
use Rattle.job_run.proofs.TaskLemmas.{AreRun-next}

module _ {P E : Type 0} (its_end : ℕ → Done → Done → Option E → P → Type 0) (known : P → Type 0) (j : JobView) (phase : ℕ) (old new : List (Slot P E)) (b : AreBack its_end known (phase_at j phase) old new) where
  -- the phase's tasks have run
  pub have_run : (course : Course) (places : List Place) → ((t : ℕ) (d e : Done) (x : Option E) (p : P) → its_end t d e x p → IsEnded course j places t e) → AreRun course j places phase old → AreRun course j places (phase + 1) new
  have_run course places ended a =
      AreRun-next course j places phase old new a b.count (λ t d l h. ended t _ _ _ _ ((b.each t d l).its h).ends) (λ t d l h. ap (λ (s : Slot _ _). s.done) ((b.each t d l).other h))

  -- no slot has a pass
  pub are_empty : AreEmpty old → AreEmpty new
  are_empty empty t d l = let here : t < length old = omega (arith, l, b.count) in elim (cases_Bool (in_phase j phase t)) [
    | inl its ↦ ((b.each t d here).its its).none
    | inr other ↦ ap (λ (s : Slot _ _). s.pass) ((b.each t d here).other other) ∙ empty t d here
  ]

  pub others_same : KeepsOthers j phase old new
  others_same = record { count = b.count; done = λ t d l h. ap (λ (s : Slot _ _). s.done) ((b.each t d l).other h); extra = λ t d l h. ap (λ (s : Slot _ _). s.extra) ((b.each t d l).other h) }

-- what the extras of the phase's tasks tell, by sets that are as the root knows them final
pub have_extras : {P E : Type 0} (course : Course) (begins : Begins E) (ends : Ends E) (notes : P → Notes) (root : Notes) (plan : PlanView) (j : JobView) (places : List Place) (phase : ℕ) (old new : List (Slot P E)) → plan ≡ plan_view j places phase →
    AreEquipped begins plan j places phase old → AreBack (EndsTask course ends notes plan j places) (λ p. KnowsFinal root (notes p)) (phase_at j phase) old new →
    (sets : ℕ → ℕ → FactSet) → AreSettled plan root sets → HaveExtras ends j places phase sets new
have_extras course begins ends notes root plan j places phase old new of r b sets agree = record {
  each = λ t d l h.
      let here : t < length old = omega (arith, l, b.count) in
      let back = (b.each t d here).its h in
      let start = r.can t d (record { exists = omega (arith, here, r.count); its = h }) in
      let told = back.ends.tells sets (λ s p x some within exists settled. agree s p x some within exists (back.known s p x settled)) in
      record {
        extra = back.ends.extra;
        has = back.ends.left;
        first = (get_or old t d).done;
        begun = start.task;
        tells = subst (λ (p : PlanView). ends p (get_or old t d).done.task (get_or new t d).done.task back.ends.extra sets) (plan_here plan j places phase t of h) told;
      };
}

-- where memory was there

pub whatever : {A B X : Type 0} (r : Result A B) → X → IfOk r (λ _. X)
whatever (Ok f) x = x
whatever (Err e) x = tt

pub by_sets : (plan of_cells : PlanView) (root : Notes) (good : (ℕ → ℕ → FactSet) → Type 0) (r : Result FinalsView NoMemory) → of_cells ≡ plan → IfOk r (λ f. AreSettled of_cells root (set_at f)) →
    ((sets : ℕ → ℕ → FactSet) → AreSettled plan root sets → good sets) → IfOk r (λ f. good (set_at f))
by_sets plan of_cells root good (Ok f) same settled all = all (set_at f) (subst (λ (p : PlanView). AreSettled p root (set_at f)) same settled)
by_sets plan of_cells root good (Err e) same settled all = tt
