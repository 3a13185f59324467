-- What a pass makes of one visit, by what was fetched for it.
use Rattle.std.proofs.Common.{◌≡◌, ◌≢◌, ℕ, ◌+◌, ◌/◌, true, false, List, [], ◌∷◌, refl, sym, ◌∙◌, ap, subst}
use Rattle.cov_base.specs.Meaning.{breakpoint, fact_of, Visit}
use Rattle.cov_base.specs.declared.facts.Fact.{Fact}
use Rattle.module_area.specs.declared.cells.Cell.{Cell}
use Rattle.module_area.specs.declared.places.Place.{Place}
use Rattle.module_area.specs.Meaning.{is_place, PlanView, kind_at}
use Rattle.module_area.specs.Notes.{Notes, IsAnswer, after_fetch}
use Rattle.task_run.specs.Sights.{BeginsAt}
use Rattle.task_run.specs.Answered.{Makes}
use Rattle.task_run.specs.Noting.{MakesEach}
use Rattle.task_run.specs.Traps.{Settles}
use Rattle.task_run.proofs.AnsweredLemmas.{Makes-plain, Makes-kept, Makes-settled}

-- no place begins there
pub makes_nothing : (own : PlanView) (places : List Place) (n : Notes) (v : Visit) → own.places ≡ places → is_place places v.at ≡ false → MakesEach own n (v ∷ []) n
makes_nothing own places n v same none = (n, Makes-plain own n v (ap (λ l. is_place l v.at) same ∙ none), refl)

one : (own : PlanView) (old new : Notes) (v : Visit) → Makes own old new (v ∷ []) → MakesEach own old (v ∷ []) new
one own old new v makes = (new, makes, refl)

-- the plan that the area was made for, and the tables' places
module _ (of_area own : PlanView) (places : List Place) (area : of_area ≡ own) (same : own.places ≡ places) where
  begins_there : (a q : ℕ) → BeginsAt places a q → BeginsAt of_area.places a q
  begins_there a q begins = subst (λ (l : List Place). BeginsAt l a q) (sym (ap (λ (p : PlanView). p.places) area ∙ same)) begins

  -- the place was free, or the visit wasn't begun
  pub makes_kept : (old new : Notes) (q : ℕ) (cell : Cell) (v : Visit) → BeginsAt places v.at q → IsAnswer of_area old q cell → new ≡ after_fetch of_area old q cell →
      (v.begun ≡ true → cell.half ≢ breakpoint) → MakesEach own old (v ∷ []) new
  makes_kept old new q cell v begins answer notes free =
      subst (λ (p : PlanView). MakesEach p old (v ∷ []) new) area (one of_area old new v (rw notes (Makes-kept of_area old q cell v (begins_there v.at q begins) answer free)))

  -- a trap was settled, with the fact that the visit shows
  pub makes_settled : (old mid new : Notes) (q : ℕ) (cell : Cell) (v : Visit) (f : Fact) → BeginsAt places v.at q → IsAnswer of_area old q cell → mid ≡ after_fetch of_area old q cell → cell.half ≡ breakpoint → v.begun ≡ true →
      f ≡ fact_of (kind_at of_area q) v.went → Settles of_area mid new (cell.tag / 2 + 1) q f → MakesEach own old (v ∷ []) new
  makes_settled old mid new q cell v f begins answer notes trap begun fact settles =
      subst (λ (p : PlanView). MakesEach p old (v ∷ []) new) area
      (one of_area old new v (Makes-settled of_area old new q cell v (begins_there v.at q begins) trap answer begun (rw (notes, fact) at settles)))
