-- An area that was planted, run over and finished.
use Rattle.std.proofs.Common.{◌≡◌, ℕ, zero, suc, ◌+◌, ◌-◌, ◌*◌, ◌<◌, Bool, true, false, inl, inr, not, ◌&&◌, nat_eq, nat_lt, if◌then◌else◌, List, [], ◌∷◌, ◌++◌, length, IfOk, refl, ◌∙◌, ap, subst, arith, zero-add}
use Rattle.std.specs.List.{count_by}
use Rattle.std.specs.declared.result.Result.{Result}
use Rattle.std.specs.declared.result.Result.TheVariants.{Ok, Err}
use Rattle.cov_base.specs.declared.shortage.NoMemory.{NoMemory}
use Rattle.std.proofs.lemmas.Bool.Decides.{nat_tests}
use Rattle.std.proofs.lemmas.List.{take_all}
use Rattle.cov_base.specs.Meaning.{Visit}
use Rattle.module_area.specs.Ended.{HasRace, HasSets, HasTally}
use Rattle.module_area.specs.Meaning.{FinalsView, PlanView, window_at}
use Rattle.module_area.specs.Notes.{Notes}
use Rattle.module_area.specs.Rule.{IsPlan, has_task, is_controller}
use Rattle.module_area.proofs.Laws.{no_controller}
use Rattle.module_area.specs.declared.tallies.Tally.{Tally}
use Rattle.task_run.proofs.Laws.{IsReady, exact_set, exact_lifts}
use Rattle.task_run.specs.Meaning.{Walk, opened_places}
use Rattle.job_run.specs.Meaning.{EndsArea}
use Rattle.job_run.specs.Areas.{GrowsBy}
use Rattle.job_run.specs.Bounds.{JoinsTasks}
use Rattle.job_run.specs.Passes.{JoinsAll, after_planting}
use Rattle.job_run.proofs.BoundLemmas.{bounded}
use Rattle.job_run.proofs.ExactLemmas.{sets_exact}

seen_planted : (w p n : ℕ) → p < n → 0 < w → (if nat_lt p n && not (nat_eq w 0) then 2 * w - 1 else 0) + 1 ≡ 2 * w
seen_planted w p n h k = grind (arith, nat_tests)

-- and passes were split off and joined
pub ready : (plan : PlanView) (given out : ℕ → Bool) → IsPlan plan → IsReady plan (record (after_planting plan) { given = given; out = out })
ready plan given out is = record {
  none = λ s p f. refl;
  none_full = λ s p. refl;
  planted = λ p h k. record { some = k; whole = refl; seen = seen_planted (window_at plan p) p (length plan.windows) (omega (arith, is.windows)) k };
}

-- the root has planted nothing where a task plants
pub planted_last : (plan : PlanView) (t p : ℕ) → IsPlan plan → is_controller plan t p ≡ true → (after_planting plan).last p ≡ 0
planted_last plan t p is own = no_tag (nat_lt p (length plan.windows)) (window_at plan p) (λ some. no_controller plan t p is some own)
  where
    no_tag : (q : Bool) (w : ℕ) → (0 < w → ⊥) → (if q && not (nat_eq w 0) then 2 * w - 1 else 0) ≡ 0
    no_tag true zero none = refl
    no_tag true (suc w) none = absurd (none (omega arith))
    no_tag false w none = refl

pub ends_area : (plan : PlanView) (walks : ℕ → Walk) (ended : Notes) (trace : List Visit) (f : FinalsView) → IsPlan plan → JoinsAll plan (after_planting plan) ended trace →
    JoinsTasks plan walks plan.tasks (after_planting plan) ended → HasSets plan ended f → HasTally plan ended f → HasRace ended → ((t : ℕ) → ended.given t ≡ has_task plan.tasks t) → EndsArea plan walks trace f ended.tally
ends_area plan walks ended trace f is observes joins sets tally race given =
    let start : Notes = record (after_planting plan) { given = ended.given; out = ended.out } in
    let planted : (after_planting plan).tally.plants ≡ count_by (λ w. not (nat_eq w 0)) plan.windows =
    zero-add _ ∙ ap (count_by (λ w. not (nat_eq w 0))) (take_all (length plan.windows) plan.windows (omega arith)) in
    record {
      places = sets.places;
      size = sets.size;
      sets = λ p h k. exact_set plan start ended trace f is (ready plan ended.given ended.out is) observes sets p h k;
      bounded = bounded plan walks (after_planting plan) ended f is joins sets;
      exact = sets_exact plan walks ended f joins.fetches is joins.fetched sets race given joins.own;
      within = sets.within;
      over = sets.over;
      plants = joins.plants ∙ ap (λ (n : ℕ). n + opened_places plan walks) planted;
      fetches = observes.fetches ∙ zero-add _;
      facts = tally.marks;
      marks = omega (arith, observes.marks, observes.fetches);
      lifts_least = tally.lifts_least (λ s p full. elim (observes.grows.met s p full) [ inl before ↦ absurd (never before) | inr free ↦ free ]);
      lifts_most = tally.lifts_most;
      lifts_whole = λ whole. exact_lifts plan start ended trace f whole (ready plan ended.given ended.out is) observes sets tally;
      closes = joins.closes ∙ zero-add _;
    }
  where
    never : false ≡ true → ⊥
    never e = cc

pub grows_by : (plan of_cells : PlanView) (walks : ℕ → Walk) (ended : Notes) (trace : List Visit) (f : FinalsView) (ledger ledger1 ledger2 : List Tally) (finals finals1 finals2 : List FinalsView) →
    IsPlan plan → of_cells ≡ plan → JoinsAll plan (after_planting plan) ended trace → JoinsTasks plan walks plan.tasks (after_planting plan) ended → HasSets of_cells ended f → HasTally of_cells ended f → HasRace ended → ((t : ℕ) → ended.given t ≡ has_task plan.tasks t) →
    ledger1 ≡ ledger → finals1 ≡ finals → ledger2 ≡ ledger1 ++ ended.tally ∷ [] → finals2 ≡ finals1 ++ f ∷ [] →
    GrowsBy plan walks trace ledger ledger2 finals finals2 f
grows_by plan of_cells walks ended trace f ledger ledger1 ledger2 finals finals1 finals2 is same observes joins sets tally race given l1 f1 l2 f2 = record {
  tally = ended.tally;
  ends = ends_area plan walks ended trace f is observes joins (subst (λ (q : PlanView). HasSets q ended f) same sets) (subst (λ (q : PlanView). HasTally q ended f) same tally) race given;
  in_ledger = l2 ∙ ap (λ l. l ++ ended.tally ∷ []) l1;
  in_finals = f2 ∙ ap (λ l. l ++ f ∷ []) f1;
}

-- where the area was finished
pub grows_if : (plan of_cells : PlanView) (walks : ℕ → Walk) (ended : Notes) (trace : List Visit) (r : Result FinalsView NoMemory) (ledger ledger1 ledger2 : List Tally) (finals finals1 finals2 : List FinalsView) →
    IsPlan plan → of_cells ≡ plan → JoinsAll plan (after_planting plan) ended trace → JoinsTasks plan walks plan.tasks (after_planting plan) ended → IfOk r (HasSets of_cells ended) → IfOk r (HasTally of_cells ended) → IfOk r (λ _. HasRace ended) → ((t : ℕ) → ended.given t ≡ has_task plan.tasks t) →
    ledger1 ≡ ledger → finals1 ≡ finals → IfOk r (λ _. ledger2 ≡ ledger1 ++ ended.tally ∷ []) → IfOk r (λ f. finals2 ≡ finals1 ++ f ∷ []) →
    IfOk r (λ f. GrowsBy plan walks trace ledger ledger2 finals finals2 f)
grows_if plan of_cells walks ended trace (Ok f) ledger ledger1 ledger2 finals finals1 finals2 is same observes joins sets tally race given l1 f1 l2 f2 =
    grows_by plan of_cells walks ended trace f ledger ledger1 ledger2 finals finals1 finals2 is same observes joins sets tally race given l1 f1 l2 f2
grows_if plan of_cells walks ended trace (Err e) ledger ledger1 ledger2 finals finals1 finals2 is same observes joins sets tally race given l1 f1 l2 f2 = tt
