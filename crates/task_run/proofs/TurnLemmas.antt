-- What a pass makes of an instruction's visits and call.
use Rattle.std.proofs.Common.{ℕ, ◌+◌, ◌≤◌, Option, List, [], ◌∷◌, length, sym, subst, arith}
use Rattle.std.proofs.lemmas.Bool.{cond_both}
use Rattle.cov_base.specs.declared.limits.TheConstants.{PLACE_LIMIT}
use Rattle.cov_base.specs.Meaning.{Visit}
use Rattle.module_area.specs.Meaning.{ControlView, is_place, visits_at_places, PlanView}
use Rattle.module_area.specs.Notes.{Notes, calls}
use Rattle.task_run.specs.Answered.{Makes, Turns}
use Rattle.task_run.specs.Noting.{MakesEach, HasAnswered}
use Rattle.task_run.proofs.AnsweredLemmas.{Makes-none, Makes-append}

pub makes_all : (plan : PlanView) (old new : Notes) (visits : List Visit) → MakesEach plan old visits new → Makes plan old new visits
makes_all plan old new [] each = subst (λ (n : Notes). Makes plan old n []) (sym each) (Makes-none plan old)
makes_all plan old new (v ∷ vs) each = Makes-append plan old each.0 new (v ∷ []) vs each.1 (makes_all plan each.0 new vs each.2)

pub turns_made : (plan : PlanView) (old mid new : Notes) (visits : List Visit) (c d : ControlView) (call : Option ℕ) → MakesEach plan old visits mid → HasAnswered plan mid c call new d → Turns plan old new visits c call
turns_made plan old mid new visits c d call each answered = record { mid = mid; makes = makes_all plan old mid visits each; notes = answered.notes }

-- a visit takes at most three calls of the area

at_most : (plan : PlanView) (visits : List Visit) → visits_at_places plan.places visits ≤ length visits
at_most plan [] = omega arith
at_most plan (v ∷ vs) = let here = cond_both (is_place plan.places v.at) 1 0 (λ n. n ≤ 1) (λ e. omega arith) (λ e. omega arith) in omega (arith, here, at_most plan vs)

pub few_calls : (plan : PlanView) (old mid new : Notes) (visits : List Visit) (c d : ControlView) (call : Option ℕ) → length visits ≤ 2 → MakesEach plan old visits mid → HasAnswered plan mid c call new d →
    calls new ≤ calls old + 6 + PLACE_LIMIT
few_calls plan old mid new visits c d call two each answered =
    let makes : Makes plan old mid visits = makes_all plan old mid visits each in
    let most = at_most plan visits in
    omega (arith, two, most, answered.few, makes.observes.fetches, makes.observes.marks, makes.observes.lifts, makes.still.plants, makes.still.closes)
