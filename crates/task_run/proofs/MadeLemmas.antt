-- What a run's pass has made, instruction by instruction.
use Rattle.std.proofs.Common.{◌≡◌, ℕ, ◌+◌, ◌*◌, ◌<◌, ◌≤◌, Option, List, [], ◌∷◌, ◌++◌, length, inl, inr, refl, ◌∙◌, arith, length-append}
use Rattle.cov_base.specs.declared.limits.TheConstants.{PLACE_LIMIT}
use Rattle.cov_base.specs.Meaning.{Memory, State, Visit}
use Rattle.s370_exec.specs.Meaning.{call_of, solo_step}
use Rattle.module_area.specs.Meaning.{PlanView, ControlView, control_after}
use Rattle.module_area.specs.Rule.{IsPlan, Has}
use Rattle.module_area.specs.Notes.{Notes, calls}
use Rattle.s370_exec.proofs.Laws.{solo_step-visits}
use Rattle.task_run.specs.Answered.{Turns}
use Rattle.task_run.specs.Noting.{MakesEach, HasAnswered}
use Rattle.task_run.proofs.TurnLemmas.{turns_made, few_calls}
use Rattle.task_run.specs.Controlled.{Follows}
use Rattle.task_run.proofs.NumberLemmas.{step_visits}
use Rattle.task_run.proofs.FollowsLemmas.{Follows-none, Follows-more}

-- the pass has made the visits and the calls of a run's first i instructions
pub record Made (plan : PlanView) (old new : Notes) (c d : ControlView) (i : ℕ) (trace : List Visit) (called : List (Option ℕ)) : Type 0 where
  pub follows : Follows plan old new trace called c d
  pub count : length called ≡ i
  pub before : (v : Visit) → Has v trace → v.before < i
  pub few : calls new ≤ calls old + (6 + PLACE_LIMIT) * i

pub Made-none : (plan : PlanView) (n : Notes) (c : ControlView) → Made plan n n c c 0 [] []
Made-none plan n c = record {
  follows = Follows-none plan n c;
  count = refl;
  before = λ v there. absurd there;
  few = omega arith;
}

in_both : (v : Visit) (xs ys : List Visit) (i : ℕ) → ((v : Visit) → Has v xs → v.before < i) → ((v : Visit) → Has v ys → v.before ≡ i) → Has v (xs ++ ys) → v.before < i + 1
in_both v [] ys i before here there = let e = here v there in omega arith
in_both v (x ∷ xs) ys i before here there = elim there [
  | inl first ↦ let b = before v (inl first) in omega arith
  | inr rest ↦ in_both v xs ys i (λ w h. before w (inr h)) here rest
]

-- what one instruction adds
pub record AddsTurn (m : Memory) (plan : PlanView) (mid new : Notes) (d e : ControlView) (s : State) : Type 0 where
  pub turns : Turns plan mid new (solo_step m s).visits d (call_of m s)
  pub control : e ≡ control_after d (call_of m s)
  pub few : calls new ≤ calls mid + 6 + PLACE_LIMIT

pub AddsTurn-step : (m : Memory) (plan : PlanView) (old mid new : Notes) (d e : ControlView) (s : State) → MakesEach plan old (solo_step m s).visits mid → HasAnswered plan mid d (call_of m s) new e → AddsTurn m plan old new d e s
AddsTurn-step m plan old mid new d e s made answered = record {
  turns = turns_made plan old mid new (solo_step m s).visits d e (call_of m s) made answered;
  control = answered.control;
  few = few_calls plan old mid new (solo_step m s).visits d e (call_of m s) (solo_step-visits m s) made answered;
}

pub Made-more : (m : Memory) (plan : PlanView) (old mid new : Notes) (c d e : ControlView) (i : ℕ) (s : State) (trace : List Visit) (called : List (Option ℕ)) → IsPlan plan → s.done ≡ i →
    Made plan old mid c d i trace called → AddsTurn m plan mid new d e s → Made plan old new c e (i + 1) (trace ++ (solo_step m s).visits) (called ++ call_of m s ∷ [])
Made-more m plan old mid new c d e i s trace called is done r a = record {
  follows = Follows-more plan old mid new trace (solo_step m s).visits called (call_of m s) c d e is
      (λ v there. let b = r.before v there in omega (arith, b, r.count))
      (λ v there. let b = step_visits m s v there in omega (arith, b, done, r.count))
      r.follows a.turns a.control;
  count = omega (arith, r.count, length-append called (call_of m s ∷ []));
  before = λ v there. in_both v trace (solo_step m s).visits i r.before (λ w h. step_visits m s w h ∙ done) there;
  few = omega (arith, r.few, a.few);
}
