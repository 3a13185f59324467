-- What calls of an area ask of a pass.
use Rattle.std.specs.Prelude.{◌≡◌, ℕ, ◌+◌, ◌-◌, ◌*◌, ◌^◌, ◌<◌, true, Some, List, length, All, AllPairs}
use Rattle.cov_base.specs.declared.facts.Fact.{Fact}
use Rattle.cov_base.specs.declared.numbers.PlaceNo.{PlaceNo}
use Rattle.cov_base.specs.FactKind.{is_of_kind}
use Rattle.module_area.specs.Meaning.{PlanView, kind_at, is_over, is_controlled}
use Rattle.module_area.specs.Notes.{Notes, calls, is_working, keeps}

-- The pass is one of the area, with room for a call, and its task has not ended. It has just fetched the session's breakpoint
-- at the place, whose kind has the fact.
pub record CanMark (is_pass : Type 0) (plan : PlanView) (n : Notes) (s p : ℕ) (f : Fact) : Type 0 where
  pub area : is_pass
  pub working : is_working n ≡ true
  pub place : p < length plan.places
  pub room : calls n < 2 ^ 62
  pub session : 0 < s
  pub pending : n.pending ≡ Some (p, 2 * s - 1)
  pub kind : is_of_kind (kind_at plan p) f ≡ true

-- the pass is one of the area, with room for a call, and keeps the place
pub record CanTag (is_pass : Type 0) (plan : PlanView) (n : Notes) (s p : ℕ) : Type 0 where
  pub area : is_pass
  pub place : p < length plan.places
  pub room : calls n < 2 ^ 62
  pub session : 0 < s
  pub keeper : keeps plan n p ≡ true

-- a pass may plant the session at each of these places, once
pub record MayPlant (plan : PlanView) (n : Notes) (s : ℕ) (places : List PlaceNo) : Type 0 where
  pub of_plan : All (λ p. p.0 < length plan.places) places
  pub over : All (λ p. is_over plan s p.0 ≡ true) places
  pub keeper : All (λ p. keeps plan n p.0 ≡ true) places
  pub later : All (λ p. n.last p.0 + 1 < 2 * s) places
  pub rising : AllPairs (λ p q. p.0 < q.0) places

-- a pass may close the session at each of these places
pub record MayClose (plan : PlanView) (n : Notes) (s : ℕ) (places : List PlaceNo) : Type 0 where
  pub of_plan : All (λ p. p.0 < length plan.places) places
  pub over : All (λ p. is_controlled plan s p.0 ≡ true) places
  pub keeper : All (λ p. keeps plan n p.0 ≡ true) places
  pub planted : All (λ p. n.last p.0 + 1 ≡ 2 * s) places
  pub rising : AllPairs (λ p q. p.0 < q.0) places
