-- The plans and passes of tests.
use Rattle.std.specs.Prelude.{◌≡◌, ℕ, ◌<◌, ◌≤◌, ◌^◌, true, Some, length}
use Rattle.cov_base.specs.declared.facts.Fact.{Fact}
use Rattle.cov_base.specs.declared.facts.Kind.{Kind}
use Rattle.cov_base.specs.declared.facts.Kind.TheVariants.{Straight}
use Rattle.cov_base.specs.FactKind.{is_of_kind}
use Rattle.module_area.specs.Meaning.{PlanView, kind_at, is_controlled}
use Rattle.module_area.specs.Rule.{is_controller, has_task}
use Rattle.module_area.specs.Notes.{Notes, calls, own_number, is_working}

-- it holds of the places, or tasks, 0, 1 and 2
abbrev pub OfThree : (ℕ → Type 0) → Type 0
OfThree f = f 0 × f 1 × f 2

-- the plan has the place, and an instruction of that kind is there
pub record HasKind (plan : PlanView) (p : ℕ) (kind : Kind) : Type 0 where
  pub place : p < length plan.places
  pub is_kind : kind_at plan p ≡ kind

-- a place under two sessions of task 1
pub record IsTwice (plan : PlanView) (p : ℕ) : Type 0 where
  pub first : is_controlled plan 1 p ≡ true
  pub second : is_controlled plan 2 p ≡ true
  pub controller : is_controller plan 1 p ≡ true

-- the pass of task t, with few calls, before its task's first boundary
pub record IsFirst (t : ℕ) (n : Notes) : Type 0 where
  pub few : calls n < 2 ^ 8
  pub bears : n.bears ≡ Some t
  pub number : own_number n ≡ 0

-- the pass of task t, with fewer calls than that
pub record IsPassFor (t most : ℕ) (n : Notes) : Type 0 where
  pub few : calls n < most
  pub bears : n.bears ≡ Some t

-- a pass with few calls, whose task hasn't ended
pub record IsAtWork (n : Notes) : Type 0 where
  pub few : calls n < 2 ^ 8
  pub working : is_working n ≡ true

-- a pass later on, of the same task, with fewer calls than that
pub record IsLater (most : ℕ) (before after : Notes) : Type 0 where
  pub few : calls after < most
  pub bears : after.bears ≡ before.bears

-- the pass may show the fact at place p
pub record MayVisit (plan : PlanView) (n : Notes) (p : ℕ) (f : Fact) : Type 0 where
  pub room : calls n < 2 ^ 60
  pub working : is_working n ≡ true
  pub place : p < length plan.places
  pub kind : is_of_kind (kind_at plan p) f ≡ true

-- a plan of tasks 0, 1 and 2, and of three instructions under two sessions of task 1
pub record HasThree (plan : PlanView) : Type 0 where
  pub places : 2 < length plan.places
  pub kinds : OfThree (λ p. kind_at plan p ≡ Straight)
  pub over : OfThree (IsTwice plan)
  pub tasks : OfThree (λ t. has_task plan.tasks t ≡ true)
  pub sessions : 2 ≤ plan.sessions
