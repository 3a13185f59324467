-- What a plan without controlled sessions is tested for.
use Rattle.std.specs.Prelude.{◌≡◌, ◌≢◌, ℕ, ◌≤◌, List, []}
use Rattle.cov_base.specs.Meaning.{breakpoint, kind_of}
use Rattle.cov_base.specs.declared.numbers.TaskNo.{TaskNo}
use Rattle.module_area.specs.declared.places.Place.{Place}
use Rattle.module_area.specs.Meaning.{PlanView}

-- a place and its window may stand in a plan of so many sessions
pub record MayStand (place : Place) (window sessions : ℕ) : Type 0 where
  pub in_range : window ≤ sessions
  pub no_breakpoint : place.original ≢ breakpoint
  pub kinds : place.kind ≡ kind_of place.original

-- a plan without controlled sessions
abbrev pub whole_plan : List Place → List ℕ → List TaskNo → ℕ → PlanView
whole_plan places windows tasks sessions =
    record { places = places; windows = windows; controlled = []; tasks = tasks; sessions = sessions }
