-- Which events a task makes until it has ended.
use Rattle.std.specs.Prelude.{◌≡◌, ℕ, zero, suc, true, false, Option, Some, None, is_none, List, [], ◌∷◌, All}
use Rattle.std.specs.Option.{option_map_or}
use Rattle.cov_base.specs.declared.numbers.TaskNo.{TaskNo}
use Rattle.interleave_core.specs.Meaning.{World, Parts, Stepped, parts_step, run_on, next_of, most_events}
use Rattle.interleave_core.specs.CoreState.{is_by}
use Rattle.interleave_core.specs.Results.{IsOver}
use Rattle.interleave_core.specs.declared.events.Event.{Event}

-- what is stored after an event, where it was possible
abbrev pub after : Parts → Option Stepped → Parts
after c None = c
after c (Some x) = x.parts

-- the task's next events, at most so many
abbrev pub go_events : World → ℕ → Parts → TaskNo → List Event
go_events w zero c t = []
go_events w (suc n) c t = option_map_or (λ (e : Event). e ∷ go_events w n (after c (parts_step w c e)) t) (next_of w c t) []

-- all that it makes until it has ended
abbrev pub all_events : World → Parts → TaskNo → List Event
all_events w c t = go_events w (most_events w t.0) c t

-- The task had a next event. All that it makes until it has ended are its own, and possible one after the other, and it
-- has ended.
pub record HasGone (w : World) (old new : Parts) (t : TaskNo) : Type 0 where
  pub begun : is_none (next_of w old t) ≡ false
  pub own : All (λ e. is_by w e t.0 ≡ true) (all_events w old t)
  pub run : run_on w old (all_events w old t) ≡ Some new
  pub ended : IsOver new t.0
