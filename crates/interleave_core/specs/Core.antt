-- An event behind each list of events that leaves what the core stored.
use Rattle.std.specs.Prelude.{◌≡◌, Some, None, List, [], ◌∷◌, ◌++◌}
use Rattle.interleave_core.specs.CoreState.{CoreState, core_step, core_run, KeepsRule}
use Rattle.interleave_core.specs.MeaningOfEvents.{Stands}
use Rattle.interleave_core.specs.Meaning.{World, Parts}
use Rattle.interleave_core.specs.declared.events.Event.{Event}
use Rattle.interleave_core.specs.declared.events.Shown.{Shown}

-- the event is possible after these, shows this, and leaves these parts
pub record Follows (w : World) (events : List Event) (e : Event) (c : CoreState) (parts : Parts) (shown : Shown) : Type 0 where
  pub after : CoreState
  pub step : core_step w c e ≡ Some (record { core = after; shown = shown })
  pub run : core_run w (events ++ e ∷ []) ≡ Some after
  pub stored : after.parts ≡ parts
  pub stands : Stands w (events ++ e ∷ []) after.parts
  pub rule : KeepsRule w (events ++ e ∷ []) after

-- after each list of events that leaves the parts stored so, the event is possible, shows this, and leaves these parts
abbrev pub FollowsAll : World → Parts → Event → Parts → Shown → Type 0
FollowsAll w old e new shown =
    (events : List Event) (c : CoreState) → core_run w events ≡ Some c → c.parts ≡ old → Follows w events e c new shown

-- it isn't possible after any of them
abbrev pub FollowsNone : World → Parts → Event → Type 0
FollowsNone w old e = (events : List Event) (c : CoreState) → core_run w events ≡ Some c → c.parts ≡ old → core_step w c e ≡ None
