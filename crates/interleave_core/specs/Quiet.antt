-- A session whose sets no event of a core can change any more.
use Rattle.std.specs.Prelude.{◌≡◌, ℕ, ◌+◌, ◌*◌, ◌<◌, Bool, true, false, not, ◌&&◌, ◌||◌, nat_eq, Option, Some, None, is_some, List, [], ◌∷◌, ◌++◌, length}
use Rattle.std.specs.List.{list_any}
use Rattle.module_area.specs.Meaning.{word_at, is_controlled}
use Rattle.module_area.specs.Notes.{is_closed}
use Rattle.interleave_core.specs.Meaning.{World, TaskPart, Parts, part_of, plan_in, controller_of, ending_of, same_due, set_of}
use Rattle.interleave_core.specs.CoreState.{CoreState, CoreStepped, core_step, core_run}
use Rattle.interleave_core.specs.declared.events.Event.{Event}
use Rattle.interleave_core.specs.declared.events.Event.TheVariants.{Do, Close}
use Rattle.interleave_core.specs.declared.stage.Due.TheVariants.{Marking}
use Rattle.interleave_core.specs.declared.stage.Stage.{Stage}
use Rattle.interleave_core.specs.declared.stage.Stage.TheVariants.{Ready, Holding, Ended}

-- the cell in hand is a breakpoint of session s that is to be marked
abbrev pub has_unmarked : ℕ → Stage → Bool
has_unmarked s (Holding h) = same_due h.due Marking && nat_eq (h.cell.tag + 1) (2 * s)
has_unmarked s stage = false

abbrev pub any_unmarked : ℕ → List TaskPart → Bool
any_unmarked s tasks = list_any (λ (u : TaskPart). has_unmarked s u.stage) tasks

-- session s is a controlled one, each of its places has the tag of its closing or a higher one, and no task has a
-- breakpoint of it in hand that is to be marked
abbrev pub is_quiet : World → Parts → ℕ → Bool
is_quiet w c s =
    is_some (controller_of w s) && (is_closed (plan_in w) (λ p. (word_at c.cells p).tag) s && not (any_unmarked s c.tasks))

-- the sets of session s are what they were
abbrev pub SetsStay : World → ℕ → Parts → Parts → Type 0
SetsStay w s old new = (p : ℕ) → p < length w.places → set_of w new s p ≡ set_of w old s p

-- each session that was quiet is quiet, and its sets stay
abbrev pub StayQuiet : World → Parts → Parts → Type 0
StayQuiet w old new = (s : ℕ) → is_quiet w old s ≡ true → (is_quiet w new s ≡ true) × SetsStay w s old new

-- ---- by events

abbrev pub is_close : ℕ → ℕ → Event → Bool
is_close s p (Close t q) = nat_eq t.0 s && nat_eq q.0 p
is_close s p e = false

-- before an instruction, or at the end
abbrev pub is_between : Stage → Bool
is_between Ready = true
is_between (Ended e) = true
is_between stage = false

-- the event was task t's and ended an instruction or its run, by what is then stored
abbrev pub ends : Event → ℕ → Parts → Bool
ends (Do u) t c = nat_eq u.0 t && is_between (part_of c t).stage
ends e t c = false

abbrev pub now_or_later : (CoreState → Bool) → Event → ℕ → Option CoreStepped → Bool
now_or_later later e t None = false
now_or_later later e t (Some x) = ends e t x.core.parts || later x.core

-- one of these events, which are made from this core on, did
abbrev pub ends_in : World → ℕ → List Event → CoreState → Bool
ends_in w t [] c = false
ends_in w t (e ∷ events) c = now_or_later (ends_in w t events) e t (core_step w c e)

-- By these events session s, a controlled one, is drained: it was closed at all its places, and each task had ended its run
-- by then, or has ended an instruction or its run since.
pub record IsDrained (w : World) (events : List Event) (s : ℕ) : Type 0 where
  pub controlled : is_some (controller_of w s) ≡ true
  pub before : List Event
  pub since : List Event
  pub both : events ≡ before ++ since
  pub core : CoreState
  pub run : core_run w before ≡ Some core
  pub closed : (p : ℕ) → is_controlled (plan_in w) s p ≡ true → list_any (is_close s p) before ≡ true
  pub tasks : (t : ℕ) → t < length core.parts.tasks
      → (is_some (ending_of (part_of core.parts t).stage) || ends_in w t since core) ≡ true

-- after each list of events that leaves the parts stored so and by which session s is drained, it is quiet
abbrev pub QuietAsDrained : World → Parts → ℕ → Type 0
QuietAsDrained w c s =
    (events : List Event) (d : CoreState) → core_run w events ≡ Some d → d.parts ≡ c → IsDrained w events s → is_quiet w c s ≡ true

-- the sets of each session that is drained stay
abbrev pub DrainedStay : World → Parts → Parts → Type 0
DrainedStay w old new =
    (s : ℕ) (events : List Event) (d : CoreState) → core_run w events ≡ Some d → d.parts ≡ old → IsDrained w events s
    → SetsStay w s old new
