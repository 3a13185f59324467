-- What the claim of the program says of a core's tasks and sets after every list of events.
use Rattle.std.specs.Prelude.{ℕ, true, ◌≡◌, ◌<◌, ◌-◌, ◌*◌, ◌↔◌, nat_eq, if◌then◌else◌, Option, Some, None, List, [], ◌∷◌, ◌++◌, length, map, take, Any, Contains}
use Rattle.std.specs.Option.{option_map_or}
use Rattle.cov_base.specs.Meaning.{fact_of, has_fact, Visit}
use Rattle.cov_base.specs.declared.facts.Fact.{Fact}
use Rattle.s370_state.specs.declared.endings.Ending.{Ending}
use Rattle.s370_exec.specs.Meaning.{Run, solo_run, run_ended, visit_of}
use Rattle.module_area.specs.Meaning.{kind_at, window_at, place_of}
use Rattle.module_area.specs.declared.cells.Cell.{Cell}
use Rattle.session_book.specs.Meaning.{task_of}
use Rattle.phase_plan.specs.Meaning.{first_state, session_set}
use Rattle.interleave_core.specs.Meaning.{World, TaskPart, Parts, part_of, first_parts, memory_in, budget_in, plan_in, place_at, step_of, set_of, Stepped, parts_step}
use Rattle.interleave_core.specs.declared.events.Event.{Event}
use Rattle.interleave_core.specs.declared.events.Event.TheVariants.{Fetch, Plant}
use Rattle.interleave_core.specs.declared.stage.Stage.{Stage}
use Rattle.interleave_core.specs.declared.stage.Stage.TheVariants.{Ended, Awaiting, Holding}

-- Each task of a core is where its run alone is after as many instructions.

-- task t's run alone, of at most so many instructions
abbrev pub alone : World → ℕ → ℕ → Run
alone w t n = solo_run (memory_in w t) n (first_state (task_of w.job t))

-- The task's state is that of its run alone after as many instructions as it has done; a task that has ended is as its
-- whole run alone ends.
pub record IsAlone (w : World) (t : ℕ) (u : TaskPart) : Type 0 where
  pub state : u.state ≡ (alone w t u.state.done).state
  pub ended : (e : Ending) → u.stage ≡ Ended e → alone w t (budget_in w t) ≡ run_ended e u.state (alone w t u.state.done).trace

-- Each task has fetched once for each visit at a place, of its run alone so far and of the instruction in hand.

-- a place that was visited, and the fact of the visit where it was begun
pub record Noted : Type 0 where
  pub place : ℕ
  pub fact : Option Fact

abbrev pub fact_at : World → ℕ → Visit → Option Fact
fact_at w p v = if v.begun then Some (fact_of (kind_at (plan_in w) p) v.went) else None

abbrev pub note : World → Visit → Option ℕ → List Noted
note w v None = []
note w v (Some p) = record { place = p; fact = fact_at w p v } ∷ []

-- of the visits those at places
abbrev pub noted : World → List Visit → List Noted
noted w [] = []
noted w (v ∷ vs) = note w v (place_at w v.at) ++ noted w vs

-- of an instruction's visits those that the task has made: its own, and that of the subject of EX
abbrev pub visits_in_hand : Stage → List Visit → List Visit
visits_in_hand Awaiting visits = take 1 visits
visits_in_hand (Holding h) visits = if h.subject then visits else take 1 visits
visits_in_hand stage visits = []

-- a fetch: the cell that it answered, and what it visits
pub record Answered : Type 0 where
  pub cell : Cell
  pub visit : Noted

-- that of the cell in hand
abbrev pub in_stage : World → ℕ → TaskPart → Stage → List Answered
in_stage w t u (Holding h) =
    record { cell = h.cell; visit = record { place = h.place.0; fact = fact_at w h.place.0 (visit_of (step_of w t u) h.subject) } }
    ∷ []
in_stage w t u stage = []

-- the fetch of task t that the event was, if it was one, by what is then stored
abbrev pub fetch_by : World → ℕ → Parts → Event → List Answered
fetch_by w t c (Fetch u) = if nat_eq u.0 t then in_stage w t (part_of c t) (part_of c t).stage else []
fetch_by w t c e = []

-- all fetches of task t by the events, in order
abbrev pub fetches : World → ℕ → Parts → List Event → List Answered
fetches w t c [] = []
fetches w t c (e ∷ events) =
    option_map_or (λ (x : Stepped). fetch_by w t x.parts e ++ fetches w t x.parts events) (parts_step w c e) []

abbrev pub HasFetched : World → List Event → ℕ → TaskPart → Type 0
HasFetched w events t u =
    map (λ (a : Answered). a.visit) (fetches w t (first_parts w) events)
    ≡ noted w ((alone w t u.state.done).trace ++ visits_in_hand u.stage (step_of w t u).visits)

-- Each set, once all tasks have ended.

abbrev pub HaveEnded : Parts → Type 0
HaveEnded c = (t : ℕ) → t < length c.tasks → (e : Ending) × ((part_of c t).stage ≡ Ended e)

-- the places that were planted before any other event
abbrev pub planted_first : List Event → List ℕ
planted_first (Plant s p ∷ events) = p.0 ∷ planted_first events
planted_first events = []

-- what holds of what is stored after these events
pub record Stands (w : World) (events : List Event) (c : Parts) : Type 0 where
  pub tasks : (t : ℕ) → t < length c.tasks → IsAlone w t (part_of c t)
  pub fetched : (t : ℕ) → t < length c.tasks → HasFetched w events t (part_of c t)
  -- once all tasks have ended, each set has exactly the facts that visits at its place have shown whose fetch answered the odd
  -- tag of its session
  pub exact : HaveEnded c → (s p : ℕ) (f : Fact) → 0 < s → p < length w.places
      → (has_fact (set_of w c s p) f ≡ true) ↔ ((t : ℕ) × (t < length c.tasks)
      × Any (λ (a : Answered). (a.visit ≡ record { place = p; fact = Some f }) × (a.cell.tag ≡ 2 * s - 1))
      (fetches w t (first_parts w) events))
  -- it is the whole session's set where all windows were planted before any other event
  pub whole : HaveEnded c → ((p : ℕ) → p < length w.places → 0 < window_at (plan_in w) p → Contains (planted_first events) p) →
      (p : ℕ) → p < length w.places → 0 < window_at (plan_in w) p →
      set_of w c (window_at (plan_in w) p) p
      ≡ session_set w.job (λ t. (alone w t (budget_in w t)).trace) (window_at (plan_in w) p) (place_of w.places p)
