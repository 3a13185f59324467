-- What the claim of the program says by this crate's clauses.
use Rattle.std.specs.Prelude.{ℕ, List, ◌+◌, ◌&&◌, nat_eq, if◌then◌else◌, Option, Some, None, [], ◌∷◌, length, map}
use Rattle.std.specs.List.{list_any}
use Rattle.cov_base.specs.Meaning.{Memory, State, Visit, FactSet}
use Rattle.cov_base.specs.declared.numbers.TaskNo.{TaskNo}
use Rattle.cov_base.specs.declared.numbers.PlaceNo.{PlaceNo}
use Rattle.s370_state.specs.Meaning.{fresh_io}
use Rattle.module_area.specs.Meaning.{first_bytes, facts_of_all, PlanView, ControlledView}
use Rattle.module_area.specs.declared.places.Place.{Place}
use Rattle.brk_table.specs.Meaning.{memory_of}
use Rattle.session_book.specs.Meaning.{JobView, SessionView, TaskView, is_whole, observes, session_of, task_of}

-- What observes each place in a phase, how its tasks begin, and what a session's executions show.

-- the number of the whole session that observes the module in the phase, counted on from n, or 0
abbrev pub window_from : ℕ → List SessionView → ℕ → ℕ → ℕ
window_from n [] phase m = 0
window_from n (s ∷ ss) phase m = if is_whole s && observes phase m s then n else window_from (n + 1) ss phase m

abbrev pub window_of : JobView → ℕ → Place → ℕ
window_of j phase place = window_from 1 j.sessions phase place.module

-- the tasks of the phase, counted on from n
abbrev pub tasks_from : ℕ → List TaskView → ℕ → List TaskNo
tasks_from n [] phase = []
tasks_from n (t ∷ ts) phase =
    if nat_eq t.phase phase then record { 0 = n } ∷ tasks_from (n + 1) ts phase else tasks_from (n + 1) ts phase

-- the numbers of the places of these modules, counted on from n
abbrev pub places_from : ℕ → List Place → List ℕ → List PlaceNo
places_from n [] modules = []
places_from n (p ∷ ps) modules =
    if list_any (nat_eq p.module) modules then record { 0 = n } ∷ places_from (n + 1) ps modules else places_from (n + 1) ps modules

-- the controlled sessions of the phase, counted on from n, with their places
abbrev pub with_controlled : ℕ → SessionView → List Place → Option ℕ → List ControlledView → List ControlledView
with_controlled n s places None cs = cs
with_controlled n s places (Some t) cs = record { session = n; by = t; places = places_from 0 places s.modules } ∷ cs

abbrev pub controlled_from : ℕ → List SessionView → List Place → ℕ → List ControlledView
controlled_from n [] places phase = []
controlled_from n (s ∷ ss) places phase =
    if nat_eq s.phase phase then with_controlled n s places s.by (controlled_from (n + 1) ss places phase)
    else controlled_from (n + 1) ss places phase

abbrev pub plan_view : JobView → List Place → ℕ → PlanView
plan_view j places phase = record {
  places = places;
  windows = map (window_of j phase) places;
  controlled = controlled_from 1 j.sessions places phase;
  tasks = tasks_from 0 j.tasks phase;
  sessions = length j.sessions;
}

-- a task as it begins
abbrev pub first_state : TaskView → State
first_state t = record {
  machine = record { cpu = record { regs = t.regs; ia = t.entry; condition = 0; mask = 0 }; bytes = first_bytes t.private t.cards };
  io = fresh_io t.input t.room;
  done = 0;
}

-- what task t sees: modules that were never planted
abbrev pub task_memory : JobView → List Place → ℕ → Memory
task_memory j places t = memory_of (task_of j t).private j.images places

-- what this is of task t as it begins: over its phase's plan, in its memory, with its budget, from its first state
abbrev pub of_task : {A : Type 0} → (PlanView → Memory → ℕ → State → A) → JobView → List Place → ℕ → A
of_task f j places t =
    f (plan_view j places (task_of j t).phase) (task_memory j places t) (task_of j t).budget (first_state (task_of j t))

-- the traces of the phase's tasks, of each task's trace by its index, counted on from n
abbrev pub traces_from : ℕ → List TaskView → ℕ → (ℕ → List Visit) → List (List Visit)
traces_from n [] phase trace = []
traces_from n (t ∷ ts) phase trace =
    if nat_eq t.phase phase then trace n ∷ traces_from (n + 1) ts phase trace else traces_from (n + 1) ts phase trace

-- A whole session's executions are the begun visits of the traces of its phase's tasks at its places: the facts that
-- they show at a place.
abbrev pub session_set : JobView → (ℕ → List Visit) → ℕ → Place → FactSet
session_set j trace s place = facts_of_all place (traces_from 0 j.tasks (session_of j s).phase trace)
