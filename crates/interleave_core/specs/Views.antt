-- What a task of a core keeps besides what the core stores of it, and what holds of a core at every moment.
use Rattle.std.specs.Prelude.{◌≡◌, ◌≢◌, ℕ, ◌+◌, ◌-◌, ◌*◌, ◌<◌, ◌≤◌, Bool, true, false, nat_le, nat_lt, if◌then◌else◌, Option, Some, None, option_map, option_and_then, Result, IfOk, OnErr, List, [], length, get_or, map, All, filter, nat_eq}
use Rattle.cov_base.specs.Meaning.{is_within, FactSet}
use Rattle.cov_base.specs.declared.numbers.PlaceNo.{PlaceNo}
use Rattle.cov_base.specs.declared.limits.TheConstants.{SESSION_LIMIT, PLACE_LIMIT}
use Rattle.module_area.specs.declared.cells.Cell.{Cell}
use Rattle.module_area.specs.Meaning.{word_at, set_in, PlanView, ControlledView, kind_at, is_over, original_at}
use Rattle.module_area.specs.Rule.{planted, IsForm, IsPlan}
use Rattle.brk_table.specs.Meaning.{TablesView}
use Rattle.brk_table.specs.Places.{AreSeen, ArePlaces, IsIn}
use Rattle.space_map.specs.Space.{SpaceView, memory_of_space}
use Rattle.session_book.specs.JobView.{IsJob}
use Rattle.session_book.specs.Meaning.{task_of}
use Rattle.interleave_core.specs.Meaning.{World, TaskPart, Parts, part_of, first_part, plan_in, memory_in, budget_in, Change, PlaceChange, sessions_by, change_of, will_execute, next_place, after_change, Stepped, of_existing, change_step, step_of, subject_place, is_spent, in_hand}
use Rattle.interleave_core.specs.declared.control.Change.{Change as Found}
use Rattle.interleave_core.specs.declared.control.PlaceChange.{PlaceChange as PlaceFound}
use Rattle.interleave_core.specs.declared.events.Shown.{Shown}
use Rattle.interleave_core.specs.declared.stage.Due.TheVariants.{Marking, Nothing}
use Rattle.interleave_core.specs.declared.stage.Hand.{Hand}
use Rattle.interleave_core.specs.declared.stage.Stage.{Stage}
use Rattle.interleave_core.specs.declared.stage.Stage.TheVariants.{Awaiting, Holding}

-- a task with its space and budget
pub record RunningView : Type 0 where
  pub part : TaskPart
  pub space : SpaceView
  pub budget : ℕ

-- the task is task t of the world
pub record IsRunning (w : World) (t : ℕ) (r : RunningView) : Type 0 where
  pub memory : memory_of_space r.space ≡ memory_in w t
  pub bytes : r.space.bytes ≡ r.part.state.machine.bytes
  pub budget : r.budget ≡ budget_in w t
  pub seen : AreSeen (memory_in w t) w.places

-- what holds of the task in each world in which it is one, in each of these places, and in one of this plan as task t
abbrev pub InWorlds : RunningView → (World → ℕ → TaskPart → Type 0) → Type 0
InWorlds r holds = (w : World) (t : ℕ) → IsRunning w t r → holds w t r.part

abbrev pub InPlaces : TablesView → RunningView → (World → ℕ → TaskPart → Type 0) → Type 0
InPlaces tables r holds = (w : World) (t : ℕ) → w.places ≡ tables.places → IsRunning w t r → holds w t r.part

abbrev pub InPlan : PlanView → TablesView → ℕ → RunningView → (World → TaskPart → Type 0) → Type 0
InPlan plan tables t r holds = (w : World) → plan ≡ plan_in w → w.places ≡ tables.places → IsRunning w t r → holds w r.part

abbrev pub ByPlan : PlanView → RunningView → (World → TaskPart → Type 0) → Type 0
ByPlan plan r holds = (w : World) → plan ≡ plan_in w → holds w r.part

-- what a cell has once the session was closed at place p
abbrev pub closed_of : World → ℕ → ℕ → Cell
closed_of w s p = record { tag = 2 * s; half = original_at (plan_in w) p }

-- of this change the place at which a session is to be planted or closed before the instruction
abbrev pub due_of : World → ℕ → TaskPart → Stage → Option Change → Option PlaceChange
due_of w t u stage change = if will_execute w t u stage then option_and_then (next_place u.changed) change else None

-- whether a change closes the session, where there is one
abbrev pub closing : Option Change → Option Bool
closing change = option_map (λ (c : Change). c.closes) change

-- what holds in each world in which the task's instruction closes a session, opens one or does neither, as is said
abbrev pub Doing : TablesView → RunningView → Option Bool → (World → ℕ → TaskPart → Type 0) → Type 0
Doing tables r closes holds =
    (w : World) (t : ℕ) → w.places ≡ tables.places → IsRunning w t r → closing (change_of w t r.part) ≡ closes → holds w t r.part

-- a task that goes on as this one
abbrev pub Gives : {T E : Type 0} → Result T E → Option TaskPart → RunningView → Type 0
Gives result next r = IfOk result (λ x. next ≡ Some r.part)

abbrev pub with_part : RunningView → TaskPart → RunningView
with_part r u = record r { part = u }

-- the task once its instruction has changed its sessions so
abbrev pub changed_by : Option Change → RunningView → RunningView
changed_by change r = with_part r (after_change change r.part)

-- two tasks that are alike but for their sessions
abbrev pub DiffersInSessions : RunningView → RunningView → Type 0
DiffersInSessions old new =
    new ≡ with_part old (record old.part { opened = new.part.opened; is_open = new.part.is_open; changed = new.part.changed })

-- a cell in hand is of a place; where anything is due of it, it is the breakpoint of a session over the place
pub record IsHand (w : World) (h : Hand) : Type 0 where
  pub place : h.place.0 < length w.places
  pub planted : h.due ≢ Nothing → (s : ℕ) × (0 < s) × (is_over (plan_in w) s h.place.0 ≡ true) × (h.cell ≡ planted s)

-- in an instruction, the budget isn't reached; a subject that is awaited is at a place
abbrev pub IsStage : World → ℕ → TaskPart → Stage → Type 0
IsStage w t u Awaiting = (is_spent w t u.state ≡ false) × (subject_place w (step_of w t u).visits ≢ None)
IsStage w t u (Holding h) = (is_spent w t u.state ≡ false) × IsHand w h
IsStage w t u stage = Unit {0}

abbrev pub parts_of : List RunningView → List TaskPart
parts_of tasks = map (λ (r : RunningView). r.part) tasks

-- those of the controlled sessions that task t opens and closes
abbrev pub controlled_by : ℕ → List ControlledView → List ControlledView
controlled_by t cs = filter (λ (c : ControlledView). nat_eq c.by t) cs

abbrev pub no_controlled : ControlledView
no_controlled = record { session = 0; by = 0; places = [] }

abbrev pub session_at : World → ℕ → ℕ → ControlledView
session_at w t n = get_or (sessions_by w t) n no_controlled

-- the session that the task's next SVC 4 or 5 opens or closes
abbrev pub turn_number : TaskPart → ℕ
turn_number u = if u.is_open then u.opened - 1 else u.opened

abbrev pub turn_of : World → ℕ → TaskPart → ControlledView
turn_of w t u = session_at w t (turn_number u)

-- at which of its places it has its window: where it is open those that the task hasn't closed, else those that it has
-- planted
abbrev pub has_window : TaskPart → ℕ → Bool
has_window u i = if u.is_open then nat_le u.changed i else nat_lt i u.changed

abbrev pub number_at : List PlaceNo → ℕ → ℕ
number_at places i = (get_or places i (record { 0 = 0 })).0

abbrev pub tag_at : List Cell → List PlaceNo → ℕ → ℕ
tag_at cells places i = (word_at cells (number_at places i)).tag

-- Task t and its sessions: its turn has its window where it is planted and not closed, and a later session has been
-- planted nowhere but where the task has begun to open it.
pub record IsTied (w : World) (cells : List Cell) (t : ℕ) (u : TaskPart) : Type 0 where
  pub opened : u.opened ≤ length (sessions_by w t)
  pub some : u.is_open ≡ true → 0 < u.opened
  pub changed : u.changed ≤ length (turn_of w t u).places
  pub planted : (i : ℕ) → i < length (turn_of w t u).places → has_window u i ≡ true
      → tag_at cells (turn_of w t u).places i + 1 ≡ 2 * (turn_of w t u).session
  pub later : (n i : ℕ) → u.opened ≤ n → n < length (sessions_by w t) → (n ≡ u.opened → u.is_open ≡ false → u.changed ≤ i)
      → i < length (session_at w t n).places →
      tag_at cells (session_at w t n).places i + 1 < 2 * (session_at w t n).session

-- all tasks and their sessions
abbrev pub AreTied : World → Parts → Type 0
AreTied w c = (t : ℕ) → t < length c.tasks → IsTied w c.cells t (part_of c t)

-- what bounds at every moment which cells, sets and hands of a core an event can change
pub record AreSteady (w : World) (c : Parts) : Type 0 where
  pub is_plan : IsPlan (plan_in w)
  pub cell_count : length c.cells ≡ length w.places
  pub words : (p : ℕ) → p < length w.places → IsForm (plan_in w) p (word_at c.cells p)
  pub hands : (t : ℕ) (h : Hand) → t < length c.tasks → in_hand Marking (part_of c t).stage ≡ Some h → IsHand w h
  pub tied : AreTied w c

-- what a change that was found does
abbrev pub seen_change : Found → Change
seen_change c = record { closes = c.closes; session = c.session.now }

abbrev pub seen_place : PlaceFound → PlaceChange
seen_place x = record { closes = x.closes; session = x.session.0; place = x.place }

abbrev pub seen : Option Found → Option Change
seen change = option_map seen_change change

abbrev pub seen_at : Option PlaceFound → Option PlaceChange
seen_at change = option_map seen_place change

abbrev pub numbered : Option PlaceNo → Option ℕ
numbered place = option_map (λ (p : PlaceNo). p.0) place

-- a session that a task opens or closes at a place: all are in range
pub record IsPlaced (w : World) (c : Parts) (t s p : ℕ) : Type 0 where
  pub task : t < length c.tasks
  pub some : 0 < s
  pub few : s ≤ SESSION_LIMIT
  pub inside : p < length w.places
  pub room : (part_of c t).changed < PLACE_LIMIT

-- what contracts see of a core
pub record CoreView : Type 0 where
  pub world : World
  pub parts : Parts

-- the event leaves these parts, and shows this
abbrev pub Leaves : Option Stepped → Parts → Shown → Type 0
Leaves step parts shown = step ≡ Some (record { parts = parts; shown = shown })

-- what comes of a try at this step: it was made, or isn't possible and leaves the core as it was
pub record Tries {E : Type 0} (old : CoreView) (step : Option Stepped) (new : CoreView) (answer : Result Shown E) : Type 0 where
  pub possible : IfOk answer (Leaves step new.parts)
  pub refused : OnErr answer (step ≡ None)
  pub kept : OnErr answer (new ≡ old)
  pub world : new.world ≡ old.world

-- the planting or closing of session s at place p by task t
abbrev pub change_by : CoreView → Bool → ℕ → ℕ → ℕ → Option Stepped
change_by c closes s p t = of_existing c.parts t (change_step c.world c.parts closes s p t)

pub record IsCore (w : World) (cells : List Cell) (sets : List FactSet) (plan : PlanView) (tasks : List RunningView) : Type 0 where
  pub job : IsJob w.job
  pub phase : length w.job.phases ≡ 1
  pub same_plan : plan ≡ plan_in w
  pub is_plan : IsPlan (plan_in w)
  pub places : ArePlaces w.places
  pub inside : All (IsIn w.job.images) w.places
  pub count : length tasks ≡ length w.job.tasks
  pub cell_count : length cells ≡ length w.places
  pub set_count : length sets ≡ length w.job.sessions * length w.places
  pub words : (p : ℕ) → p < length w.places → IsForm (plan_in w) p (word_at cells p)
  pub within : (s p : ℕ) → 0 < s → p < length w.places
      → is_within (kind_at (plan_in w) p) (set_in (length w.places) sets s p) ≡ true
  pub running : (t : ℕ) (r : RunningView) → t < length tasks → IsRunning w t (get_or tasks t r)
  pub stages : (t : ℕ) (r : RunningView) → t < length tasks → IsStage w t (get_or tasks t r).part (get_or tasks t r).part.stage
  pub tied : AreTied w (record { cells = cells; sets = sets; tasks = parts_of tasks })

-- the first tasks of the world, before their first instructions
pub record AreReady (w : World) (number : ℕ) (tasks : List RunningView) : Type 0 where
  pub count : length tasks ≡ number
  pub running : (t : ℕ) (r : RunningView) → t < length tasks → IsRunning w t (get_or tasks t r)
  pub parts : (t : ℕ) (r : RunningView) → t < length tasks → (get_or tasks t r).part ≡ first_part (task_of w.job t)
