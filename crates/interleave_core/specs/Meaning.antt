-- What the claim of the program says by this crate's clauses.
use Rattle.std.specs.Prelude.{ℕ, ◌+◌, ◌*◌, ◌==◌, Bool, false, if◌then◌else◌, Option, Some, None, List, [], ◌∷◌, length, get_or, map, replicate, ◌-◌, true, nat_eq, option_map, option_and_then, slice_get, not, ◌&&◌, ◌||◌, nat_lt, nat_le, is_none, set, filter, zero, suc}
use Rattle.std.specs.List.{find, position_from}
use Rattle.std.specs.Option.{option_map_or}
use Rattle.cov_base.specs.Meaning.{FactSet, no_facts, with_fact, is_full, fact_of, Memory, State, Visit, breakpoint}
use Rattle.module_area.specs.Meaning.{fresh_word, word_at, PlanView, ControlledView, original_at, kind_at, window_at, tag_session, index_of, set_in}
use Rattle.module_area.specs.declared.cells.Cell.{Cell}
use Rattle.module_area.specs.declared.places.Place.{Place}
use Rattle.brk_table.specs.Meaning.{memory_of}
use Rattle.session_book.specs.Meaning.{JobView, TaskView, task_of, no_task, ResultView}
use Rattle.phase_plan.specs.Meaning.{first_state, plan_view}
use Rattle.interleave_core.specs.declared.stage.Stage.{Stage}
use Rattle.interleave_core.specs.declared.stage.Stage.TheVariants.{Ready, Awaiting, Holding, Ended}
use Rattle.cov_base.specs.declared.numbers.PlaceNo.{PlaceNo}
use Rattle.s370_exec.specs.Meaning.{call_of, is_execute, Step, solo_step, visit_of, has_returned}
use Rattle.cov_base.specs.declared.facts.Fact.{Fact}
use Rattle.s370_state.specs.declared.endings.Ending.TheVariants.{Returned, Spent}
use Rattle.s370_state.specs.declared.endings.Next.{Next}
use Rattle.s370_state.specs.declared.endings.Next.TheVariants.{On, Ended as NextEnded}
use Rattle.interleave_core.specs.declared.events.Event.{Event}
use Rattle.interleave_core.specs.declared.events.Event.TheVariants.{Fetch, Mark, Lift, Do, Plant, Close}
use Rattle.interleave_core.specs.declared.events.Shown.{Shown}
use Rattle.interleave_core.specs.declared.events.Shown.TheVariants.{Fetched, Marked, Lifted, Done, Planted, Closed}
use Rattle.interleave_core.specs.declared.stage.Due.{Due}
use Rattle.interleave_core.specs.declared.stage.Due.TheVariants.{Marking, Lifting, Nothing}
use Rattle.interleave_core.specs.declared.stage.Hand.{Hand}
use Rattle.cov_base.specs.declared.numbers.TaskNo.{TaskNo}
use Rattle.s370_state.specs.declared.endings.Ending.{Ending}

-- What the events of a core are judged by, and what a core stores.

-- a job of one phase, and the places of its tables
pub record World : Type 0 where
  pub job : JobView
  pub places : List Place

abbrev pub plan_in : World → PlanView
plan_in w = plan_view w.job w.places 0

-- what task t sees
abbrev pub memory_in : World → ℕ → Memory
memory_in w t = memory_of (task_of w.job t).private w.job.images w.places

abbrev pub budget_in : World → ℕ → ℕ
budget_in w t = (task_of w.job t).budget

-- the number of the place that begins at the address
unfoldable pub place_at : World → ℕ → Option ℕ
place_at w a = position_from (λ (p : Place). a == p.at) 0 w.places

-- A task: its state, which changes only as an instruction is executed whole, and where it stands. Of the sessions that it
-- controls: how many it has opened, whether the last of them is open, and at how many places of the one that the SVC in
-- hand opens or closes it has done so.
pub record TaskPart : Type 0 where
  pub state : State
  pub stage : Stage
  pub opened : ℕ
  pub is_open : Bool
  pub changed : ℕ

-- a cell for each place; the set of session s at place p at (s - 1) times the number of places plus p; the tasks
pub record Parts : Type 0 where
  pub cells : List Cell
  pub sets : List FactSet
  pub tasks : List TaskPart

abbrev pub first_part : TaskView → TaskPart
first_part t = record { state = first_state t; stage = Ready; opened = 0; is_open = false; changed = 0 }

abbrev pub part_of : Parts → ℕ → TaskPart
part_of p t = get_or p.tasks t (first_part no_task)

-- nothing is planted, no set has a fact, and the tasks are as their cards say
abbrev pub first_parts : World → Parts
first_parts w = record {
  cells = map fresh_word w.places;
  sets = replicate (length w.job.sessions * length w.places) no_facts;
  tasks = map first_part w.job.tasks;
}

-- The sessions that a task opens and closes, and the places at which it is to plant or close before its SVC is done.

-- the sessions of task t, in job order
abbrev pub sessions_by : World → ℕ → List ControlledView
sessions_by w t = filter (λ (c : ControlledView). nat_eq c.by t) (plan_in w).controlled

-- the task that controls session s
abbrev pub controller_of : World → ℕ → Option ℕ
controller_of w s =
    option_map (λ (c : ControlledView). c.by) (find (λ (c : ControlledView). nat_eq c.session s) (plan_in w).controlled)

-- the opening or the closing of a session
pub record Change : Type 0 where
  pub closes : Bool
  pub session : ControlledView

abbrev pub change : Bool → ControlledView → Change
change closes c = record { closes = closes; session = c }

-- SVC 4 opens the next session where none is open, SVC 5 closes the open one
abbrev pub change_for : World → ℕ → TaskPart → ℕ → Option Change
change_for w t u call =
    if nat_eq call (if u.is_open then 5 else 4)
    then option_map (change u.is_open) (slice_get (sessions_by w t) (if u.is_open then u.opened - 1 else u.opened)) else None

-- what the instruction that the task is at does to its sessions
abbrev pub change_of : World → ℕ → TaskPart → Option Change
change_of w t u = option_and_then (change_for w t u) (call_of (memory_in w t) u.state)

-- the planting or the closing of a session at a place
pub record PlaceChange : Type 0 where
  pub closes : Bool
  pub session : ℕ
  pub place : PlaceNo

abbrev pub place_change : Change → PlaceNo → PlaceChange
place_change ch p = record { closes = ch.closes; session = ch.session.session; place = p }

-- at the place that follows those that are done, in their order
abbrev pub next_place : ℕ → Change → Option PlaceChange
next_place done ch = option_map (place_change ch) (slice_get ch.session.places done)

-- the task's sessions after the instruction
abbrev pub after_change : Option Change → TaskPart → TaskPart
after_change None u = u
after_change (Some ch) u =
    record u { opened = if ch.closes then u.opened else u.opened + 1; is_open = if ch.closes then false else true; changed = 0 }

-- The events of a core: where each is possible, and what it changes in what a core stores.

-- what is stored after an event, and what the event shows
pub record Stepped : Type 0 where
  pub parts : Parts
  pub shown : Shown

-- the step of its run alone that the task is at
abbrev pub step_of : World → ℕ → TaskPart → Step
step_of w t u = solo_step (memory_in w t) u.state

-- the place at which an EX visits its subject
abbrev pub subject_place : World → List Visit → Option ℕ
subject_place w (v ∷ (s ∷ vs)) = place_at w s.at
subject_place w visits = None

abbrev pub is_spent : World → ℕ → State → Bool
is_spent w t s = nat_le (budget_in w t) s.done

-- the place whose cell the task is to fetch
abbrev pub place_due : World → ℕ → TaskPart → Stage → Option ℕ
place_due w t u Ready =
    if has_returned u.state then None else (if is_spent w t u.state then None else place_at w u.state.machine.cpu.ia)
place_due w t u Awaiting = subject_place w (step_of w t u).visits
place_due w t u stage = None

-- a breakpoint is to be marked, but that of a subject that is itself EX isn't
abbrev pub due_after_fetch : World → Bool → ℕ → Cell → Due
due_after_fetch w subject p cell =
    if nat_eq cell.half breakpoint && not (subject && is_execute (original_at (plan_in w) p)) then Marking else Nothing

abbrev pub is_awaiting : Stage → Bool
is_awaiting Awaiting = true
is_awaiting stage = false

abbrev pub hand_at : World → Parts → Bool → ℕ → Hand
hand_at w c subject p =
    record {
      subject = subject;
      place = record { 0 = p };
      cell = word_at c.cells p;
      due = due_after_fetch w subject p (word_at c.cells p);
    }

abbrev pub with_stage : TaskPart → Stage → TaskPart
with_stage u stage = record u { stage = stage }

abbrev pub task_replaced : Parts → ℕ → TaskPart → Parts
task_replaced c t u = record c { tasks = set c.tasks t u }

-- Fetch: the task has in hand the cell as it stands
abbrev pub cell_fetched : World → Parts → ℕ → TaskPart → ℕ → Stepped
cell_fetched w c t u p = record {
  parts = task_replaced c t (with_stage u (Holding (hand_at w c (is_awaiting u.stage) p)));
  shown = Fetched (word_at c.cells p);
}

-- what the execution shows at the place in hand
abbrev pub fact_in : World → ℕ → TaskPart → Hand → Fact
fact_in w t u h = fact_of (kind_at (plan_in w) h.place.0) (visit_of (step_of w t u) h.subject).went

abbrev pub set_of : World → Parts → ℕ → ℕ → FactSet
set_of w c s p = set_in (length w.places) c.sets s p

abbrev pub with_due : TaskPart → Hand → Due → TaskPart
with_due u h due = with_stage u (Holding (record h { due = due }))

-- Mark: the fact joins the set; a set that is full then is followed by a Lift
abbrev pub fact_marked : World → Parts → ℕ → TaskPart → Hand → Stepped
fact_marked w c t u h =
    let s = tag_session h.cell.tag in
    let found = set_of w c s h.place.0 in
    let facts = with_fact found (fact_in w t u h) in
    let with_facts = record c { sets = set c.sets (index_of (length w.places) s h.place.0) facts } in
    record {
      parts = task_replaced with_facts t
          (with_due u h (if is_full (kind_at (plan_in w) h.place.0) facts then Lifting else Nothing));
      shown = Marked found;
    }

abbrev pub same_due : Due → Due → Bool
same_due Marking Marking = true
same_due Lifting Lifting = true
same_due Nothing Nothing = true
same_due a b = false

-- the cell in hand, where this is due of it
abbrev pub in_hand : Due → Stage → Option Hand
in_hand due (Holding h) = if same_due h.due due then Some h else None
in_hand due stage = None

abbrev pub same_cell : Cell → Cell → Bool
same_cell a b = nat_eq a.tag b.tag && nat_eq a.half b.half

abbrev pub with_cell : Parts → ℕ → Cell → Parts
with_cell c p cell = record c { cells = set c.cells p cell }

abbrev pub original_under : World → ℕ → Cell → Cell
original_under w p cell = record { tag = cell.tag; half = original_at (plan_in w) p }

-- Lift: the original takes the place of the breakpoint in hand, where that still stands
abbrev pub lifted : World → Parts → ℕ → TaskPart → Hand → Stepped
lifted w c t u h =
    let taken = same_cell (word_at c.cells h.place.0) h.cell in
    record {
      parts =
          task_replaced (if taken then with_cell c h.place.0 (original_under w h.place.0 h.cell) else c) t (with_due u h Nothing);
      shown = Lifted taken;
    }

abbrev pub stage_after : Next → Stage
stage_after On = Ready
stage_after (NextEnded e) = Ended e

-- the instruction that the task is at is executed
abbrev pub executed : World → ℕ → TaskPart → TaskPart
executed w t u =
    record (after_change (change_of w t u) u) { state = (step_of w t u).state; stage = stage_after (step_of w t u).next }

-- the EX that it is, up to its subject, where a place begins there, or the instruction whole
abbrev pub awaits_or : TaskPart → TaskPart → Option ℕ → TaskPart
awaits_or u whole None = whole
awaits_or u whole (Some p) = with_stage u Awaiting

abbrev pub instruction_executed : World → ℕ → TaskPart → TaskPart
instruction_executed w t u = awaits_or u (executed w t u) (subject_place w (step_of w t u).visits)

-- a task at the return address ends, else one at its budget, else the instruction is executed, where no place begins
abbrev pub ready_done : World → ℕ → TaskPart → Option TaskPart
ready_done w t u =
    if has_returned u.state then Some (with_stage u (Ended Returned))
    else (if is_spent w t u.state then Some (with_stage u (Ended Spent))
    else (if is_none (place_at w u.state.machine.cpu.ia) then Some (instruction_executed w t u) else None))

-- the task after a Do, where none of Fetch, Mark and Lift is possible
abbrev pub task_goes_on : World → ℕ → TaskPart → Stage → Option TaskPart
task_goes_on w t u Ready = ready_done w t u
task_goes_on w t u (Holding h) =
    if same_due h.due Nothing then Some (if h.subject then executed w t u else instruction_executed w t u) else None
task_goes_on w t u stage = None

-- whether that Do executes the instruction that the task is at
abbrev pub will_execute : World → ℕ → TaskPart → Stage → Bool
will_execute w t u Ready =
    not (has_returned u.state)
    && (not (is_spent w t u.state)
    && (is_none (place_at w u.state.machine.cpu.ia) && is_none (subject_place w (step_of w t u).visits)))
will_execute w t u (Holding h) = same_due h.due Nothing && (h.subject || is_none (subject_place w (step_of w t u).visits))
will_execute w t u stage = false

-- the place at which its session is to be planted or closed before
abbrev pub change_due : World → ℕ → TaskPart → Stage → Option PlaceChange
change_due w t u stage = if will_execute w t u stage then option_and_then (next_place u.changed) (change_of w t u) else None

-- the task after a Do, which is possible where no other event of the task is
abbrev pub task_done : World → ℕ → TaskPart → Stage → Option TaskPart
task_done w t u stage = if is_none (change_due w t u stage) then task_goes_on w t u stage else None

abbrev pub done_by : Parts → ℕ → TaskPart → Stepped
done_by c t u = record { parts = task_replaced c t u; shown = Done }

abbrev pub breakpoint_of : ℕ → Cell
breakpoint_of s = record { tag = 2 * s - 1; half = breakpoint }

-- an event of a task that exists
abbrev pub of_existing : Parts → ℕ → (TaskPart → Option Stepped) → Option Stepped
of_existing c t step = if nat_lt t (length c.tasks) then step (part_of c t) else None

abbrev pub changed_cell : World → PlaceChange → Cell
changed_cell w x =
    if x.closes then record { tag = 2 * x.session; half = original_at (plan_in w) x.place.0 } else breakpoint_of x.session

-- a session is planted where the tag is lower than the one that it gives
abbrev pub may_change : Parts → Bool → ℕ → ℕ → PlaceChange → Bool
may_change c closes s p x =
    (if closes then x.closes else not x.closes)
    && (nat_eq x.session s && (nat_eq x.place.0 p && (closes || nat_lt ((word_at c.cells p).tag + 1) (2 * s))))

abbrev pub changed : World → Parts → ℕ → TaskPart → PlaceChange → Stepped
changed w c t u x = record {
  parts = task_replaced (with_cell c x.place.0 (changed_cell w x)) t (record u { changed = u.changed + 1 });
  shown = if x.closes then Closed else Planted;
}

-- Plant or Close of a controlled session, at the place that is due of its controller
abbrev pub change_step : World → Parts → Bool → ℕ → ℕ → ℕ → TaskPart → Option Stepped
change_step w c closes s p t u =
    option_and_then (λ x. if may_change c closes s p x then Some (changed w c t u x) else None) (change_due w t u u.stage)

abbrev pub by_controller : World → Parts → Bool → ℕ → ℕ → Option Stepped → Option ℕ → Option Stepped
by_controller w c closes s p whole None = whole
by_controller w c closes s p whole (Some t) = of_existing c t (change_step w c closes s p t)

-- a place under tag 0, by its whole session
abbrev pub may_plant : World → Parts → ℕ → ℕ → Bool
may_plant w c s p =
    nat_lt p (length w.places) && (nat_lt 0 s && (nat_eq (window_at (plan_in w) p) s && nat_eq (word_at c.cells p).tag 0))

abbrev pub whole_step : World → Parts → ℕ → ℕ → Option Stepped
whole_step w c s p = if may_plant w c s p then Some (record { parts = with_cell c p (breakpoint_of s); shown = Planted }) else None

-- what the event makes of what is stored; none where it isn't possible
abbrev pub parts_step : World → Parts → Event → Option Stepped
parts_step w c (Fetch t) = of_existing c t.0 (λ (u : TaskPart). option_map (cell_fetched w c t.0 u) (place_due w t.0 u u.stage))
parts_step w c (Mark t) = of_existing c t.0 (λ (u : TaskPart). option_map (fact_marked w c t.0 u) (in_hand Marking u.stage))
parts_step w c (Lift t) = of_existing c t.0 (λ (u : TaskPart). option_map (lifted w c t.0 u) (in_hand Lifting u.stage))
parts_step w c (Do t) = of_existing c t.0 (λ (u : TaskPart). option_map (done_by c t.0) (task_done w t.0 u u.stage))
parts_step w c (Plant s p) = by_controller w c false s.0 p.0 (whole_step w c s.0 p.0) (controller_of w s.0)
parts_step w c (Close s p) = by_controller w c true s.0 p.0 None (controller_of w s.0)

-- what is stored after the events, one after the other; none where one of them isn't possible
abbrev pub run_on : World → Parts → List Event → Option Parts
run_on w c [] = Some c
run_on w c (e ∷ events) = option_and_then (λ (x : Stepped). run_on w x.parts events) (parts_step w c e)

-- What a core tells of its tasks, and the event that is due of one.

-- how a task has ended
abbrev pub ending_of : Stage → Option Ending
ending_of (Ended e) = Some e
ending_of stage = None

-- what a task has come to
abbrev pub results_of : Parts → ℕ → ResultView
results_of c t =
    let u = part_of c t in
    record {
      ending = ending_of u.stage;
      done = u.state.done;
      cpu = u.state.machine.cpu;
      output = u.state.io.output;
      bytes = u.state.machine.bytes;
    }

-- the planting or closing that is due, or else Do
abbrev pub change_or_do : TaskNo → Option PlaceChange → Event
change_or_do t None = Do t
change_or_do t (Some x) = if x.closes then Close (record { 0 = x.session }) x.place else Plant (record { 0 = x.session }) x.place

abbrev pub event_due : TaskNo → Option PlaceChange → Due → Event
event_due t change Marking = Mark t
event_due t change Lifting = Lift t
event_due t change Nothing = change_or_do t change

-- the event of the task as it stands; none where it has ended
abbrev pub stage_event : World → TaskNo → TaskPart → Stage → Option Event
stage_event w t u Ready = Some (if is_none (place_due w t.0 u Ready) then change_or_do t (change_due w t.0 u Ready) else Fetch t)
stage_event w t u Awaiting = Some (Fetch t)
stage_event w t u (Holding h) = Some (event_due t (change_due w t.0 u (Holding h)) h.due)
stage_event w t u (Ended e) = None

-- or doesn't exist
abbrev pub next_of : World → Parts → TaskNo → Option Event
next_of w c t = if nat_lt t.0 (length c.tasks) then stage_event w t (part_of c t.0) (part_of c t.0).stage else None

-- A task's events one by one until it has ended.

-- more than a task makes: of an instruction 8, since it is fetched, marked, lifted and done, and so is the subject of an EX,
-- and one for each place at which it may plant or close
abbrev pub most_events : World → ℕ → ℕ
most_events w t = (8 + length w.places) * (budget_in w t + 1) + 1

-- what is stored after the task's next events, at most so many
abbrev pub go : World → ℕ → Parts → TaskNo → Parts
go w zero c t = c
go w (suc n) c t = option_map_or (λ (x : Stepped). go w n x.parts t) (option_and_then (parts_step w c) (next_of w c t)) c
