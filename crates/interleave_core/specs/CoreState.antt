-- The core with each task's log: its deterministic step, its run by a list of events, and the rule of an area that it keeps.
use Rattle.std.specs.Prelude.{ℕ, Bool, Option, length, if◌then◌else◌, Some, None, List, [], ◌∷◌, ◌+◌, zero, suc, is_none, ◌*◌, false, nat_eq, option_map}
use Rattle.cov_base.specs.Meaning.{FactSet}
use Rattle.cov_base.specs.declared.facts.Fact.{Fact}
use Rattle.s370_exec.specs.Meaning.{visit_of}
use Rattle.module_area.specs.Meaning.{tag_session, word_at, PlanView}
use Rattle.module_area.specs.Rule.{Held, blank, fetching, marking, lifting, tagging, planting, window_tag}
use Rattle.module_area.specs.declared.cells.Cell.{Cell}
use Rattle.module_area.specs.declared.parties.Role.TheVariants.{Root, Task}
use Rattle.module_area.specs.declared.parties.View.{View}
use Rattle.interleave_core.specs.Meaning.{World, TaskPart, Parts, part_of, plan_in, step_of, set_of, controller_of, first_parts, Stepped, parts_step, fact_in}
use Rattle.interleave_core.specs.declared.events.Event.{Event}
use Rattle.interleave_core.specs.declared.events.Event.TheVariants.{Plant, Fetch, Mark, Lift, Do, Close}
use Rattle.interleave_core.specs.declared.events.Shown.{Shown}
use Rattle.interleave_core.specs.declared.events.Shown.TheVariants.{Fetched, Marked, Lifted}
use Rattle.interleave_core.specs.declared.stage.Hand.{Hand}
use Rattle.interleave_core.specs.declared.stage.Stage.{Stage}
use Rattle.interleave_core.specs.declared.stage.Stage.TheVariants.{Holding}

-- A task's log: its fetches, and the tags that it gave.

-- a fetch: its place, the cell that it answered, the fact of the visit where that is begun, the set as its mark found
-- it, and whether its lift exchanged
pub record Entry : Type 0 where
  pub place : ℕ
  pub cell : Cell
  pub fact : Option Fact
  pub found : Option FactSet
  pub lifted : Option Bool

pub data Item : Type 0 where
  Met : Entry → Item
  -- place and tag, by planting or closing
  Gave : ℕ → ℕ → Item

-- The core: what it stores and each task's log, its deterministic step, and its run by a list of events.

-- what is stored, and for each task its log, the newest item first
pub record CoreState : Type 0 where
  pub parts : Parts
  pub logs : ℕ → List Item

abbrev pub core_start : World → CoreState
core_start w = record { parts = first_parts w; logs = λ t. [] }

abbrev pub entry_of : World → ℕ → TaskPart → Hand → Entry
entry_of w t u h = record {
  place = h.place.0;
  cell = h.cell;
  fact = if (visit_of (step_of w t u) h.subject).begun then Some (fact_in w t u h) else None;
  found = None;
  lifted = None;
}

-- the log with an entry for the cell in hand
abbrev pub with_entry : World → ℕ → TaskPart → List Item → Stage → List Item
with_entry w t u log (Holding h) = Met (entry_of w t u h) ∷ log
with_entry w t u log stage = log

-- the task's log after an event that showed this and left it so
abbrev pub log_after : World → ℕ → TaskPart → Shown → List Item → List Item
log_after w t u (Fetched cell) log = with_entry w t u log u.stage
log_after w t u (Marked found) (Met e ∷ log) = Met (record e { found = Some found }) ∷ log
log_after w t u (Lifted taken) (Met e ∷ log) = Met (record e { lifted = Some taken }) ∷ log
log_after w t u shown log = log

-- and the tag that the event gave
abbrev pub with_tag : Event → List Item → List Item
with_tag (Plant s p) log = Gave p.0 (window_tag s.0) ∷ log
with_tag (Close s p) log = Gave p.0 (2 * s.0) ∷ log
with_tag e log = log

abbrev pub is_task : Option ℕ → ℕ → Bool
is_task None u = false
is_task (Some t) u = nat_eq t u

-- the event is the task's: also the planting and the closing of a session that it controls
abbrev pub is_by : World → Event → ℕ → Bool
is_by w (Fetch t) u = nat_eq t.0 u
is_by w (Mark t) u = nat_eq t.0 u
is_by w (Lift t) u = nat_eq t.0 u
is_by w (Do t) u = nat_eq t.0 u
is_by w (Plant s p) u = is_task (controller_of w s.0) u
is_by w (Close s p) u = is_task (controller_of w s.0) u

pub record CoreStepped : Type 0 where
  pub core : CoreState
  pub shown : Shown

-- the core after a possible event
abbrev pub core_after : World → CoreState → Event → Stepped → CoreStepped
core_after w c e x = record {
  core = record {
    parts = x.parts;
    logs = λ u. if is_by w e u then with_tag e (log_after w u (part_of x.parts u) x.shown (c.logs u)) else c.logs u;
  };
  shown = x.shown;
}

-- the step: none where the event isn't possible
abbrev pub core_step : World → CoreState → Event → Option CoreStepped
core_step w c e = option_map (core_after w c e) (parts_step w c.parts e)

abbrev pub go_on : (CoreState → Option CoreState) → Option CoreStepped → Option CoreState
go_on more None = None
go_on more (Some x) = more x.core

-- the core after the events, one by one; none where one of them isn't possible
abbrev pub core_from : World → CoreState → List Event → Option CoreState
core_from w c [] = Some c
core_from w c (e ∷ events) = go_on (λ d. core_from w d events) (core_step w c e)

abbrev pub core_run : World → List Event → Option CoreState
core_run w events = core_from w (core_start w) events

-- The notes of a core's parties: those of a task follow from its log, those of the planter from the events.

-- what the entry's mark adds, where there was one
abbrev pub with_mark : PlanView → Entry → Option FactSet → Option Fact → View → View
with_mark plan e (Some found) (Some f) v = marking plan (tag_session e.cell.tag) e.place f found v
with_mark plan e found fact v = v

-- and its lift
abbrev pub with_lift : Entry → Option Bool → View → View
with_lift e (Some exchanged) v = lifting (tag_session e.cell.tag) e.place exchanged v
with_lift e None v = v

abbrev pub with_notes : PlanView → Entry → View → View
with_notes plan e v = with_lift e e.lifted (with_mark plan e e.found e.fact (fetching plan e.place e.cell v))

-- task t with its log
abbrev pub task_view : World → ℕ → List Item → View
task_view w t [] = blank (Task t)
task_view w t (Met e ∷ log) = with_notes (plan_in w) e (task_view w t log)
task_view w t (Gave p tag ∷ log) = tagging p tag (task_view w t log)

-- so many tasks, from task t on
abbrev pub task_views : World → (ℕ → List Item) → ℕ → ℕ → List View
task_views w logs t zero = []
task_views w logs t (suc n) = task_view w t (logs t) ∷ task_views w logs (t + 1) n

-- so many numbers from 0 on, the last first
abbrev pub numbers : ℕ → List ℕ
numbers zero = []
numbers (suc n) = n ∷ numbers n

-- the planter, which has given out so many tasks
abbrev pub first_planter : ℕ → View
first_planter n = record (blank Root) { given = numbers n }

-- the planter plants the sessions that no task controls
abbrev pub planted_by : World → View → Event → View
planted_by w v (Plant s p) = if is_none (controller_of w s.0) then planting s.0 p.0 v else v
planted_by w v e = v

abbrev pub planter_from : World → View → List Event → View
planter_from w v [] = v
planter_from w v (e ∷ events) = planter_from w (planted_by w v e) events

abbrev pub parties : World → List Event → (ℕ → List Item) → List View
parties w events logs = planter_from w (first_planter (length w.job.tasks)) events ∷ task_views w logs 0 (length w.job.tasks)

-- the rule of an area holds of the core's cells and sets and of its parties after these events
abbrev pub KeepsRule : World → List Event → CoreState → Type 0
KeepsRule w events c = Held (plan_in w) (λ p. word_at c.parts.cells p) (λ s p. set_of w c.parts s p) (parties w events c.logs)
