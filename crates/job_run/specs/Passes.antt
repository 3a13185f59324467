-- The passes of an area, as the crew that works on it splits them off, runs tasks with them and joins them.
use Rattle.std.specs.Prelude.{◌≡◌, ℕ, ◌+◌, ◌*◌, ◌≤◌, ◌^◌, true, not, ◌&&◌, Option, Some, None, List, [], length, map}
use Rattle.cov_base.specs.Meaning.{FactSet, Visit}
use Rattle.cov_base.specs.declared.limits.TheConstants.{PLACE_LIMIT}
use Rattle.cov_base.specs.declared.numbers.TaskNo.{TaskNo}
use Rattle.s370_state.specs.declared.endings.Ending.{Ending}
use Rattle.module_area.specs.Ended.{AreSettled}
use Rattle.module_area.specs.Notes.{Notes, calls, root_notes, split_notes}
use Rattle.module_area.specs.Meaning.{PlanView}
use Rattle.module_area.specs.Rule.{IsPlan, has_task}
use Rattle.module_area.specs.declared.places.Place.{Place}
use Rattle.brk_table.specs.Kept.{AreCodes}
use Rattle.brk_table.specs.Meaning.{TablesView}
use Rattle.module_area.specs.Planted.{planted_notes}
use Rattle.task_run.specs.Observed.{Observes}
use Rattle.task_run.specs.Meaning.{Course, Walk}
use Rattle.task_run.specs.Ran.{RanAs}
use Rattle.session_book.specs.Meaning.{JobView}
use Rattle.phase_plan.specs.Meaning.{plan_view}
use Rattle.session_book.specs.JobView.{IsJob}
use Rattle.job_run.specs.Bounds.{JoinsTasks, Leaves}
use Rattle.job_run.specs.Crews.{AreReady, phase_at}
use Rattle.job_run.specs.Meaning.{joined, walk_by}
use Rattle.job_run.specs.Tasks.{Begins, Ends, IsEnded, IsEquipped}
use Rattle.job_run.specs.declared.outcome.Done.{Done}
use Rattle.job_run.specs.declared.slots.Slot.{Slot}

-- the plan is that of the phase, and the tables are those of the job's listings
pub record IsOfPhase (its_plan : PlanView) (j : JobView) (tables : TablesView) (phase : ℕ) : Type 0 where
  pub plan : its_plan ≡ plan_view j tables.places phase
  pub job : IsJob j
  pub codes : AreCodes j.images tables

-- and the area was made for it
pub record IsAreaOf (of_cells its_plan : PlanView) (j : JobView) (tables : TablesView) (phase : ℕ) : Type 0 where
  pub cells : of_cells ≡ its_plan
  pub is_plan : IsPlan its_plan
  pub its : IsOfPhase its_plan j tables phase

-- what the root knows once every place with a window is planted
abbrev pub after_planting : PlanView → Notes
after_planting plan = planted_notes plan root_notes (length plan.windows)

-- the root has observed these visits, by passes that were split off from it and joined to it
abbrev pub JoinsAll : PlanView → Notes → Notes → List Visit → Type 0
JoinsAll plan old new visits = Observes plan (record old { given = new.given; out = new.out }) new visits

abbrev pub trace_of : (ℕ → Walk) → TaskNo → List Visit
trace_of walks t = (walks t.0).trace

-- the visits of these tasks, one task after the other
abbrev pub visits_of : (ℕ → Walk) → List TaskNo → List Visit
visits_of walks tasks = joined (map (trace_of walks) tasks)

-- The root has planted every place with a window, and split off passes for the tasks that are given. Of those that are back
-- it has observed what their tasks have visited.
pub record HasJoined {P : Type 0} (is_pass : P → Type 0) (notes : P → Notes) (plan : PlanView) (course : Course) (j : JobView)
    (places : List Place) (root : P) (given_to back_of : List TaskNo) : Type 0 where
  pub area : is_pass root
  pub bears : (notes root).bears ≡ None
  pub given : (t : ℕ) → (notes root).given t ≡ has_task given_to t
  pub out : (t : ℕ) → (notes root).out t ≡ (has_task given_to t && not (has_task back_of t))
  pub same : back_of ≡ [] → notes root ≡ record (after_planting plan) { given = (notes root).given; out = (notes root).out }
  pub observes : JoinsAll plan (after_planting plan) (notes root) (visits_of (walk_by course j places) back_of)
  pub joins : JoinsTasks plan (walk_by course j places) back_of (after_planting plan) (notes root)
  pub few : calls (notes root) ≤ PLACE_LIMIT + length back_of * 2 ^ 42

-- the pass was split off from such a root for the task
pub record IsFresh {P : Type 0} (is_pass : P → Type 0) (notes : P → Notes) (plan : PlanView) (t : ℕ) (p : P) : Type 0 where
  pub area : is_pass p
  pub fresh : notes p ≡ split_notes plan (after_planting plan) t

-- the task has the sessions that it controls, and may begin with its extra beside the pass that is split off for it
pub record HasStart {E : Type 0} (begins : Begins E) (plan : PlanView) (j : JobView) (places : List Place) (t : ℕ) (d : Done)
    (kept : Option E) : Type 0 where
  pub task : IsEquipped j places t d
  pub extra : E
  pub has : kept ≡ Some extra
  pub starts : (root : Notes) → begins plan t extra (split_notes plan root t)

-- no slot has a pass, and so may each of the phase's tasks
abbrev pub AreEquipped : {P E : Type 0} → Begins E → PlanView → JobView → List Place → ℕ → List (Slot P E) → Type 0
AreEquipped begins plan j places phase slots = AreReady (HasStart begins plan j places) (phase_at j phase) slots

-- the task has run along the course to its ending
pub record Runs (course : Course) (plan : PlanView) (before after : Notes) (old new : Done) : Type 0 where
  pub ending : Ending
  pub is : new.ending ≡ Some ending
  pub ran : RanAs course plan before after old.task new.task ending

-- the pass has observed the task's visits since it was split off, and has its sessions as the run leaves them
pub record HasSeen {P : Type 0} (is_pass : P → Type 0) (notes : P → Notes) (plan : PlanView) (course : Course) (j : JobView)
    (places : List Place) (t : ℕ) (p : P) : Type 0 where
  pub area : is_pass p
  pub observes : Observes plan (split_notes plan (after_planting plan) t) (notes p) (walk_by course j places t).trace
  pub leaves : Leaves plan (walk_by course j places) t (notes p)

-- the task has ended, and its extra tells this of its run, where the sets are as the pass knows them final
pub record EndsTask {P E : Type 0} (course : Course) (ends : Ends E) (notes : P → Notes) (plan : PlanView) (j : JobView)
    (places : List Place) (t : ℕ) (old new : Done) (kept : Option E) (p : P) : Type 0 where
  pub ended : IsEnded course j places t new
  pub extra : E
  pub left : kept ≡ Some extra
  pub tells : (sets : ℕ → ℕ → FactSet) → AreSettled plan (notes p) sets → ends plan old.task new.task extra sets

-- the first knows each set as final that the second does
abbrev pub KnowsFinal : Notes → Notes → Type 0
KnowsFinal n m = (s p : ℕ) (x : FactSet) → m.settled s p x ≡ true → n.settled s p x ≡ true
