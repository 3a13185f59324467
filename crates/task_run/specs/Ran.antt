-- A task that has run along its course, with a pass that has made the run's visits.
use Rattle.std.specs.Prelude.{◌≡◌, ◌+◌, ◌*◌, ◌≤◌}
use Rattle.cov_base.specs.declared.limits.TheConstants.{PLACE_LIMIT}
use Rattle.s370_state.specs.declared.endings.Ending.{Ending}
use Rattle.module_area.specs.Notes.{Notes, calls}
use Rattle.module_area.specs.Meaning.{PlanView}
use Rattle.module_area.specs.Tied.{IsTied}
use Rattle.module_area.specs.declared.traits.Cells as cells
use Rattle.task_run.specs.Meaning.{Tour, Course, Walk, walk}
use Rattle.task_run.specs.Steps.{memory_at, stands}
use Rattle.task_run.specs.Controlled.{Follows, HasPlanted, HasWindows}
use Rattle.task_run.specs.declared.tasks.Task.{Task}

-- its run from where it stands, with nothing done yet, and the visits and calls of it
abbrev pub run_from : Course → PlanView → Task → Tour
run_from course plan t = course plan (memory_at t.bench) t.budget (stands t.bench 0)

abbrev pub walk_from : Course → PlanView → Task → Walk
walk_from course plan t = walk course plan (memory_at t.bench) t.budget (stands t.bench 0)

-- Ending, state and count are those of the course. The pass has made its visits, and has opened and closed the task's
-- sessions by its supervisor calls; the calls of the area that this took are at most so many for each instruction.
pub record RanAs (course : Course) (plan : PlanView) (before after : Notes) (old new : Task) (result : Ending) : Type 0 where
  pub memory : memory_at new.bench ≡ memory_at old.bench
  pub budget : new.budget ≡ old.budget
  pub done : new.done ≤ old.budget
  pub ending : result ≡ (run_from course plan old).ending
  pub state : stands new.bench new.done ≡ (run_from course plan old).state
  pub follows : Follows plan before after (walk_from course plan old).trace
      (walk_from course plan old).calls old.bench.control new.bench.control
  pub windows : HasWindows plan before old.bench.control (walk_from course plan old).calls
  pub planted : HasPlanted plan before after new.bench.control
  pub tied : IsTied plan after new.bench.control
  pub few : calls after ≤ calls before + (6 + PLACE_LIMIT) * old.budget

-- by a pass of these cells, from the one state to the other
abbrev pub RanOver : {C P : Type 0} → cells.Ghosts C P → Course → C → P → P → Task → Task → Ending → Type 0
RanOver by course area p q old new result = RanAs course (by.plan area) (by.notes p) (by.notes q) old new result
