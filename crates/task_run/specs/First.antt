-- An area over the places of tables, and a task before it runs over its cells.
use Rattle.std.specs.Prelude.{◌≡◌, ◌^◌, ◌<◌, true, None}
use Rattle.cov_base.specs.Meaning.{Memory}
use Rattle.module_area.specs.Meaning.{PlanView}
use Rattle.module_area.specs.Notes.{calls, is_working}
use Rattle.module_area.specs.Tied.{IsTied}
use Rattle.module_area.specs.declared.traits.Cells as cells
use Rattle.brk_table.specs.Kept.{AreKept}
use Rattle.brk_table.specs.Meaning.{TablesView}
use Rattle.brk_table.specs.Places.{AreSeen}
use Rattle.task_run.specs.Steps.{memory_at}
use Rattle.task_run.specs.declared.tasks.Task.{Task}

-- the area is over the places of these tables, and the memory shows them as the tables keep them
pub record IsOver (plan : PlanView) (m : Memory) (tables : TablesView) : Type 0 where
  pub same : plan.places ≡ tables.places
  pub seen : AreSeen m tables.places
  pub kept : AreKept m tables

-- Nothing is done, and no session was opened. The task's pass is one of the area of this plan, has room and has not ended, and is
-- tied to the task's control.
pub record CanBegin {C P : Type 0} (by : cells.Ghosts C P) (c : C) (p : P) (own : PlanView) (tables : TablesView)
    (task : Task) : Type 0 where
  pub area : by.is_pass c p
  pub plan : by.plan c ≡ own
  pub over : IsOver (by.plan c) (memory_at task.bench) tables
  pub room : calls (by.notes p) < 2 ^ 60
  pub working : is_working (by.notes p) ≡ true
  pub fresh : task.done ≡ 0
  pub tied : IsTied (by.plan c) (by.notes p) task.bench.control
  pub first : (task.bench.control.next ≡ 0) × (task.bench.control.opened ≡ None)
