-- A task that has run to its end, with a pass that has made the run's visits.
use Rattle.std.specs.Prelude.{◌≡◌, ℕ, List}
use Rattle.cov_base.specs.Meaning.{Visit}
use Rattle.module_area.specs.Meaning.{PlanView}
use Rattle.task_run.specs.Meaning.{visits_of, Course}
use Rattle.task_run.specs.Steps.{memory_at, stands}
use Rattle.task_run.specs.declared.bench.Bench.{Bench}
use Rattle.task_run.specs.declared.task.TaskEnd.{TaskEnd}
use Rattle.session_book.specs.declared.services.Service.{Service}
use Rattle.task_services.specs.Meaning.{course_of}

-- The run along the course from where the task stands, with nothing done yet, whatever the plan, has this end and last state, and
-- the pass has made its trace, and nothing else.
pub record RanAlong {P : Type 0} (course : Course) (makes : P → List Visit → P → Type 0) (p : P) (budget : ℕ) (old : Bench)
    (end : TaskEnd) (new : Bench) (q : P) : Type 0 where
  pub ending : (plan : PlanView) → (course plan (memory_at old) budget (stands old 0)).ending ≡ end.ending
  pub state : (plan : PlanView) → (course plan (memory_at old) budget (stands old 0)).state ≡ stands new end.done
  pub address : (plan : PlanView) → (course plan (memory_at old) budget (stands old 0)).at ≡ end.at
  pub made : (plan : PlanView) → makes p (visits_of (course plan (memory_at old) budget (stands old 0)).turns) q

-- that of a job with these services
abbrev pub Ran : {P : Type 0} → List Service → (P → List Visit → P → Type 0) → P → ℕ → Bench → TaskEnd → Bench → P → Type 0
Ran services makes p budget old end new q = RanAlong (course_of services) makes p budget old end new q
