-- The tasks of a job before and after they have run.
use Rattle.std.specs.Prelude.{◌≡◌, ℕ, ◌<◌, Bool, true, false, nat_lt, Some, None, List, [], length, get_or, map}
use Rattle.cov_base.specs.Meaning.{FactSet}
use Rattle.module_area.specs.Notes.{Notes}
use Rattle.task_run.specs.Meaning.{Tour, Course}
use Rattle.module_area.specs.Meaning.{PlanView, first_control}
use Rattle.module_area.specs.declared.places.Place.{Place}
use Rattle.task_run.specs.Ran.{run_from}
use Rattle.task_run.specs.declared.tasks.Task.{Task}
use Rattle.phase_plan.specs.Begun.{IsBegun}
use Rattle.session_book.specs.Meaning.{JobView, ResultView, task_of}
use Rattle.phase_plan.specs.Meaning.{plan_view}
use Rattle.job_run.specs.Meaning.{result_by}
use Rattle.job_run.specs.declared.outcome.Done.{Done}
use Rattle.job_run.specs.declared.slots.Slot.{Slot}

-- what a task has come to
abbrev pub done_result : Done → ResultView
done_result d = record {
  ending = d.ending;
  done = d.task.done;
  cpu = d.task.bench.cpu;
  output = d.task.bench.io.output;
  bytes = d.task.bench.space.bytes;
}

abbrev pub no_result : ResultView
no_result = record { ending = None; done = 0; cpu = record { regs = []; ia = 0; condition = 0; mask = 0 }; output = []; bytes = [] }

abbrev pub results_of : List Done → ℕ → ResultView
results_of tasks t = get_or (map done_result tasks) t no_result

-- its run from where it stands, with nothing done yet
abbrev pub own_run : Course → PlanView → Done → Tour
own_run course plan d = run_from course plan d.task

-- task t as its card says, not run yet
pub record HasNotRun (j : JobView) (places : List Place) (t : ℕ) (d : Done) : Type 0 where
  pub ending : d.ending ≡ None
  pub begun : IsBegun j places t (record { cpu = d.task.bench.cpu; space = d.task.bench.space; io = d.task.bench.io })
  pub budget : d.task.budget ≡ (task_of j t).budget
  pub done : d.task.done ≡ 0

-- what has not run as one has not as the other
abbrev pub StaysBegun : Done → Done → Type 0
StaysBegun old new = (j : JobView) (places : List Place) (t : ℕ) → HasNotRun j places t old → HasNotRun j places t new

-- and it has the sessions of its phase that it controls, of which it has opened none
pub record IsEquipped (j : JobView) (places : List Place) (t : ℕ) (d : Done) : Type 0 where
  pub begun : HasNotRun j places t d
  pub control : d.task.bench.control ≡ first_control (plan_view j places (task_of j t).phase) t

-- task t after its run
pub record IsEnded (course : Course) (j : JobView) (places : List Place) (t : ℕ) (d : Done) : Type 0 where
  pub result : done_result d ≡ result_by course j places t
  pub filled : length d.task.bench.space.bytes ≡ (task_of j t).private

-- what a runner's extra is to a task with which it may begin, and what it tells after the run, for which sets
abbrev pub Begins : Type 0 → Type 1
Begins E = PlanView → ℕ → E → Notes → Type 0

abbrev pub Ends : Type 0 → Type 1
Ends E = PlanView → Task → Task → E → (ℕ → ℕ → FactSet) → Type 0

-- the slot's task has run from its first state, and its extra tells this of it, where these are its phase's sets
pub record HasExtra {P E : Type 0} (ends : Ends E) (j : JobView) (places : List Place) (sets : ℕ → ℕ → FactSet) (t : ℕ)
    (s : Slot P E) : Type 0 where
  pub extra : E
  pub has : s.extra ≡ Some extra
  pub first : Done
  pub begun : IsEquipped j places t first
  pub tells : ends (plan_view j places (task_of j t).phase) first.task s.done.task extra sets

-- it is a task of an earlier phase
abbrev pub has_run : JobView → ℕ → ℕ → Bool
has_run j phase t = nat_lt (task_of j t).phase phase

-- no task has run
pub record AreNew {P E : Type 0} (j : JobView) (places : List Place) (slots : List (Slot P E)) : Type 0 where
  pub count : length slots ≡ length j.tasks
  pub begun : (t : ℕ) (d : Slot P E) → t < length slots → HasNotRun j places t (get_or slots t d).done

-- the tasks of the earlier phases have run, and the others are as they begin
pub record AreRun {P E : Type 0} (course : Course) (j : JobView) (places : List Place) (phase : ℕ)
    (slots : List (Slot P E)) : Type 0 where
  pub count : length slots ≡ length j.tasks
  pub ended : (t : ℕ) (d : Slot P E) → t < length slots → has_run j phase t ≡ true
      → IsEnded course j places t (get_or slots t d).done
  pub begun : (t : ℕ) (d : Slot P E) → t < length slots → has_run j phase t ≡ false → HasNotRun j places t (get_or slots t d).done

-- the tasks of all phases have run
abbrev pub AllRun : {P E : Type 0} → Course → JobView → List Place → List (Slot P E) → Type 0
AllRun course j places slots = AreRun course j places (length j.phases) slots
