-- What a task's run has come to, in one record.
use Rattle.std.proofs.Common.{◌≡◌, ◌≤◌, None, sym, arith}
use Rattle.s370_state.specs.declared.endings.Ending.{Ending}
use Rattle.module_area.specs.Notes.{Notes}
use Rattle.module_area.specs.Meaning.{PlanView}
use Rattle.module_area.specs.Rule.{IsPlan}
use Rattle.module_area.specs.Tied.{IsTied}
use Rattle.task_run.specs.Steps.{memory_at, stands}
use Rattle.task_run.specs.Meaning.{Course}
use Rattle.task_run.specs.Ran.{RanAs, run_from, walk_from}
use Rattle.task_run.specs.declared.tasks.Task.{Task}
use Rattle.task_run.proofs.MadeLemmas.{Made}
use Rattle.task_run.proofs.TallyLemmas.{has_planted}
use Rattle.task_run.proofs.WindowLemmas.{has_windows}

-- what the loop leaves of the task beside the run
pub record Keeps (plan : PlanView) (after : Notes) (old new : Task) : Type 0 where
  pub memory : memory_at new.bench ≡ memory_at old.bench
  pub budget : new.budget ≡ old.budget
  pub done : new.done ≤ old.budget
  pub tied : IsTied plan after new.bench.control

-- A task whose end is that of its course, and whose pass has made that, has run along it, from a control that has opened nothing.
pub ran_tour : (course : Course) (plan : PlanView) (before after : Notes) (old new : Task) (e : Ending) → IsPlan plan → IsTied plan before old.bench.control →
    (old.bench.control.next ≡ 0) × (old.bench.control.opened ≡ None) → Keeps plan after old new →
    Made plan before after old.bench.control new.bench.control new.done (walk_from course plan old).trace (walk_from course plan old).calls →
    (run_from course plan old).ending ≡ e → (run_from course plan old).state ≡ stands new.bench new.done → RanAs course plan before after old new e
ran_tour course plan before after old new e is tie first keeps made ending state =
    let calls = (walk_from course plan old).calls in
    record {
      memory = keeps.memory;
      budget = keeps.budget;
      done = keeps.done;
      ending = sym ending;
      state = sym state;
      follows = made.follows;
      windows = has_windows plan before old.bench.control calls is tie first.0;
      planted = has_planted plan before after old.bench.control new.bench.control calls is tie first.0 first.1 made.follows.plants made.follows.closes made.follows.control;
      tied = keeps.tied;
      few = omega (arith, made.few, keeps.done);
    }
