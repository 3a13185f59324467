-- A task that has run to its end under an observer and a hook.
use Rattle.std.specs.Prelude.{◌≡◌, ℕ, ◌+◌, ◌≤◌, Option, List, [], ◌∷◌, length}
use Rattle.cov_base.specs.Meaning.{Visit}
use Rattle.brk_table.specs.Meaning.{TablesView}
use Rattle.module_area.specs.Meaning.{ControlView}
use Rattle.task_run.specs.Meaning.{Tour, Turn, course_on}
use Rattle.task_run.specs.Hooks.{Way}
use Rattle.task_run.specs.Steps.{memory_at, stands}
use Rattle.task_run.specs.declared.bench.Bench.{Bench}
use Rattle.task_run.specs.declared.observer.Observer as observer
use Rattle.task_run.specs.declared.observer.Watch.{Watch}
use Rattle.task_run.specs.declared.task.TaskEnd.{TaskEnd}

-- hook, pass and control between two instructions
pub record Stand (H P : Type 0) : Type 0 where
  pub hook : H
  pub pass : P
  pub control : ControlView

abbrev pub stand : {H P : Type 0} → H → P → Bench → Stand H P
stand h p b = record { hook = h; pass = p; control = b.control }

-- One instruction, with which so many are done: the pass has made its visits and then answered its call, and behind that the
-- hook has done what it does.
pub record Takes {H O P : Type 0} (makes : O → TablesView → P → List Visit → P → Type 0)
    (answers : O → P → ControlView → Option ℕ → P → ControlView → Type 0)
    (aside : H → O → P → ControlView → ℕ → P → H → Type 0) (o : O) (t : TablesView) (done : ℕ) (turn : Turn)
    (x y : Stand H P) : Type 0 where
  pub visited : P
  pub made : makes o t x.pass turn.visits visited
  pub called : P
  pub answered : answers o visited x.control turn.call called y.control
  pub hooked : aside x.hook o called y.control done y.pass y.hook

-- behind so many instructions these, one after the other, each so
abbrev pub Goes : {S : Type 0} → (ℕ → Turn → S → S → Type 0) → ℕ → List Turn → S → S → Type 0
Goes takes done [] x y = x ≡ y
Goes {S} takes done (turn ∷ turns) x y = (z : S) × (takes (done + 1) turn x z × Goes takes (done + 1) turns z y)

-- the course of the task from where it stands, with nothing done yet
abbrev pub course_of : {H O P : Type 0} → Way H O P → H → ℕ → Bench → Tour
course_of way h budget b = course_on way.after (memory_at b) budget (way.key h) (stands b 0)

-- its end is that of its course
pub record EndsAs {H O P : Type 0} (way : Way H O P) (h : H) (budget : ℕ) (old new : Bench) (end : TaskEnd) : Type 0 where
  pub ending : (course_of way h budget old).ending ≡ end.ending
  pub state : (course_of way h budget old).state ≡ stands new end.done
  pub address : (course_of way h budget old).at ≡ end.at
  pub count : length (course_of way h budget old).turns ≡ end.done
  pub most : end.done ≤ budget

-- and hook, pass and control have gone through the turns of it
abbrev pub GoesAs : {H O P : Type 0} → observer.Ghosts O P → Way H O P → Watch O → ℕ → H → P → Bench → H → P → Bench → Type 0
GoesAs by way w budget h p old g q new =
    Goes (Takes by.Makes by.Answers way.Aside w.observer.now w.tables.now) 0 (course_of way h budget old).turns (stand h p old)
    (stand g q new)
