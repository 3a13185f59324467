-- What the drains of a controller's sessions tell once it has run.
use Rattle.std.specs.Prelude.{◌≡◌, ◌⊎◌, ℕ, ◌+◌, ◌≤◌, true, false, Option, Some, None, List, [], map, All}
use Rattle.std.specs.List.{Contains}
use Rattle.cov_base.specs.Meaning.{FactSet}
use Rattle.cov_base.specs.declared.numbers.PlaceNo.{PlaceNo}
use Rattle.cov_base.specs.declared.numbers.SessNo.{SessNo}
use Rattle.cov_base.specs.declared.numbers.TaskNo.{TaskNo}
use Rattle.module_area.specs.Ended.{AreSettled}
use Rattle.module_area.specs.Meaning.{PlanView, places_under}
use Rattle.module_area.specs.Notes.{Notes}
use Rattle.module_area.specs.Rule.{has_task}
use Rattle.task_run.specs.Meaning.{solo}
use Rattle.task_run.specs.Ran.{walk_from}
use Rattle.task_run.specs.declared.tasks.Task.{Task}
use Rattle.early_report.specs.DrainView.{DrainView}
use Rattle.early_report.specs.Meaning.{others, closing_count}
use Rattle.early_report.specs.Drains.{controller_of, is_odd}
use Rattle.early_report.specs.Followed.{Stands}
use Rattle.early_report.specs.declared.drains.Stage.TheVariants.{Unused, Begun, Taken}

-- the count at which the task's run alone closes the session, if it does
abbrev pub closed_at : PlanView → Task → ℕ → Option ℕ
closed_at plan task s = closing_count task.bench.control (walk_from solo plan task).calls s

-- of these sets those at the session's places
abbrev pub sets_under : PlanView → (ℕ → ℕ → FactSet) → ℕ → List FactSet
sets_under plan sets s = map (λ (p : PlaceNo). sets s p.0) (places_under plan s)

-- The sets were taken, and are those of the phase, at a count from the closing one to the last: at the closing one where the
-- phase has no other task, and else as many later as polls have waited before, one behind each instruction.
pub record IsTaken (plan : PlanView) (closing done : ℕ) (sets : ℕ → ℕ → FactSet) (d : DrainView) : Type 0 where
  pub stage : d.stage ≡ Taken
  pub are_sets : d.sets ≡ sets_under plan sets d.session
  pub from : closing ≤ d.at
  pub to : d.at ≤ done
  pub polls : d.at ≡ d.polls + closing
  pub alone : others plan.tasks (controller_of plan d.session) ≡ [] → d.at ≡ closing

-- The last poll has stopped at the entry of another task of the plan, which by its noted number hadn't ended then, and every
-- instruction from the closing one on has had a poll.
pub record IsPending (plan : PlanView) (closing done : ℕ) (d : DrainView) : Type 0 where
  pub stage : d.stage ≡ Begun
  pub entry : TaskNo × ℕ
  pub last : d.last ≡ Some entry
  pub noted : Contains d.noted entry
  pub working : is_odd entry.1 ≡ false
  pub other : has_task (others plan.tasks (controller_of plan d.session)) entry.0.0 ≡ true
  pub polls : d.polls + closing ≡ done + 1

-- by the count at which its session was closed, if it was
abbrev pub IsTold : PlanView → Option ℕ → ℕ → (ℕ → ℕ → FactSet) → DrainView → Type 0
IsTold plan None done sets d = d.stage ≡ Unused
IsTold plan (Some closing) done sets d = IsTaken plan closing done sets d ⊎ IsPending plan closing done d

-- their sessions
abbrev pub sessions_in : List DrainView → List ℕ
sessions_in drains = map (λ (d : DrainView). d.session) drains

-- One drain for each of the task's sessions, in order, where these are the phase's sets.
pub record HasTold (plan : PlanView) (old new : Task) (drains : List DrainView) (sets : ℕ → ℕ → FactSet) : Type 0 where
  pub sessions : sessions_in drains ≡ map (λ (s : SessNo). s.0) old.bench.control.sessions
  pub each : All (λ (d : DrainView). IsTold plan (closed_at plan old d.session) new.done sets d) drains

-- where they are those with which the area of this plan ends, by the pass's notes
abbrev pub HasToldSettled : PlanView → Notes → PlanView → Task → Task → List DrainView → Type 0
HasToldSettled area n plan old new drains = (sets : ℕ → ℕ → FactSet) → AreSettled area n sets → HasTold plan old new drains sets

-- each drain stands as its session was closed by the task's run
abbrev pub AllStand : PlanView → Notes → Task → Task → List DrainView → Type 0
AllStand plan n old new drains = All (λ (d : DrainView). Stands plan n (closed_at plan old d.session) new.done d) drains
