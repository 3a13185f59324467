-- What the instructions of a controller's run make of its drains, one by one.
use Rattle.std.specs.Prelude.{◌≡◌, ◌⊎◌, ℕ, ◌+◌, ◌<◌, ◌≤◌, Bool, true, false, Option, Some, None, List, [], length, map, get_or}
use Rattle.cov_base.specs.declared.numbers.SessNo.{SessNo}
use Rattle.cov_base.specs.declared.numbers.TaskNo.{TaskNo}
use Rattle.module_area.specs.Meaning.{PlanView, sessions_of}
use Rattle.module_area.specs.Notes.{Notes}
use Rattle.task_run.specs.Meaning.{is_opened}
use Rattle.early_report.specs.DrainView.{DrainView}
use Rattle.early_report.specs.Meaning.{others}
use Rattle.early_report.specs.Drains.{unused, has_controlled, controller_of, HasClosed, IsDrainOf, AreFinal, is_odd}
use Rattle.early_report.specs.declared.drains.Stage.{Stage}
use Rattle.early_report.specs.declared.drains.Stage.TheVariants.{Unused, Begun, Drained, Taken}

-- the session that was open before an instruction and isn't behind it
abbrev pub closed_since : Option SessNo → Option SessNo → Option SessNo
closed_since None after = None
closed_since (Some s) None = Some s
closed_since (Some s) (Some t) = None

-- the session is one of the pass's own task
pub record IsOwn (plan : PlanView) (n : Notes) (s : ℕ) : Type 0 where
  pub controlled : has_controlled plan s ≡ true
  pub own : n.bears ≡ Some (controller_of plan s)

-- How a drain stands before it follows an instruction that has closed this session, or none.
abbrev pub IsReadyAt : Stage → PlanView → Notes → Option SessNo → DrainView → Type 0
IsReadyAt Unused plan n closed d = (d ≡ unused plan d.session) × (is_opened d.session closed ≡ true → HasClosed plan n d.session)
IsReadyAt Begun plan n closed d = IsDrainOf plan n d × (d.polls < 4294967295)
IsReadyAt Drained plan n closed d = ⊥
IsReadyAt Taken plan n closed d = Unit {0}

pub record IsReady (plan : PlanView) (n : Notes) (closed : Option SessNo) (d : DrainView) : Type 0 where
  pub own : IsOwn plan n d.session
  pub stands : IsReadyAt d.stage plan n closed d

-- After a poll of the drain of that session, with so many Pending before: it waits for a task, or its sets were taken at this
-- count.
pub record Waits (plan : PlanView) (n : Notes) (s polls : ℕ) (d : DrainView) : Type 0 where
  pub session : d.session ≡ s
  pub stage : d.stage ≡ Begun
  pub tie : IsDrainOf plan n d
  pub entry : TaskNo × ℕ
  pub last : d.last ≡ Some entry
  pub working : is_odd entry.1 ≡ false
  pub polled : d.polls ≡ polls + 1

pub record IsTakenAt (plan : PlanView) (n : Notes) (s polls done : ℕ) (d : DrainView) : Type 0 where
  pub session : d.session ≡ s
  pub stage : d.stage ≡ Taken
  pub known : AreFinal plan n s d.sets
  pub polled : d.polls ≡ polls
  pub at : d.at ≡ done

abbrev pub IsAsked : PlanView → Notes → ℕ → ℕ → ℕ → DrainView → Type 0
IsAsked plan n s polls done d = Waits plan n s polls d ⊎ IsTakenAt plan n s polls done d

-- The drain behind that instruction, at this count: one whose session was closed is begun and polled, one that was begun is
-- polled, and any other is as it was.
abbrev pub WentAt : Stage → PlanView → Notes → Option SessNo → ℕ → DrainView → DrainView → Type 0
WentAt Unused plan n closed done d e =
    ((is_opened d.session closed ≡ false) × (e ≡ d)) ⊎ ((is_opened d.session closed ≡ true) × IsAsked plan n d.session 0 done e)
WentAt Begun plan n closed done d e = IsAsked plan n d.session d.polls done e
WentAt Drained plan n closed done d e = ⊥
WentAt Taken plan n closed done d e = e ≡ d

abbrev pub Went : PlanView → Notes → Option SessNo → ℕ → DrainView → DrainView → Type 0
Went plan n closed done d e = WentAt d.stage plan n closed done d e

-- each of these drains has become the one at its index
pub record HaveGone (plan : PlanView) (n : Notes) (closed : Option SessNo) (done : ℕ) (old new : List DrainView) : Type 0 where
  pub count : length new ≡ length old
  pub each : (i : ℕ) (d : DrainView) → i < length old → Went plan n closed done (get_or old i d) (get_or new i d)

-- a drain of that stage waits for a task
abbrev pub is_begun : Stage → Bool
is_begun Unused = false
is_begun Begun = true
is_begun Drained = false
is_begun Taken = false

-- A drain behind so many instructions of which one, at that count, has closed its session: its sets were taken since, or it
-- has waited for a task at each of them from that one on.
pub record IsTakenSince (plan : PlanView) (n : Notes) (closing done : ℕ) (d : DrainView) : Type 0 where
  pub stage : d.stage ≡ Taken
  pub known : AreFinal plan n d.session d.sets
  pub polls : d.at ≡ d.polls + closing
  pub to : d.at ≤ done
  pub alone : others plan.tasks (controller_of plan d.session) ≡ [] → d.at ≡ closing

pub record WaitsSince (plan : PlanView) (n : Notes) (closing done : ℕ) (d : DrainView) : Type 0 where
  pub stage : d.stage ≡ Begun
  pub tie : IsDrainOf plan n d
  pub entry : TaskNo × ℕ
  pub last : d.last ≡ Some entry
  pub working : is_odd entry.1 ≡ false
  pub polls : d.polls + closing ≡ done + 1
  pub some : 0 < closing
  pub within : closing ≤ done

abbrev pub StandsBy : PlanView → Notes → Option ℕ → ℕ → DrainView → Type 0
StandsBy plan n None done d = d ≡ unused plan d.session
StandsBy plan n (Some closing) done d = IsTakenSince plan n closing done d ⊎ WaitsSince plan n closing done d

pub record Stands (plan : PlanView) (n : Notes) (closing : Option ℕ) (done : ℕ) (d : DrainView) : Type 0 where
  pub own : IsOwn plan n d.session
  pub by : StandsBy plan n closing done d

-- the drains of the task's sessions before it runs
abbrev pub first_drains : PlanView → ℕ → List DrainView
first_drains plan t = map (λ (s : SessNo). unused plan s.0) (sessions_of plan t)
