-- The tasks of a phase, and what a crew makes of their slots.
use Rattle.std.specs.Prelude.{◌≡◌, ℕ, ◌<◌, Bool, true, false, Option, Some, None, IfSome, List, length, get_or, take}
use Rattle.cov_base.specs.declared.numbers.TaskNo.{TaskNo}
use Rattle.session_book.specs.Meaning.{JobView}
use Rattle.phase_plan.specs.Meaning.{tasks_from}
use Rattle.job_run.specs.Slots.{AreEmpty, in_phase}
use Rattle.job_run.specs.declared.outcome.Done.{Done}
use Rattle.job_run.specs.declared.slots.Slot.{Slot}

-- a phase of a job, by its number
pub record PhaseView : Type 0 where
  pub job : JobView
  pub number : ℕ

abbrev pub phase_at : JobView → ℕ → PhaseView
phase_at j n = record { job = j; number = n }

abbrev pub is_its : PhaseView → ℕ → Bool
is_its p t = in_phase p.job p.number t

-- the task is one of the phase's
pub record IsTaskOf (p : PhaseView) (t : ℕ) : Type 0 where
  pub exists : t < length p.job.tasks
  pub its : is_its p t ≡ true

-- the phase's tasks before this one, in order
abbrev pub tasks_before : PhaseView → ℕ → List TaskNo
tasks_before p t = tasks_from 0 (take t p.job.tasks) p.number

abbrev pub all_tasks : PhaseView → List TaskNo
all_tasks p = tasks_from 0 p.job.tasks p.number

-- of each element
abbrev pub EachAt : {X : Type 0} → (ℕ → X → Type 0) → List X → Type 0
EachAt {X} good xs = (t : ℕ) (d : X) → t < length xs → good t (get_or xs t d)

-- each element has gone this step
pub record Each {X : Type 0} (step : ℕ → X → X → Type 0) (old new : List X) : Type 0 where
  pub count : length new ≡ length old
  pub each : (t : ℕ) (d : X) → t < length old → step t (get_or old t d) (get_or new t d)

-- that of one of the phase's tasks has, and another is as it was
pub record Own {X : Type 0} (p : PhaseView) (step : ℕ → X → X → Type 0) (t : ℕ) (old new : X) : Type 0 where
  pub its : is_its p t ≡ true → step t old new
  pub other : is_its p t ≡ false → new ≡ old

-- no slot has a pass, and the phase's tasks can run, each with what the slot keeps of it
pub record AreReady {P E : Type 0} (can_run : ℕ → Done → Option E → Type 0) (p : PhaseView) (slots : List (Slot P E)) : Type 0 where
  pub count : length slots ≡ length p.job.tasks
  pub empty : AreEmpty slots
  pub can : (t : ℕ) (d : Slot P E) → IsTaskOf p t → can_run t (get_or slots t d).done (get_or slots t d).extra

-- the slot has got a pass that was split off for its task
pub record GetsPass {P E : Type 0} (is_fresh : ℕ → P → Type 0) (t : ℕ) (old new : Slot P E) : Type 0 where
  pub pass : P
  pub is : new ≡ record old { pass = Some pass }
  pub fresh : is_fresh t pass

-- if the slot has a pass, its task is one of the phase's and can run with it
pub record CanGo {P E : Type 0} (is_fresh : ℕ → P → Type 0) (can_run : ℕ → Done → Option E → Type 0) (p : PhaseView) (t : ℕ)
    (s : Slot P E) : Type 0 where
  pub task : IfSome s.pass (λ _. IsTaskOf p t)
  pub fresh : IfSome s.pass (is_fresh t)
  pub can : IfSome s.pass (λ _. can_run t s.done s.extra)

-- what a pass is after its task's run, and what came of task and extra by it
pub record HasGone {P E : Type 0} (has_run : ℕ → P → Type 0) (its_end : ℕ → Done → Done → Option E → P → Type 0) (t : ℕ)
    (old new : Slot P E) : Type 0 where
  pub pass : P
  pub has : new.pass ≡ Some pass
  pub run : has_run t pass
  pub ends : its_end t old.done new.done new.extra pass

abbrev pub GoesWith : {P E : Type 0} → (ℕ → P → Type 0) → (ℕ → Done → Done → Option E → P → Type 0) → ℕ → Slot P E → Slot P E
    → Option P → Type 0
GoesWith has_run its_end t old new None = new ≡ old
GoesWith has_run its_end t old new (Some p) = HasGone has_run its_end t old new

-- the slot's task has run, if the slot has a pass
abbrev pub Goes : {P E : Type 0} → (ℕ → P → Type 0) → (ℕ → Done → Done → Option E → P → Type 0) → ℕ → Slot P E → Slot P E → Type 0
Goes has_run its_end t old new = GoesWith has_run its_end t old new old.pass

-- the slot's task has run with a pass, of which this is known now, and which the slot has no longer
pub record IsBack {P E : Type 0} (its_end : ℕ → Done → Done → Option E → P → Type 0) (is_known : P → Type 0) (t : ℕ)
    (old new : Slot P E) : Type 0 where
  pub pass : P
  pub ends : its_end t old.done new.done new.extra pass
  pub known : is_known pass
  pub none : new.pass ≡ None

-- all slots after the phase
abbrev pub AreBack : {P E : Type 0} → (ℕ → Done → Done → Option E → P → Type 0) → (P → Type 0) → PhaseView → List (Slot P E)
    → List (Slot P E) → Type 0
AreBack its_end is_known p old new = Each (Own p (IsBack its_end is_known)) old new
