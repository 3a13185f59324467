-- What is done behind the instructions of a task.
use Rattle.std.specs.Prelude.{◌≡◌, ℕ, ◌+◌}
use Rattle.brk_table.specs.Meaning.{TablesView}
use Rattle.module_area.specs.Meaning.{ControlView}
use Rattle.s370_state.specs.Meaning.{machine_of}
use Rattle.s370_state.specs.declared.endings.Next.{Next}
use Rattle.task_run.specs.Meaning.{DoneBehind, nothing}
use Rattle.task_run.specs.Steps.{CanStep, StepsAs, memory_at}
use Rattle.task_run.specs.declared.bench.Bench.{Bench}
use Rattle.task_run.specs.declared.observer.Observer as observer

-- What a hook does. Between two instructions hook, pass and control stand so, with so many done; behind one it is `aside`,
-- from the pass and itself to the pass and itself, with so many done. The course of the task depends on it by its key alone.
pub record Way (H O P : Type 0) : Type 1 where
  pub Key : Type 0
  pub key : H → Key
  pub after : DoneBehind Key
  pub IsSet : H → O → P → ControlView → ℕ → Type 0
  pub Aside : H → O → P → ControlView → ℕ → P → H → Type 0

-- An instruction has left hook, pass and bench so, and how the task would go on; before it, it could be done, and the hook was set.
pub record IsBehind {H O P : Type 0} (way : Way H O P) (by : observer.Ghosts O P) (h : H) (o : O) (t : TablesView) (q : P)
    (new : Bench) (done : ℕ) (next : Next) : Type 0 where
  pub pass : P
  pub bench : Bench
  pub before : ℕ
  pub count : done ≡ before + 1
  pub can : CanStep by.IsReady by.IsTied o t pass bench before 0
  pub set : way.IsSet h o pass bench.control before
  pub steps : StepsAs by.Makes by.Answers o t pass bench before q new next

-- What was done behind the instruction: of the bench only the processor was changed.
pub record DoesBehind {H O P : Type 0} (way : Way H O P) (o : O) (h : H) (p : P) (old : Bench) (done : ℕ) (next : Next) (g : H)
    (q : P) (new : Bench) (result : Next) : Type 0 where
  pub bench : new ≡ record old { cpu = new.cpu }
  pub course : way.after (way.key h) (memory_at old) (machine_of old.cpu old.space.bytes) next
      ≡ record { cpu = new.cpu; next = result; key = way.key g }
  pub set : way.IsSet g o q new.control done
  pub aside : way.Aside h o p new.control done q g

-- nothing is done
abbrev pub plain : (H O P : Type 0) → Way H O P
plain H O P = record {
  Key = Unit {0};
  key = λ h. tt;
  after = nothing;
  IsSet = λ h o p c done. Unit {0};
  Aside = λ h o p c done q g. q ≡ p;
}
