-- What an instruction did, and what its observer has noted.
use Rattle.std.specs.Prelude.{◌≡◌, ℕ, ◌+◌, true, false, Option, None, List, [], ◌∷◌}
use Rattle.cov_base.specs.Meaning.{length_of, Memory, half_at, State, Visit}
use Rattle.brk_table.specs.Kept.{AreKept}
use Rattle.brk_table.specs.Meaning.{TablesView}
use Rattle.brk_table.specs.Places.{AreSeen}
use Rattle.module_area.specs.Meaning.{ControlView}
use Rattle.s370_branch.specs.Meaning.{goes}
use Rattle.s370_decode.specs.Meaning.{first_half, op_of}
use Rattle.s370_decode.specs.declared.code.Code.{Code}
use Rattle.s370_exec.specs.Meaning.{call_of, subject_call, first_tests, rest_tests, code_at, Step, solo_step, subject_step}
use Rattle.s370_exec.specs.Effects.{next_of}
use Rattle.s370_exec.specs.Solo.{state_of}
use Rattle.s370_exec.specs.declared.instruction.Told.{Told}
use Rattle.s370_state.specs.declared.endings.Ending.{Ending}
use Rattle.s370_state.specs.declared.endings.Next.{Next}
use Rattle.space_map.specs.Space.{memory_of_space}
use Rattle.task_run.specs.declared.bench.Bench.{Bench}
use Rattle.task_run.specs.declared.observer.Observer as observer

-- the memory that the task sees, and its state with so many instructions done
abbrev pub memory_at : Bench → Memory
memory_at b = memory_of_space b.space

abbrev pub stands : Bench → ℕ → State
stands b done = state_of b.cpu b.space.bytes b.io done

-- the task sees the places of the tables, and their instructions, as the tables have them
pub record IsShown (m : Memory) (tables : TablesView) : Type 0 where
  pub seen : AreSeen m tables.places
  pub kept : AreKept m tables

-- the instruction at the instruction address
abbrev pub code_there : Bench → Code
code_there b = code_at (memory_at b) b.space.bytes b.cpu.ia (half_at (memory_at b) b.space.bytes b.cpu.ia)

-- its visit, where it is begun
abbrev pub own_visit : Bench → ℕ → Visit
own_visit b done =
    record {
      at = b.cpu.ia;
      begun = true;
      went = goes (op_of (first_half (code_there b))) b.cpu (code_there b);
      before = done;
      subject = false;
    }

-- The pass has room for the rest of an instruction, of which so many visits were shown, and is tied to the task's control.
pub record CanStep {O P : Type 0} (is_ready : O → TablesView → P → ℕ → ℕ → Type 0) (is_tied : O → P → ControlView → Type 0)
    (o : O) (t : TablesView) (p : P) (b : Bench) (done shown : ℕ) : Type 0 where
  pub places : IsShown (memory_at b) t
  pub ready : is_ready o t p done shown
  pub tied : is_tied o p b.control

-- The task's state and how it goes on are those of this step; the pass has made the step's visits, and has then answered the
-- call, if there was one.
pub record Does {O P : Type 0} (makes : O → TablesView → P → List Visit → P → Type 0)
    (answers : O → P → ControlView → Option ℕ → P → ControlView → Type 0)
    (o : O) (t : TablesView) (p : P) (c : ControlView) (step : Step) (call : Option ℕ) (q : P) (new : Bench) (done : ℕ)
    (result : Next) : Type 0 where
  pub state : step.state ≡ stands new done
  pub next : step.next ≡ result
  pub mid : P
  pub made : makes o t p step.visits mid
  pub answered : answers o mid c call q new.control

-- the memory is as it was, and what was done is the step of a task alone
pub record StepsAs {O P : Type 0} (makes : O → TablesView → P → List Visit → P → Type 0)
    (answers : O → P → ControlView → Option ℕ → P → ControlView → Type 0)
    (o : O) (t : TablesView) (p : P) (old : Bench) (done : ℕ) (q : P) (new : Bench) (result : Next) : Type 0 where
  pub memory : memory_at new ≡ memory_at old
  pub does : Does makes answers o t p old.control (solo_step (memory_at old) (stands old done))
      (call_of (memory_at old) (stands old done)) q new (done + 1) result

-- and it was told whether the task has ended, and how
abbrev pub StepsTold : {O P : Type 0} → observer.Ghosts O P → O → TablesView → P → Bench → ℕ → P → Bench → Told → Ending → Type 0
StepsTold by o t p old done q new told end = StepsAs by.Makes by.Answers o t p old done q new (next_of told end)

-- and of the subject of this EX, which was begun
pub record StepsOn {O P : Type 0} (by : observer.Ghosts O P) (ex : Code) (o : O) (t : TablesView) (p : P) (old : Bench) (done : ℕ)
    (q : P) (new : Bench) (result : Next) : Type 0 where
  pub memory : memory_at new ≡ memory_at old
  pub does : Does by.Makes by.Answers o t p old.control (subject_step (memory_at old) (stands old done) ex)
      (subject_call (memory_at old) (stands old done) ex) q new (done + 1) result

-- The instruction was fetched whole, and its visit was shown: what is done from before that visit on is the whole step.
pub record GoesOn {O P : Type 0} (by : observer.Ghosts O P) (o : O) (t : TablesView) (p : P) (old : Bench) (done : ℕ) (q : P)
    (new : Bench) (result : Next) : Type 0 where
  pub memory : memory_at new ≡ memory_at old
  pub does : (first : P) → by.Makes o t first (own_visit old done ∷ []) p →
      Does by.Makes by.Answers o t first old.control (solo_step (memory_at old) (stands old done))
      (call_of (memory_at old) (stands old done)) q new (done + 1) result

-- and it was told whether the task has ended, and how
abbrev pub GoesOnTold : {O P : Type 0} → observer.Ghosts O P → O → TablesView → P → Bench → ℕ → P → Bench → Told → Ending → Type 0
GoesOnTold by o t p old done q new told end = GoesOn by o t p old done q new (next_of told end)

-- the instruction at the instruction address, whose halfwords may all be fetched
pub record IsFetched (b : Bench) (code : Code) : Type 0 where
  pub first : first_tests (memory_at b) b.cpu.ia ≡ None
  pub rest : rest_tests (memory_at b) b.cpu.ia (length_of (half_at (memory_at b) b.space.bytes b.cpu.ia)) ≡ None
  pub is : code ≡ code_there b
