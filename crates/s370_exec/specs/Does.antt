-- What contracts say of old and new: processor, storage, input and output, and how the task goes on.
use Rattle.std.specs.Prelude.{◌≡◌, ℕ, ◌+◌, Bool, List, ◌∷◌, Option, Some, None}
use Rattle.cov_base.specs.Meaning.{CpuView, Machine, IoView, State, Visit, Memory}
use Rattle.s370_state.specs.Meaning.{machine_of}
use Rattle.s370_state.specs.declared.endings.Ending.{Ending}
use Rattle.s370_state.specs.declared.endings.Next.{Next}
use Rattle.s370_decode.specs.declared.code.Code.{Code}
use Rattle.s370_decode.specs.declared.decoded.Decoded.{Decoded}
use Rattle.s370_decode.specs.declared.op.Op.{Op}
use Rattle.s370_exec.specs.Meaning.{Effect, effect, onward_by, Step, subject_step}
use Rattle.s370_exec.specs.declared.instruction.Told.{Told}
use Rattle.s370_exec.specs.Effects.{effect_of, next_of, executed}
use Rattle.s370_exec.specs.Solo.{state_of, subject_seen}

-- it has this effect, and the memory stays
pub record Does {S : Type 0} (memory_of : S → Memory) (bytes_of : S → List ℕ) (what : Memory → Machine → IoView → Effect)
    (cpu : CpuView) (space : S) (io : IoView) (cpu' : CpuView) (space' : S) (io' : IoView) (next : Next) : Type 0 where
  pub memory : memory_of space' ≡ memory_of space
  pub effect : effect_of cpu' (bytes_of space') io' next ≡ what (memory_of space) (machine_of cpu (bytes_of space)) io

-- it carries out the instruction, under EX or not, and tells whether the task has ended, and how
abbrev pub Executes : {S : Type 0} → (S → Memory) → (S → List ℕ) → Code → Option ℕ → CpuView → S → IoView → CpuView → S → IoView
    → Told → Ending → Type 0
Executes memory_of bytes_of c x cpu space io cpu' space' io' told end =
    Does memory_of bytes_of (executed c x) cpu space io cpu' space' io' (next_of told end)

-- processor, storage, input and output are as they were
pub record IsUntouched {S : Type 0} (cpu : CpuView) (space : S) (io : IoView) (cpu' : CpuView) (space' : S)
    (io' : IoView) : Type 0 where
  pub same_cpu : cpu' ≡ cpu
  pub same_space : space' ≡ space
  pub same_io : io' ≡ io

-- it carries out the instruction, under no EX, where it has told how the task goes on, and else leaves everything as it was
abbrev pub Tries : {S : Type 0} → (S → Memory) → (S → List ℕ) → Code → CpuView → S → IoView → CpuView → S → IoView → Option Told
    → Ending → Type 0
Tries memory_of bytes_of c cpu space io cpu' space' io' (Some told) end =
    Executes memory_of bytes_of c None cpu space io cpu' space' io' told end
Tries memory_of bytes_of c cpu space io cpu' space' io' None end = IsUntouched cpu space io cpu' space' io'

-- it carries out an operation that neither input and output nor the length code concern; to is the updated address
pub record CarriesOut {S : Type 0} (memory_of : S → Memory) (bytes_of : S → List ℕ) (c : Code) (op : Op) (to : ℕ)
    (cpu : CpuView) (space : S) (cpu' : CpuView) (space' : S) (told : Told) (end : Ending) : Type 0 where
  pub memory : memory_of space' ≡ memory_of space
  pub effect : (io : IoView) (link : ℕ)
      → effect_of cpu' (bytes_of space') io (next_of told end)
      ≡ effect (memory_of space) (machine_of cpu (bytes_of space)) io c op to link

-- it carries out an operation of a decoded instruction, under no EX
abbrev pub CarriesOn : {S : Type 0} → (S → Memory) → (S → List ℕ) → Decoded → Op → CpuView → S → CpuView → S → Told → Ending
    → Type 0
CarriesOn memory_of bytes_of d op cpu space cpu' space' told end =
    CarriesOut memory_of bytes_of d.code op d.next cpu space cpu' space' told end

-- a branch, which storage, input and output don't concern, and which ends no task
abbrev pub Branches : Code → Op → ℕ → ℕ → CpuView → CpuView → Told → Type 0
Branches c op to link cpu cpu' told =
    (m : Memory) (bytes : List ℕ) (io : IoView) (e : Ending)
    → effect_of cpu' bytes io (next_of told e) ≡ effect m (machine_of cpu bytes) io c op to link

-- the processor goes on at the updated address, or the task ends, as an operation has told
abbrev pub GoesOnward : ℕ → Next → CpuView → CpuView → Next → Type 0
GoesOnward to told cpu cpu' next =
    (bytes : List ℕ) (io : IoView) → effect_of cpu' bytes io next ≡ onward_by to io (machine_of cpu bytes) told

-- it does this step, one instruction, and the memory stays
pub record Steps {S : Type 0} (memory_of : S → Memory) (bytes_of : S → List ℕ) (step : Memory → State → Step)
    (cpu : CpuView) (space : S) (io : IoView) (cpu' : CpuView) (space' : S) (io' : IoView) (result : Next) : Type 0 where
  pub memory : memory_of space' ≡ memory_of space
  pub state : (d : ℕ) → (step (memory_of space) (state_of cpu (bytes_of space) io d)).state
      ≡ state_of cpu' (bytes_of space') io' (d + 1)
  pub next : (d : ℕ) → (step (memory_of space) (state_of cpu (bytes_of space) io d)).next ≡ result

-- the answer is that of the state, whatever its input and output and the instructions done
abbrev pub Answers : {A : Type 0} → (State → A) → CpuView → List ℕ → A → Type 0
Answers f cpu bytes a = (io : IoView) (d : ℕ) → f (state_of cpu bytes io d) ≡ a

-- the step of an EX's subject, told by the EX
abbrev pub subject_of : Code → Memory → State → Step
subject_of c m s = subject_step m s c

-- what the visits behind the EX's own tell of its subject
abbrev pub seen_behind : Visit → Memory → Code → State → Option (ℕ × Bool)
seen_behind v m c s = subject_seen (v ∷ (subject_step m s c).visits)

-- behind whatever visit of its own, the EX shows this of its subject
abbrev pub Shows : Memory → Code → CpuView → List ℕ → Option (ℕ × Bool) → Type 0
Shows m c cpu bytes seen = (v : Visit) → Answers (seen_behind v m c) cpu bytes seen
