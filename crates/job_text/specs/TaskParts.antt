-- What each card of a task makes of the part of it that was read.
use Rattle.std.specs.Prelude.{◌≡◌, ℕ, ◌+◌, Bool, true, false, ◌&&◌, nat_le, if◌then◌else◌, Option, Some, None, List, [], ◌∷◌, ◌++◌, length, slice_set}
use Rattle.module_area.specs.Meaning.{DataView}
use Rattle.session_book.specs.Meaning.{TaskView, first_regs}
use Rattle.job_text.specs.Meaning.{CardView, Reg, Data, Input}
use Rattle.job_text.specs.declared.refused.LineRefused.{LineRefused}
use Rattle.job_text.specs.declared.refused.LineRefused.TheVariants as refused
use Rattle.job_text.specs.declared.task.TaskPart.{TaskPart}
use Rattle.job_text.specs.declared.task.TaskStage.{TaskStage}
use Rattle.job_text.specs.declared.task.TaskStage.TheVariants as stage

abbrev pub part : TaskView → TaskStage → TaskPart
part task stage = record { task = task; stage = stage }

-- behind TASK
abbrev pub fresh_view : List ℕ → ℕ → ℕ → ℕ → ℕ → TaskView
fresh_view name entry private budget room =
    record {
      name = name;
      phase = 0;
      entry = entry;
      private = private;
      budget = budget;
      room = room;
      regs = first_regs entry;
      cards = [];
      input = [];
    }

abbrev pub fresh_task : List ℕ → ℕ → ℕ → ℕ → ℕ → TaskPart
fresh_task name entry private budget room = part (fresh_view name entry private budget room) (stage.Regs 0)

abbrev pub takes_reg : TaskStage → ℕ → Bool
takes_reg (stage.Regs least) n = nat_le least n
takes_reg s n = false

abbrev pub takes_data : TaskStage → Bool
takes_data stage.Inputs = false
takes_data s = true

abbrev pub is_inside : ℕ → DataView → Bool
is_inside private c = nat_le (c.offset + length c.bytes) private

abbrev pub with_reg : TaskView → ℕ → ℕ → TaskView
with_reg t n v = record t { regs = slice_set t.regs n v }

abbrev pub with_data : TaskView → DataView → TaskView
with_data t c = record t { cards = t.cards ++ c ∷ [] }

abbrev pub with_input : TaskView → List ℕ → TaskView
with_input t bytes = record t { input = t.input ++ bytes }

abbrev pub after_reg : TaskPart → ℕ → ℕ → Option TaskPart
after_reg p n v = if takes_reg p.stage n then Some (part (with_reg p.task n v) (stage.Regs (n + 1))) else None

abbrev pub after_data : TaskPart → DataView → Option TaskPart
after_data p c = if takes_data p.stage && is_inside p.task.private c then Some (part (with_data p.task c) stage.Data) else None

abbrev pub after_input : TaskPart → List ℕ → TaskPart
after_input p bytes = part (with_input p.task bytes) stage.Inputs

abbrev pub task_more : TaskPart → CardView → Option TaskPart
task_more p (Reg n v) = after_reg p n v
task_more p (Data c) = after_data p c
task_more p (Input bytes) = Some (after_input p bytes)
task_more p card = None

-- how a card is refused that passes no limit
abbrev pub IsOut : {A : Type 0} → Option A → LineRefused → Type 0
IsOut o refused.Bad = o ≡ None
IsOut o (refused.TooLarge what) = ⊥
IsOut o refused.NoMemory = Unit {0}
