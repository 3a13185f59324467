-- What a contract sees of a pass.
use Rattle.std.specs.Prelude.{◌≡◌, ℕ, ◌*◌, ◌≤◌, true, [], Option, Some}
use Rattle.module_area.specs.declared.parties.Role.{Role}
use Rattle.module_area.specs.declared.parties.Role.TheVariants.{Task}
use Rattle.module_area.specs.Meaning.{PlanView}
use Rattle.module_area.specs.Rule.{has_task}
use Rattle.module_area.specs.Notes.{Notes}
use Rattle.shared_area.specs.declared.pass.SharedPass.{SharedPass}
use Rattle.shared_area.specs.declared.cells.SharedCells.{SharedCells}
use Rattle.shared_area.specs.Words.{task_word}
use Rattle.shared_area.specs.Told.{notes_in}

abbrev pub notes_of : SharedPass → Notes
notes_of pass = notes_in pass.seat.me.0 pass.tally

-- the tag is of a session of the plan
abbrev pub IsWithin : PlanView → Option (ℕ × ℕ) → Type 0
IsWithin plan pending = (p t : ℕ) → pending ≡ Some (p, t) → t ≤ 2 * plan.sessions

-- of a task's pass: the word is that of the task
abbrev pub HasWord : PlanView → ℕ → Role → Type 0
HasWord plan word (Task t) = (has_task plan.tasks t ≡ true) × (word ≡ task_word plan t)
HasWord plan word r = Unit {0}

abbrev pub IsPassOf : SharedCells → SharedPass → Type 0
IsPassOf cells pass =
    (pass.seat.table_id ≡ cells.table.shared.table_id) × (pass.seat.me.1 ≡ []) × IsWithin cells.plan pass.seat.me.0.pending
    × HasWord cells.plan pass.word pass.seat.me.0.role
