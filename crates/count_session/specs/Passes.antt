-- What a contract sees of an area and its passes.
use Rattle.std.specs.Prelude.{◌≡◌, []}
use Rattle.module_area.specs.Meaning.{PlanView}
use Rattle.count_session.specs.Notes.{CountNotes}
use Rattle.count_session.specs.Rule.{notes_in}
use Rattle.count_session.specs.declared.cells.CountCells.{CountCells}
use Rattle.count_session.specs.declared.pass.CountPass.{CountPass}

abbrev pub plan_in : CountCells → PlanView
plan_in cells = cells.plan

abbrev pub notes_of : CountCells → CountPass → CountNotes
notes_of cells pass = notes_in cells.plan pass.seat.me.0

-- the pass works on this area
abbrev pub IsPassOf : CountCells → CountPass → Type 0
IsPassOf cells pass = (pass.seat.table_id ≡ cells.table.shared.table_id) × (pass.seat.me.1 ≡ [])
