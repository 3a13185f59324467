-- What the calls of an area make of the notes of a task's pass.
use Rattle.std.specs.Prelude.{◌≡◌, ℕ, ◌+◌, ◌*◌, ◌<◌, Bool, length}
use Rattle.cov_base.specs.Meaning.{FactSet}
use Rattle.cov_base.specs.declared.facts.Fact.{Fact}
use Rattle.module_area.specs.declared.cells.Cell.{Cell}
use Rattle.module_area.specs.Meaning.{PlanView}
use Rattle.module_area.specs.Notes.{Notes, IsAnswer, after_fetch, after_mark, after_lift, after_plant, after_close, after_boundary, after_note, after_read}

-- one call, where its conditions hold
pub data Acts (plan : PlanView) (old new : Notes) : Type 0 where
  Fetches : (p : ℕ) (cell : Cell) → p < length plan.places → IsAnswer plan old p cell → new ≡ after_fetch plan old p cell
      → Acts plan old new
  Marks : (s p : ℕ) (f : Fact) (found : FactSet) → new ≡ after_mark plan old s p f found → Acts plan old new
  Lifts : (s p : ℕ) (exchanged : Bool) → new ≡ after_lift old s p exchanged → Acts plan old new
  Plants : (s p : ℕ) → old.last p + 1 < 2 * s → new ≡ after_plant old s p → Acts plan old new
  Closes : (s p : ℕ) → old.last p + 1 ≡ 2 * s → new ≡ after_close old s p → Acts plan old new
  Bounds : (ended : Bool) → new ≡ after_boundary old ended → Acts plan old new
  NotesTask : (t found : ℕ) → new ≡ after_note old t found → Acts plan old new
  ReadsSet : (s p : ℕ) (found : FactSet) → new ≡ after_read plan old s p found → Acts plan old new
