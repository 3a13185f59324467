-- A part of the storage that data cards fill, and its rows.
use Rattle.std.specs.Prelude.{◌≡◌, ℕ, ◌+◌, ◌-◌, ◌<◌, ◌≤◌, List, length, slice_index, All}
use Rattle.cov_base.specs.declared.limits.TheConstants.{PRIVATE_LIMIT}
use Rattle.module_area.specs.Meaning.{DataView, first_bytes, with_card}
use Rattle.report_text.specs.Meaning.{changed_row, lines_from}
use Rattle.session_book.specs.Meaning.{TaskView, ResultView}

-- the bytes from an address on, as far as there are some
abbrev pub IsPartOf : List ℕ → List ℕ → ℕ → Type 0
IsPartOf part bytes from = (k : ℕ) → k < length part → from + k < length bytes → slice_index part k ≡ slice_index bytes (from + k)

-- the card's bytes lie in storage of this size
abbrev pub FitsIn : ℕ → DataView → Type 0
FitsIn size c = c.offset + length c.bytes ≤ size

-- a result of this number has the bytes of the task's private storage, in which its data cards lie
pub record HasStorage (task : TaskView) (tasks : ℕ) (results : ℕ → ResultView) (t : ℕ) : Type 0 where
  pub exists : t < tasks
  pub most : task.private ≤ PRIVATE_LIMIT
  pub cards : All (FitsIn task.private) task.cards
  pub size : length (results t).bytes ≡ task.private

-- into a part of storage what the card has of it was stored
abbrev pub StoresCard : DataView → ℕ → List ℕ → List ℕ → Type 0
StoresCard card from old new =
    (bytes : List ℕ) → FitsIn (length bytes) card → IsPartOf old bytes from → IsPartOf new (with_card bytes card) from

-- the changed rows of a task's storage from one number on, below the other
abbrev pub rows_from : TaskView → List ℕ → ℕ → ℕ → List (List ℕ)
rows_from task now from past = lines_from (changed_row (first_bytes task.private task.cards) now) from (past - from)
