-- The lines of a task and of a module, by its number.
use Rattle.std.specs.Prelude.{ℕ, List}
use Rattle.session_book.specs.Meaning.{JobView}
use Rattle.task_run.specs.declared.task.TaskEnd.{TaskEnd}
use Rattle.task_ends.specs.Meaning.{end_lines, unlisted_lines}

abbrev pub end_part : JobView → (ℕ → TaskEnd) → ℕ → List (List ℕ)
end_part j ends t = end_lines j t (ends t)

abbrev pub unlisted_part : JobView → (ℕ → ℕ) → ℕ → List (List ℕ)
unlisted_part j unlisted m = unlisted_lines j m (unlisted m)
