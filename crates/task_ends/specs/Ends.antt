-- Ends and counts that were found, and their text.
use Rattle.std.specs.Prelude.{◌≡◌, ℕ, ◌<◌, Result, length, get_or, slice_index}
use Rattle.cov_outside.specs.declared.streams.Sink as sink
use Rattle.report_text.specs.Writes.{PrintsText}
use Rattle.session_book.specs.Meaning.{JobView}
use Rattle.task_run.specs.declared.task.TaskEnd.{TaskEnd}
use Rattle.task_ends.specs.Meaning.{ends_text}
use Rattle.task_ends.specs.declared.running.Ends.{Ends}

-- one end for each task of the job, and one count for each module
pub record AreEnds (j : JobView) (ends : ℕ → TaskEnd) (unlisted : ℕ → ℕ) (found : Ends) : Type 0 where
  pub tasks : length found.tasks.items ≡ length j.tasks
  pub each_task : (t : ℕ) (d : TaskEnd) → t < length j.tasks → get_or found.tasks.items t d ≡ ends t
  pub modules : length found.unlisted.items ≡ length j.images
  pub each_module : (m : ℕ) → m < length j.images → slice_index found.unlisted.items m ≡ unlisted m

-- of any ends and counts that these are
abbrev pub IfEnds : JobView → Ends → ((ℕ → TaskEnd) → (ℕ → ℕ) → Type 0) → Type 0
IfEnds j found P = (ends : ℕ → TaskEnd) (unlisted : ℕ → ℕ) → AreEnds j ends unlisted found → P ends unlisted

-- their text was written
abbrev pub PrintsEnds : {K T E : Type 0} → sink.Ghosts K → JobView → Ends → K → K → Result T E → Type 0
PrintsEnds g j found old new result = IfEnds j found (λ ends unlisted. PrintsText g old new result (ends_text j ends unlisted))
