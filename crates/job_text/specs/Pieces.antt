-- What is answered to a piece of a job.
use Rattle.std.specs.Prelude.{ℕ, ◌≤◌, Bool, true, false, Err, List, ◌++◌, length, take}
use Rattle.session_book.specs.Meaning.{JobView}
use Rattle.job_text.specs.Meaning.{lines_of, IsWithin, GoesOn, IsRefusal, Present, Spells}
use Rattle.job_text.specs.Lines.{ended_lines, IsClosed}
use Rattle.job_text.specs.Refusals.{AnswersOnly}
use Rattle.job_text.specs.declared.grammar.Grammar.{Grammar}
use Rattle.job_text.specs.declared.jobs.JobFault.{JobFault}
use Rattle.job_text.specs.declared.jobs.JobFault.TheVariants as fault
use Rattle.job_text.specs.declared.pieces.Fed.{Fed}
use Rattle.job_text.specs.declared.pieces.Fed.TheVariants as fed

-- the line of a fault; want of memory has none
abbrev pub fault_line : JobFault → ℕ
fault_line (fault.BadJob n) = n
fault_line (fault.TooLarge what n) = n
fault_line fault.NoMemory = 0

-- The fault is that of reading these bytes, and its line has come with its LF. Where first lines spell a job within the
-- limits it is want of memory.
pub record IsTold (g : Grammar) (bytes : List ℕ) (e : JobFault) : Type 0 where
  pub refusal : IsRefusal g (lines_of bytes) e
  pub ended : fault_line e ≤ length (ended_lines (lines_of bytes))
  pub only : AnswersOnly g (lines_of bytes) (Err e)

-- the lines that have come with their LFs begin a job, are none, and pass no limit
pub record IsOpen (g : Grammar) (bytes : List ℕ) : Type 0 where
  pub goes_on : GoesOn g (ended_lines (lines_of bytes))
  pub no_job : (job : JobView) → Spells g Present (ended_lines (lines_of bytes)) job → ⊥

-- So many bytes of the piece, at least one, end with an LF, and with those before they spell a job within the limits.
pub record IsEnded (g : Grammar) (before piece : List ℕ) (used : ℕ) : Type 0 where
  pub some : 1 ≤ used
  pub inside : used ≤ length piece
  pub closed : IsClosed (before ++ take used piece)
  pub job : JobView
  pub spells : Spells g Present (lines_of (before ++ take used piece)) job
  pub within : IsWithin job

-- the answer to a piece that no fault has, behind these bytes
abbrev pub Feeds : Grammar → List ℕ → List ℕ → Fed → Type 0
Feeds g before piece fed.More = IsOpen g (before ++ piece)
Feeds g before piece (fed.Ended used) = IsEnded g before piece used

-- the bytes of a piece that are of the job
abbrev pub used_of : List ℕ → Fed → List ℕ
used_of piece fed.More = piece
used_of piece (fed.Ended used) = take used piece

-- how many they are
abbrev pub used_count : List ℕ → Fed → ℕ
used_count piece fed.More = length piece
used_count piece (fed.Ended used) = used

abbrev pub is_end : Fed → Bool
is_end fed.More = false
is_end (fed.Ended used) = true
