-- The job that was read, and that first lines that spell one have no other answer.
use Rattle.std.specs.Prelude.{◌≡◌, ℕ, ◌≤◌, Result, Ok, Err, IfOk, IfErr, List, ◌++◌, length, take, drop}
use Rattle.session_book.specs.Meaning.{JobView}
use Rattle.job_text.specs.Meaning.{LineView, lines_of, Present, Spells, IsWithin, IsRefusal}
use Rattle.job_text.specs.declared.grammar.Grammar.{Grammar}
use Rattle.job_text.specs.declared.jobs.ReadJob.{ReadJob}
use Rattle.job_text.specs.declared.jobs.JobFault.{JobFault}
use Rattle.job_text.specs.declared.jobs.JobFault.TheVariants as fault

-- The bytes up to `end` are so many whole lines of the input, and spell the job, within the limits.
pub record IsRead (g : Grammar) (input : List ℕ) (r : ReadJob) : Type 0 where
  pub inside : r.end ≤ length input
  pub parted : lines_of input ≡ lines_of (take r.end input) ++ lines_of (drop r.end input)
  pub count : length (lines_of (take r.end input)) ≡ r.lines
  pub spells : Spells g Present (lines_of (take r.end input)) r.job
  pub within : IsWithin r.job

-- The answer is this job, whose last line is line n, or want of memory: a job that was spelled is over, so that no line
-- behind it is bad.
abbrev pub IsOnly : ℕ → JobView → Result ReadJob JobFault → Type 0
IsOnly n job (Ok r) = (r.job ≡ job) × (r.lines ≡ n)
IsOnly n job (Err e) = e ≡ fault.NoMemory

-- where first lines spell a job within the limits, the answer is that job
abbrev pub AnswersOnly : Grammar → List LineView → Result ReadJob JobFault → Type 0
AnswersOnly g lines answer =
    (n : ℕ) (job : JobView) → n ≤ length lines → Spells g Present (take n lines) job → IsWithin job → IsOnly n job answer

-- the fault is that of reading these lines, and where first lines spell a job within the limits it is want of memory
pub record IsRefused (g : Grammar) (lines : List LineView) (e : JobFault) : Type 0 where
  pub refusal : IsRefusal g lines e
  pub only : AnswersOnly g lines (Err e)

-- what is answered to all bytes of an input
pub record IsAnswer (g : Grammar) (bytes : List ℕ) (answer : Result ReadJob JobFault) : Type 0 where
  pub job : IfOk answer (IsRead g bytes)
  pub whole : IfOk answer (λ r. r.end ≡ length bytes)
  pub only : AnswersOnly g (lines_of bytes) answer
  pub fault : IfErr answer (IsRefusal g (lines_of bytes))
