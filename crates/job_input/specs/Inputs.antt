-- A job that came from a source, or why none did.
use Rattle.std.specs.Prelude.{◌≡◌, ℕ, ◌+◌, ◌≤◌, true, List, length, drop}
use Rattle.report_text.specs.Conditions.{HasFewLines}
use Rattle.session_book.specs.Meaning.{JobView}
use Rattle.job_text.specs.Meaning.{lines_of}
use Rattle.job_text.specs.declared.jobs.JobFault.{JobFault}
use Rattle.job_input.specs.declared.form.Form.{Form}
use Rattle.job_input.specs.declared.faults.InputFault.{InputFault}
use Rattle.job_input.specs.declared.faults.InputFault.TheVariants.{Source, Job}
use Rattle.job_input.specs.declared.reading.Input.{Input}
use Rattle.job_input.specs.Meaning.{SourceChange, input_limit, CameWhole, IsReadFault, HasJob, IsJobFault}

-- the bytes that came have this job
pub record CameJob (form : Form) (s : SourceChange) (j : JobView) : Type 0 where
  pub bytes : List ℕ
  pub came : CameWhole s bytes
  pub has : HasJob form (lines_of bytes) j

-- and why those that came have none
pub record CameJobless (form : Form) (s : SourceChange) (e : JobFault) : Type 0 where
  pub bytes : List ℕ
  pub came : CameWhole s bytes
  pub is : IsJobFault form bytes e

abbrev pub IsInputFault : Form → SourceChange → InputFault → Type 0
IsInputFault form s (Source e) = IsReadFault s e
IsInputFault form s (Job e) = CameJobless form s e

-- the bytes that came have this job in their first lines, so many; where more than a job may come these stand behind it
pub record CameWith (form : Form) (s : SourceChange) (j : JobView) (count : ℕ) (rest : List ℕ) : Type 0 where
  pub bytes : List ℕ
  pub came : CameWhole s bytes
  pub has : HasJob form (lines_of bytes) j
  pub counts : has.count ≡ count
  pub behind : form.more ≡ true → lines_of rest ≡ drop count (lines_of bytes)

-- and each line of a listing has a number, and each line behind the job
pub record IsInput (form : Form) (s : SourceChange) (i : Input) : Type 0 where
  pub came : CameWith form s i.job i.lines i.rest.items
  pub few : HasFewLines i.job
  pub numbers : form.more ≡ true → i.lines + length i.rest.items ≤ input_limit
