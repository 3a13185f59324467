-- A job that came as a command asks for it, its tables, and what stands behind it.
use Rattle.std.specs.Prelude.{◌+◌, ◌≤◌, length}
use Rattle.job_input.specs.Meaning.{SourceChange, input_limit}
use Rattle.job_input.specs.Inputs.{IsInput}
use Rattle.job_input.specs.declared.form.Form.{Form}
use Rattle.job_input.specs.Tables.{IsReadyJob}
use Rattle.job_answers.specs.Asked.{HasSession}
use Rattle.job_answers.specs.Meaning.{HasAsked, ReadyView}
use Rattle.job_answers.specs.declared.asked.Asked.{Asked}
use Rattle.job_answers.specs.declared.ready.Ready.{Ready}

-- its sessions are as is asked, it is known which of them is named, and it has tables
pub record IsReadyFor (asked : Asked) (r : Ready) : Type 0 where
  pub has : HasAsked asked r.input.job
  pub session : HasSession asked r.input.job r.session.0
  pub job : IsReadyJob r.input.job r.tables

-- and it came so
pub record IsMadeReady (form : Form) (asked : Asked) (s : SourceChange) (r : Ready) : Type 0 where
  pub input : IsInput form s r.input
  pub is : IsReadyFor asked r

-- the lines of its schedule have numbers
abbrev pub HasNumbers : Ready → Type 0
HasNumbers r = r.input.lines + length r.input.rest.items ≤ input_limit

abbrev pub view_of : Ready → ReadyView
view_of r = record { job = r.input.job; tables = r.tables; number = r.session.0; lines = r.input.lines; rest = r.input.rest.items }
