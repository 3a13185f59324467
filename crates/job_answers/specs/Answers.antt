-- Why no job was come to, by what is asked and by the source.
use Rattle.std.specs.Prelude.{◌≡◌, ℕ, List}
use Rattle.cov_outside.specs.declared.whole.ReadFault.{ReadFault}
use Rattle.session_book.specs.Meaning.{JobView}
use Rattle.job_input.specs.Meaning.{SourceChange, CameWhole, IsReadFault}
use Rattle.job_input.specs.Inputs.{CameJob}
use Rattle.job_input.specs.declared.form.Form.{Form}
use Rattle.job_answers.specs.Meaning.{IsRefused}
use Rattle.job_answers.specs.declared.asked.Asked.{Asked}
use Rattle.refusals.specs.Meaning.{RefusalView, read_refusal}

-- the input wasn't read whole, or has no job as is asked
pub data IsStopped (form : Form) (asked : Asked) (s : SourceChange) (r : RefusalView) : Type 0 where
  NotWhole : (e : ReadFault) → IsReadFault s e → r ≡ read_refusal e → IsStopped form asked s r
  NoJob : (bytes : List ℕ) → CameWhole s bytes → IsRefused form asked bytes r → IsStopped form asked s r

-- no job came, whatever is asked of it
abbrev pub StopsInput : Form → SourceChange → RefusalView → Type 0
StopsInput form s r = (asked : Asked) → IsStopped form asked s r

-- a job that came isn't taken for this, in whatever form it came
abbrev pub StopsJob : Asked → JobView → RefusalView → Type 0
StopsJob asked j r = (form : Form) (s : SourceChange) → CameJob form s j → IsStopped form asked s r
