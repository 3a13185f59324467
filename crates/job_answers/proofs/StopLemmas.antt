-- Why no job was come to, cause by cause.
use Rattle.std.proofs.Common.{inl, inr, ◌≡◌, ℕ, Bool, true, not, is_some, if◌then◌else◌, Some, None, refl, ◌∙◌, ap}
use Rattle.cov_outside.specs.declared.whole.ReadFault.TheVariants as read
use Rattle.session_book.specs.Meaning.{JobView, session_of}
use Rattle.job_input.specs.Meaning.{SourceChange, job_fault}
use Rattle.job_input.specs.Inputs.{IsInputFault, CameJobless}
use Rattle.job_input.specs.declared.form.Form.{Form}
use Rattle.job_input.specs.declared.faults.InputFault.{InputFault}
use Rattle.job_input.specs.declared.faults.InputFault.TheVariants.{Source, Job}
use Rattle.job_input.specs.Faults.{IsFaultOf}
use Rattle.job_input.specs.declared.table_faults.TablesFault.{TablesFault}
use Rattle.job_text.specs.declared.jobs.JobFault.{JobFault}
use Rattle.job_text.specs.declared.jobs.JobFault.TheVariants as fault
use Rattle.job_answers.specs.Meaning.{Jobless, BadListing, Controlled, if_controlled, controlled_asked, HasAsked, session_number}
use Rattle.refusals.specs.Meaning.{controlled_line, refusal, RefusalView, jobless_refusal, tables_refusal}
use Rattle.job_answers.specs.declared.asked.Wanted.{Wanted}
use Rattle.job_answers.specs.declared.asked.Asked.{Asked}
use Rattle.job_answers.specs.declared.asked.Asked.TheVariants.{WithSession}
use Rattle.job_answers.specs.Answers.{IsStopped, NotWhole, NoJob, StopsJob}
use Rattle.refusals.specs.Refusals.{input_refusal}

-- a source that gave no job, and listings that have no tables
no_lines : (form : Form) (asked : Asked) (s : SourceChange) (e : JobFault) → CameJobless form s e → IsStopped form asked s (jobless_refusal e)
no_lines form asked s (fault.BadJob n) h = NoJob h.bytes h.came (Jobless (fault.BadJob n) h.is (λ e. absurd cc) refl)
no_lines form asked s (fault.TooLarge what n) h = NoJob h.bytes h.came (Jobless (fault.TooLarge what n) h.is (λ e. absurd cc) refl)
no_lines form asked s fault.NoMemory h = NotWhole read.NoMemory tt refl

pub not_come : (form : Form) (asked : Asked) (s : SourceChange) (e : InputFault) → IsInputFault form s e → IsStopped form asked s (input_refusal e)
not_come form asked s (Source e) h = NotWhole e h refl
not_come form asked s (Job e) h = no_lines form asked s e h

pub no_tables : (asked : Asked) (j : JobView) (e : TablesFault) → HasAsked asked j → IsFaultOf (job_fault j) e → StopsJob asked j (tables_refusal e)
no_tables asked j e has (inl wanting) = λ form s came. NotWhole read.NoMemory tt (ap tables_refusal wanting)
no_tables asked j e has (inr first) = λ form s came. NoJob came.bytes came.came (BadListing j e came.has has first refl)

-- a session that must have no controller and has one
pub is_controlled : (wanted : Wanted) (j : JobView) (number : ℕ) (r : RefusalView) → wanted.whole ≡ true → session_number j wanted.name ≡ Some number → is_some (session_of j number).by ≡ true → r ≡ refusal 14 (controlled_line (session_of j number).name) →
    StopsJob (WithSession wanted) j r
is_controlled wanted j number r must is by told = λ form s came.
    let found : controlled_asked (WithSession wanted) j ≡ Some number = ap (λ (b : Bool). if b then if_controlled j (session_number j wanted.name) else None) must ∙ (ap (if_controlled j) is ∙ ap (λ (b : Bool). if not b then None else Some number) by) in
    NoJob came.bytes came.came (Controlled j number came.has found told)
