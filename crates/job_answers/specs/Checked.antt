-- What `verify` makes of a session's facts.
use Rattle.std.specs.Prelude.{◌≡◌, ◌≢◌, ℕ, Some, List}
use Rattle.brk_table.specs.Meaning.{TablesView}
use Rattle.evidence_check.specs.declared.verifying.VerifyFault.{VerifyFault}
use Rattle.evidence_check.specs.declared.verifying.VerifyFault.TheVariants as fault
use Rattle.marks_file.specs.Meaning.{first_bad, file_fields}
use Rattle.session_book.specs.Meaning.{JobView}
use Rattle.job_answers.specs.Meaning.{IsVerdict}
use Rattle.refusals.specs.Meaning.{RefusalView, refusal, no_memory_line, bad_marks_line, bad_evidence_line, refuted_line, verified_line}

-- how marks and evidence that are not verified are told
abbrev pub verify_refusal : VerifyFault → RefusalView
verify_refusal (fault.BadEvidence offset) = refusal 15 (bad_evidence_line offset)
verify_refusal (fault.Refuted row fact) = refusal 16 (refuted_line row fact)
verify_refusal fault.NoMemory = refusal 7 no_memory_line

-- why the bytes behind a job begin with no marks file, or want of memory
pub data IsStartRefusal (rest : List ℕ) (r : RefusalView) : Type 0 where
  BadStart : (offset : ℕ) → first_bad (file_fields 0 rest) ≡ Some offset → r ≡ refusal 10 (bad_marks_line offset)
      → IsStartRefusal rest r
  NoRoom : r ≡ refusal 7 no_memory_line → IsStartRefusal rest r

-- a verdict by which so many facts are verified, whatever name the session has
abbrev pub IsPassed : JobView → TablesView → ℕ → List ℕ → ℕ → Type 0
IsPassed j tables s rest facts = (name : List ℕ) → IsVerdict name j tables s rest (refusal 0 (verified_line name facts))

-- one by which nothing is verified, or want of memory
pub data IsCheckRefusal (j : JobView) (tables : TablesView) (s : ℕ) (rest : List ℕ) (r : RefusalView) : Type 0 where
  Unverified : r.status ≢ 0 → ((name : List ℕ) → IsVerdict name j tables s rest r) → IsCheckRefusal j tables s rest r
  Wanting : r ≡ refusal 7 no_memory_line → IsCheckRefusal j tables s rest r
