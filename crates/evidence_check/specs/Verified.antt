-- Marks and evidence that pass, and the faults of others.
use Rattle.std.specs.Prelude.{◌≡◌, ℕ, Some, None, List, length}
use Rattle.brk_table.specs.Meaning.{TablesView}
use Rattle.marks_file.specs.Meaning.{MarkedView, first_bad}
use Rattle.session_book.specs.Meaning.{JobView}
use Rattle.evidence_check.specs.Meaning.{facts_of_modules, evidence_claims, first_refuted, evidence_fields, IsVerified}
use Rattle.evidence_check.specs.declared.verifying.VerifyFault.{VerifyFault}
use Rattle.evidence_check.specs.declared.verifying.VerifyFault.TheVariants.{BadEvidence, Refuted, NoMemory}

-- no field is bad, and no claim is refuted
pub record Passes (j : JobView) (tables : TablesView) (s : ℕ) (file : List MarkedView) (bs : List ℕ) : Type 0 where
  pub fields : first_bad (evidence_fields (length j.tasks) (facts_of_modules file) bs) ≡ None
  pub claims : first_refuted (evidence_claims j tables s file bs) ≡ None

-- verified marks and evidence are so
abbrev pub PassesVerified : JobView → TablesView → ℕ → List MarkedView → List ℕ → Type 0
PassesVerified j tables s file bs = IsVerified j tables s file bs → Passes j tables s file bs

-- the first bad field; with none, the first claim that is refuted
abbrev pub IsVerifyFault : JobView → TablesView → ℕ → List MarkedView → List ℕ → VerifyFault → Type 0
IsVerifyFault j tables s file bs (BadEvidence offset) =
    first_bad (evidence_fields (length j.tasks) (facts_of_modules file) bs) ≡ Some offset
IsVerifyFault j tables s file bs (Refuted row fact) =
    (first_bad (evidence_fields (length j.tasks) (facts_of_modules file) bs) ≡ None)
    × (first_refuted (evidence_claims j tables s file bs) ≡ Some (row, fact))
IsVerifyFault j tables s file bs NoMemory = Unit {0}
