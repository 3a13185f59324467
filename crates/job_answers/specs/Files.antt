-- What the program makes of marks files: the union of several, and the listings that one of them marks.
use Rattle.std.specs.Prelude.{◌≡◌, ℕ, Some, List, length}
use Rattle.brk_table.specs.Meaning.{TablesView}
use Rattle.cov_base.specs.Meaning.{FactSet}
use Rattle.marks_file.specs.Meaning.{MarkedView, rows, Difference, first_difference}
use Rattle.session_book.specs.Meaning.{JobView}
use Rattle.session_marks.specs.Meaning.{session_marks, session_rows}
use Rattle.marks_file.specs.Combine.{difference_of}
use Rattle.marks_file.specs.declared.files.CombineFault.{CombineFault}
use Rattle.marks_file.specs.declared.files.CombineFault.TheVariants as fault
use Rattle.job_answers.specs.Meaning.{BeginsWith, IsNoFile}
use Rattle.refusals.specs.Meaning.{RefusalView, refusal, no_memory_line, bad_marks_line, other_table_line}

-- how files that are not united are told
abbrev pub combine_refusal : CombineFault → RefusalView
combine_refusal (fault.BadMarks offset) = refusal 10 (bad_marks_line offset)
combine_refusal (fault.Other e) = refusal 11 (other_table_line (difference_of e))
combine_refusal fault.NoMemory = refusal 7 no_memory_line

-- one file of the session with these sets
abbrev pub IsFileOf : JobView → TablesView → ℕ → List ℕ → (ℕ → FactSet) → Type 0
IsFileOf j tables s rest sets = BeginsWith rest (session_marks j tables sets s) (length rest)

-- why bytes are not one whole file, or want of memory
pub data IsFileRefusal (rest : List ℕ) (r : RefusalView) : Type 0 where
  Bad : (offset : ℕ) → IsNoFile rest offset → r ≡ refusal 10 (bad_marks_line offset) → IsFileRefusal rest r
  Wanting : r ≡ refusal 7 no_memory_line → IsFileRefusal rest r

-- why the bytes behind a job are no file of the session of that number, or want of memory
pub data IsShowRefusal (j : JobView) (tables : TablesView) (number : ℕ) (rest : List ℕ) (r : RefusalView) : Type 0 where
  NoFile : IsFileRefusal rest r → IsShowRefusal j tables number rest r
  Other : (modules : List MarkedView) (d : Difference) → BeginsWith rest modules (length rest)
      → first_difference 0 (session_rows j tables number) (rows modules) ≡ Some d → r ≡ refusal 11 (other_table_line d)
      → IsShowRefusal j tables number rest r
