-- What the claim of the program says by this crate's clauses.
use Rattle.std.specs.Prelude.{ℕ, List, Option, Some, None, [], ◌∷◌, ◌++◌, codes, decimal, take, ◌≡◌, ◌≤◌, ◌⊎◌}
use Rattle.cov_base.specs.Meaning.{unpadded, wrap}
use Rattle.cov_base.specs.declared.facts.Fact.{Fact}
use Rattle.cov_base.specs.declared.facts.Fact.TheVariants.{Ran, Went, Stayed}
use Rattle.job_text.specs.declared.limit.Limit.{Limit}
use Rattle.job_text.specs.declared.limit.Limit.TheVariants as limit
use Rattle.report_text.specs.Meaning.{hex_bytes}
use Rattle.marks_file.specs.Meaning.{Difference}
use Rattle.annotator.specs.Meaning.{hex_digits}
use Rattle.cov_outside.specs.declared.whole.ReadFault.{ReadFault}
use Rattle.cov_outside.specs.declared.whole.ReadFault.TheVariants as read
use Rattle.s370_decode.specs.declared.code.Code.{Code}
use Rattle.listing_reader.specs.declared.lines.ListFault.{ListFault}
use Rattle.listing_reader.specs.declared.lines.ListFault.TheVariants as list
use Rattle.brk_table.specs.declared.faults.BuildFault.{BuildFault}
use Rattle.brk_table.specs.declared.faults.BuildFault.TheVariants as build
use Rattle.job_input.specs.declared.table_faults.TablesFault.{TablesFault}
use Rattle.job_input.specs.declared.table_faults.TablesFault.TheVariants as first
use Rattle.job_text.specs.declared.jobs.JobFault.{JobFault}
use Rattle.job_text.specs.declared.jobs.JobFault.TheVariants as fault
use Rattle.std.specs.Io.KnownBytes.{Appends}
use Rattle.cov_outside.specs.Meaning.{Rose, AppendsSome}

-- The lines that refusals, and a `verify` that passes, are told by.

abbrev pub usage_line : List ℕ
usage_line =
    codes "USAGE: run | marks NAME | trial NUMBER TASKS | table | replay | combine | show NAME | early | count | exits | prove NAME | verify NAME | ends | services COMMAND\n"

abbrev pub too_large_input_line : List ℕ
too_large_input_line = codes "TOO LARGE INPUT\n"

abbrev pub read_fault_line : List ℕ
read_fault_line = codes "READ FAULT\n"

abbrev pub no_memory_line : List ℕ
no_memory_line = codes "NO MEMORY\n"

-- a line of a job by its number
abbrev pub bad_job_line : ℕ → List ℕ
bad_job_line n = codes "BAD JOB LINE " ++ decimal n ++ 10 ∷ []

abbrev pub limit_name : Limit → List ℕ
limit_name limit.Input = codes "INPUT"
limit_name limit.Modules = codes "MODULES"
limit_name limit.Size = codes "SIZE"
limit_name limit.Line = codes "LINE"
limit_name limit.Places = codes "PLACES"
limit_name limit.Phases = codes "PHASES"
limit_name limit.Sessions = codes "SESSIONS"
limit_name limit.Tasks = codes "TASKS"
limit_name limit.Private = codes "PRIVATE"
limit_name limit.Budget = codes "BUDGET"
limit_name limit.Room = codes "ROOM"

abbrev pub large_job_line : Limit → ℕ → List ℕ
large_job_line what n = codes "TOO LARGE " ++ limit_name what ++ codes " LINE " ++ decimal n ++ 10 ∷ []

-- the line of the input at which its schedule is bad
abbrev pub bad_schedule_line : ℕ → List ℕ
bad_schedule_line n = codes "BAD SCHEDULE LINE " ++ decimal n ++ 10 ∷ []

-- no session of the job has this name, which is filled with blanks
abbrev pub no_session_line : List ℕ → List ℕ
no_session_line name = codes "NO SESSION " ++ unpadded name ++ 10 ∷ []

-- the session of this name, which is filled with blanks, has a controller
abbrev pub controlled_line : List ℕ → List ℕ
controlled_line name = codes "CONTROLLED " ++ unpadded name ++ 10 ∷ []

-- the first bad field, or the first byte past the last file, by its offset from the first byte of the first marks file
abbrev pub bad_marks_line : ℕ → List ℕ
bad_marks_line offset = codes "BAD MARKS OFFSET " ++ decimal offset ++ 10 ∷ []

-- a row of a table; a dash where the table has none
abbrev pub row_text : Option (List ℕ) → List ℕ
row_text None = codes "-"
row_text (Some row) = hex_bytes row

-- the first row in which two tables differ
abbrev pub other_table_line : Difference → List ℕ
other_table_line d =
    codes "OTHER TABLE ROW " ++ decimal d.row ++ codes " LEFT " ++ row_text d.left ++ codes " RIGHT " ++ row_text d.right ++ 10 ∷ []

-- the first bad field, or the first byte past the last entry, by its offset from the evidence's first byte
abbrev pub bad_evidence_line : ℕ → List ℕ
bad_evidence_line offset = codes "BAD EVIDENCE OFFSET " ++ decimal offset ++ 10 ∷ []

abbrev pub fact_letter : Fact → List ℕ
fact_letter Ran = codes "R"
fact_letter Went = codes "W"
fact_letter Stayed = codes "S"

-- the first row and fact of which marks, evidence and the session's executions don't agree
abbrev pub refuted_line : ℕ → Fact → List ℕ
refuted_line row fact = codes "REFUTED ROW " ++ decimal row ++ codes " FACT " ++ fact_letter fact ++ 10 ∷ []

-- marks and evidence of so many facts are those of the session of this name
abbrev pub verified_line : List ℕ → ℕ → List ℕ
verified_line name facts = codes "VERIFIED " ++ unpadded name ++ codes " FACTS " ++ decimal facts ++ 10 ∷ []

-- How faults are told: each by a status and a line.

-- a status, and the text that goes with it
pub record RefusalView : Type 0 where
  pub status : ℕ
  pub line : List ℕ

abbrev pub refusal : ℕ → List ℕ → RefusalView
refusal status line = record { status = status; line = line }

-- an input that wasn't read whole
abbrev pub read_refusal : ReadFault → RefusalView
read_refusal read.Failed = refusal 5 read_fault_line
read_refusal read.TooLarge = refusal 4 too_large_input_line
read_refusal read.NoMemory = refusal 7 no_memory_line

-- lines that have no job
abbrev pub jobless_refusal : JobFault → RefusalView
jobless_refusal (fault.BadJob n) = refusal 2 (bad_job_line n)
jobless_refusal (fault.TooLarge what n) = refusal 4 (large_job_line what n)
jobless_refusal fault.NoMemory = refusal 7 no_memory_line

-- of line n of a module's listing
unfoldable pub line_text : List ℕ → List ℕ → ℕ → List ℕ → List ℕ
line_text what name n why = what ++ unpadded name ++ codes " LINE " ++ decimal n ++ why ++ codes "\n"

abbrev pub bad_listing : List ℕ → ℕ → List ℕ → RefusalView
bad_listing name n why = refusal 12 (line_text (codes "BAD LISTING ") name n why)

abbrev pub list_refusal : List ℕ → ListFault → RefusalView
list_refusal name list.NoHeading = bad_listing name 0 (codes " HEADING")
list_refusal name (list.BadObject n) = bad_listing name n (codes " OBJECT")
list_refusal name list.NoMemory = refusal 7 no_memory_line

unfoldable pub code_text : Code → List ℕ
code_text code = hex_bytes (take code.len code.bytes)

-- a listing has six digits for where an instruction stands
unfoldable pub mismatch_text : ℕ → Code → Code → List ℕ
mismatch_text loc listing module' =
    codes " LOC " ++ hex_digits 6 (wrap loc) ++ codes " LISTING " ++ code_text listing ++ codes " MODULE " ++ code_text module'

abbrev pub build_refusal : List ℕ → ℕ → BuildFault → RefusalView
build_refusal name loc (build.Odd n) = bad_listing name n (codes " ODD")
build_refusal name loc (build.Outside n) = bad_listing name n (codes " OUTSIDE")
build_refusal name loc (build.Overlap n) = bad_listing name n (codes " OVERLAP")
build_refusal name loc (build.TooMany n) = refusal 4 (line_text (codes "TOO LARGE PLACES ") name n [])
build_refusal name loc (build.OwnSvc n) = refusal 8 (line_text (codes "OWN SVC ") name n [])
build_refusal name loc (build.Mismatch n a b) = refusal 3 (line_text (codes "MISMATCH ") name n (mismatch_text loc a b))
build_refusal name loc build.NoMemory = refusal 7 no_memory_line

-- listings that have no tables
abbrev pub tables_refusal : TablesFault → RefusalView
tables_refusal (first.List name e) = list_refusal name e
tables_refusal (first.Build name loc e) = build_refusal name loc e
tables_refusal first.NoMemory = refusal 7 no_memory_line

-- What a text and its status make of a sink, which tells what was written before it and after it.

-- what was written to a sink, and its count of faults
pub record SinkChange : Type 0 where
  pub written : Option (List ℕ)
  pub grown : Option (List ℕ)
  pub faults : ℕ
  pub later : ℕ

abbrev pub sink_change : {K : Type 0} → (K → Option (List ℕ)) → (K → ℕ) → K → K → SinkChange
sink_change written faults old new = record { written = written old; grown = written new; faults = faults old; later = faults new }

-- the text was written whole, or its first bytes where the sink failed; its count of faults never falls
abbrev pub IsWritten : ℕ → List ℕ → SinkChange → ℕ → Type 0
IsWritten status text k answer =
    ((answer ≡ status) × Appends k.written k.grown text × (k.faults ≤ k.later))
    ⊎ ((answer ≡ 6) × AppendsSome k.written k.grown text × Rose k.faults k.later)
