-- What the claim of the program says by this crate's clauses.
use Rattle.refusals.specs.Meaning.{bad_schedule_line, no_session_line, controlled_line, bad_marks_line, other_table_line, bad_evidence_line, refuted_line, verified_line, refusal, jobless_refusal, tables_refusal, RefusalView}
use Rattle.std.specs.Prelude.{ℕ, List, Option, Bool, true, if◌then◌else◌, Some, None, [], ◌∷◌, ◌++◌, bytes_eq, codes, ◌≡◌, ◌+◌, IsSome, length, drop, ◌≢◌, ◌<◌}
use Rattle.cov_base.specs.Meaning.{FactSet}
use Rattle.cov_base.specs.declared.facts.Fact.{Fact}
use Rattle.job_answers.specs.declared.asked.Wanted.{Wanted}
use Rattle.job_answers.specs.declared.asked.Asked.{Asked}
use Rattle.job_answers.specs.declared.asked.Asked.TheVariants.{AnyJob, WithSession, AllWhole}
use Rattle.report_text.specs.Meaning.{text_of, session_part}
use Rattle.marks_file.specs.Meaning.{Difference, first_difference, IsCombined, IsBad, IsOtherTable, MarkedView, MarksView, keeps_rules, HasFile, rows, file_bytes, first_bad, file_fields}
use Rattle.session_book.specs.Meaning.{JobView, SessionView, session_of, is_whole}
use Rattle.brk_table.specs.Meaning.{TablesView}
use Rattle.job_input.specs.Meaning.{HasJob, IsJobFault, job_fault}
use Rattle.job_input.specs.declared.form.Form.{Form}
use Rattle.job_text.specs.Meaning.{lines_of}
use Rattle.evidence_check.specs.Meaning.{facts_of_modules, evidence_claims, first_refuted, evidence_fields, IsVerified}
use Rattle.session_marks.specs.Meaning.{session_rows, session_marks}
use Rattle.marks_file.specs.declared.version.Version.TheVariants.{Second}
use Rattle.job_input.specs.declared.table_faults.TablesFault.{TablesFault}
use Rattle.job_text.specs.declared.jobs.JobFault.{JobFault}
use Rattle.job_text.specs.declared.jobs.JobFault.TheVariants as fault
use Rattle.schedule_play.specs.Meaning.{Play, Bad, Whole, replay_text}

-- The session of a name, and those that have a controller.

abbrev pub asks_session : List ℕ → Bool → Asked
asks_session name whole = WithSession (record { name = name; whole = whole })

-- the number of the first of these sessions that has the name, counted on from n
abbrev pub number_from : ℕ → List SessionView → List ℕ → Option ℕ
number_from n [] name = None
number_from n (s ∷ ss) name = if bytes_eq s.name name then Some n else number_from (n + 1) ss name

abbrev pub session_number : JobView → List ℕ → Option ℕ
session_number j name = number_from 1 j.sessions name

-- the number of the first of these sessions that has a controller, counted on from n
abbrev pub first_controlled_from : ℕ → List SessionView → Option ℕ
first_controlled_from n [] = None
first_controlled_from n (s ∷ ss) = if is_whole s then first_controlled_from (n + 1) ss else Some n

abbrev pub first_controlled : JobView → Option ℕ
first_controlled j = first_controlled_from 1 j.sessions

-- the session of this number, if any, where it has a controller
abbrev pub if_controlled : JobView → Option ℕ → Option ℕ
if_controlled j None = None
if_controlled j (Some s) = if is_whole (session_of j s) then None else Some s

-- the session that has a controller where none may: the one that was named, or the job's first
abbrev pub controlled_asked : Asked → JobView → Option ℕ
controlled_asked AnyJob j = None
controlled_asked (WithSession wanted) j = if wanted.whole then if_controlled j (session_number j wanted.name) else None
controlled_asked AllWhole j = first_controlled j

-- where a session is named the job has it
abbrev pub HasNamed : Asked → JobView → Type 0
HasNamed (WithSession wanted) j = IsSome (session_number j wanted.name)
HasNamed asked j = Unit {0}

-- the job's sessions are as is asked
pub record HasAsked (asked : Asked) (j : JobView) : Type 0 where
  pub named : HasNamed asked j
  pub free : controlled_asked asked j ≡ None

-- A job as a command takes it, and why bytes have none.

-- a job, its tables, the number of the session that is named, how many lines the job has, and the bytes behind these
pub record ReadyView : Type 0 where
  pub job : JobView
  pub tables : TablesView
  pub number : ℕ
  pub lines : ℕ
  pub rest : List ℕ

-- why bytes have no job of which this is so, and how that is told; of the sessions with a controller that may have none it is
-- the one that was named, or the first
pub data IsRefused (form : Form) (asked : Asked) (bytes : List ℕ) (r : RefusalView) : Type 0 where
  Jobless : (e : JobFault) → IsJobFault form bytes e → e ≢ fault.NoMemory → r ≡ jobless_refusal e → IsRefused form asked bytes r
  NoSession : (j : JobView) (wanted : Wanted) → HasJob form (lines_of bytes) j → asked ≡ WithSession wanted
      → session_number j wanted.name ≡ None → r ≡ refusal 13 (no_session_line wanted.name) → IsRefused form asked bytes r
  Controlled : (j : JobView) (number : ℕ) → HasJob form (lines_of bytes) j → controlled_asked asked j ≡ Some number
      → r ≡ refusal 14 (controlled_line (session_of j number).name) → IsRefused form asked bytes r
  BadListing : (j : JobView) (e : TablesFault) → HasJob form (lines_of bytes) j → HasAsked asked j → job_fault j ≡ Some e
      → r ≡ tables_refusal e → IsRefused form asked bytes r

-- What the program makes of marks files and evidence.

-- a marks file of these modules, of either version, whatever name and runs it tells, from the first byte to this end
pub record BeginsWith (bytes : List ℕ) (modules : List MarkedView) (end : ℕ) : Type 0 where
  pub marks : MarksView
  pub rules : keeps_rules marks ≡ true
  pub file : HasFile 0 bytes marks end
  pub are : marks.modules ≡ modules

-- the files are of one table, and the text is the file of their union; or the first bad field, or the first row that differs
pub data IsUnited (bytes : List ℕ) (status : ℕ) (text : List ℕ) : Type 0 where
  United : (marks : MarksView) → IsCombined bytes marks → status ≡ 0 → text ≡ file_bytes Second marks → IsUnited bytes status text
  BadFile : (offset : ℕ) → IsBad bytes offset → status ≡ 10 → text ≡ bad_marks_line offset → IsUnited bytes status text
  OtherFile : (d : Difference) → IsOtherTable bytes d → status ≡ 11 → text ≡ other_table_line d → IsUnited bytes status text

-- the first bad field, or the first byte past a file
pub data IsNoFile (rest : List ℕ) (offset : ℕ) : Type 0 where
  BadField : first_bad (file_fields 0 rest) ≡ Some offset → IsNoFile rest offset
  Past : (modules : List MarkedView) → BeginsWith rest modules offset → offset < length rest → IsNoFile rest offset

-- the annotated listings of a session by these sets of its places
abbrev pub show_text : JobView → TablesView → (ℕ → FactSet) → ℕ → List ℕ
show_text j tables sets s = text_of (codes "COVERAGE SHOW" ∷ (session_part j tables (λ n. sets) s ++ (codes "END" ∷ [])))

-- one marks file stands behind the job, and the text shows its sets; or none does; or its table, on the right, differs from the
-- session's
pub data IsShown (r : ReadyView) (status : ℕ) (text : List ℕ) : Type 0 where
  Shown : (sets : ℕ → FactSet) → BeginsWith r.rest (session_marks r.job r.tables sets r.number) (length r.rest) → status ≡ 0
      → text ≡ show_text r.job r.tables sets r.number → IsShown r status text
  Fileless : (offset : ℕ) → IsNoFile r.rest offset → status ≡ 10 → text ≡ bad_marks_line offset → IsShown r status text
  OtherShown : (modules : List MarkedView) (d : Difference) → BeginsWith r.rest modules (length r.rest)
      → first_difference 0 (session_rows r.job r.tables r.number) (rows modules) ≡ Some d → status ≡ 11 → text ≡ other_table_line d
      → IsShown r status text

-- by the first row that differs, the first bad field of the evidence, the first claim that is refuted, and how many facts there are
abbrev pub judged_by : List ℕ → Option Difference → Option ℕ → Option (ℕ × Fact) → ℕ → RefusalView
judged_by name (Some d) bad refuted facts = refusal 11 (other_table_line d)
judged_by name None (Some offset) refuted facts = refusal 15 (bad_evidence_line offset)
judged_by name None None (Some claim) facts = refusal 16 (refuted_line claim.0 claim.1)
judged_by name None None None facts = refusal 0 (verified_line name facts)

-- of a marks file of these modules and bytes that stand where its evidence should, for session s of that name
abbrev pub judged : List ℕ → JobView → TablesView → ℕ → List MarkedView → List ℕ → RefusalView
judged name j tables s modules bytes =
    judged_by name (first_difference 0 (session_rows j tables s) (rows modules))
    (first_bad (evidence_fields (length j.tasks) (facts_of_modules modules) bytes))
    (first_refuted (evidence_claims j tables s modules bytes)) (facts_of_modules modules)

-- of the bytes behind a job, which begin with a marks file or with none; behind it is the evidence
pub data IsVerdict (name : List ℕ) (j : JobView) (tables : TablesView) (s : ℕ) (rest : List ℕ) (v : RefusalView) : Type 0 where
  NoStart : (offset : ℕ) → first_bad (file_fields 0 rest) ≡ Some offset → v ≡ refusal 10 (bad_marks_line offset)
      → IsVerdict name j tables s rest v
  OfFile : (modules : List MarkedView) (end : ℕ) → BeginsWith rest modules end → v ≡ judged name j tables s modules (drop end rest)
      → IsVerdict name j tables s rest v

-- a marks file with exactly the sets of the session's executions, and behind it exactly their evidence
pub record HasVerified (j : JobView) (tables : TablesView) (s : ℕ) (rest : List ℕ) : Type 0 where
  pub modules : List MarkedView
  pub end : ℕ
  pub file : BeginsWith rest modules end
  pub verified : IsVerified j tables s modules (drop end rest)

-- What it makes of a schedule.

-- the whole schedule is possible, and the text tells it; or its first line that is no item, or none that is possible there
abbrev pub IsPlayed : ReadyView → Play → ℕ → List ℕ → Type 0
IsPlayed r (Whole core played) status text = (status ≡ 0) × (text ≡ replay_text r.job r.tables core played)
IsPlayed r (Bad line) status text = (status ≡ 9) × (text ≡ bad_schedule_line line)
