-- What the claim of the program says by this crate's clauses.
use Rattle.std.specs.Prelude.{ℕ, ◌+◌, Bool, nat_eq, if◌then◌else◌, Option, None, option_map, List, [], ◌∷◌, Some, ◌++◌, codes, true, false, length, take, drop, zero, suc, nat_le, nat_lt, slice_index, ◌≡◌}
use Rattle.std.specs.List.{find, flat_map, range_with_len}
use Rattle.std.specs.Option.{option_or}
use Rattle.cov_base.specs.Meaning.{FactSet, Visit}
use Rattle.cov_base.specs.declared.facts.Fact.{Fact}
use Rattle.module_area.specs.Meaning.{shows, place_of, fact_count}
use Rattle.module_area.specs.declared.places.Place.{Place}
use Rattle.brk_table.specs.Meaning.{TablesView, first_place, place_count}
use Rattle.task_run.specs.Meaning.{visits_of, solo}
use Rattle.session_book.specs.Meaning.{JobView, TaskView, session_of}
use Rattle.phase_plan.specs.Meaning.{of_task, session_set}
use Rattle.evidence_check.specs.declared.firsts.First.{First}
use Rattle.byteorder.specs.Endian.{big_bytes, big_number}
use Rattle.cov_base.specs.declared.facts.Fact.TheVariants.{Ran, Went, Stayed}
use Rattle.std.specs.Str.{bytes_eq}
use Rattle.marks_file.specs.Meaning.{MarkedView, FieldAt, field}
use Rattle.marks_file.specs.declared.marks.MarkedPlace.{MarkedPlace}
use Rattle.cov_base.specs.declared.limits.TheConstants.{BUDGET_LIMIT}
use Rattle.session_marks.specs.Meaning.{session_marks}

-- The first visit that shows a fact at a place.

-- the visits of a task's run alone, over modules that were never planted
abbrev pub trace_of : JobView → List Place → ℕ → List Visit
trace_of j places t = visits_of (of_task solo j places t).turns

-- the first of task t's visits that shows it
abbrev pub first_in : Place → Fact → ℕ → List Visit → Option First
first_in place f t visits =
    option_map (λ v. record { task = t; before = v.before; subject = v.subject }) (find (shows place f) visits)

-- of the phase's tasks, of which the first here has index n, the first that shows it
abbrev pub first_from : ℕ → List TaskView → ℕ → (ℕ → List Visit) → Place → Fact → Option First
first_from n [] phase trace place f = None
first_from n (t ∷ ts) phase trace place f =
    option_or (if nat_eq t.phase phase then first_in place f n (trace n) else None) (first_from (n + 1) ts phase trace place f)

-- the first visit of the phase's tasks that shows the fact at the place of this number
abbrev pub phase_first : JobView → List Place → ℕ → ℕ → Fact → Option First
phase_first j places phase n f = first_from 0 j.tasks phase (trace_of j places) (place_of places n) f

abbrev pub session_first : JobView → List Place → ℕ → ℕ → Fact → Option First
session_first j places s n f = phase_first j places (session_of j s).phase n f

-- the facts that session s's executions show at the place
abbrev pub session_facts : JobView → List Place → ℕ → ℕ → FactSet
session_facts j places s n = session_set j (trace_of j places) s (place_of places n)

-- The evidence of a session's facts, as bytes. All numbers are big-endian.

abbrev pub evidence_magic : List ℕ
evidence_magic = codes "S370EVD1"

-- 7 bytes: the task's index in the job, the instructions that it had done before, 0 for an instruction or 1 for the
-- subject of an EX
abbrev pub entry_bytes : First → List ℕ
entry_bytes v = big_bytes 2 v.task ++ (big_bytes 4 v.before ++ ((if v.subject then 1 else 0) ∷ []))

-- the entry of a fact that was shown
abbrev pub fact_bytes : Option First → List ℕ
fact_bytes None = []
fact_bytes (Some v) = entry_bytes v

-- the entries of a place's facts in their order
abbrev pub place_entries : (Fact → Option First) → List ℕ
place_entries firsts = fact_bytes (firsts Ran) ++ (fact_bytes (firsts Went) ++ fact_bytes (firsts Stayed))

-- of so many places, of which the first has number n
abbrev pub places_entries : (ℕ → Fact → Option First) → ℕ → ℕ → List ℕ
places_entries firsts n count = flat_map (λ k. place_entries (firsts k)) (range_with_len n count)

-- of module m's places
abbrev pub module_entries : TablesView → (ℕ → Fact → Option First) → ℕ → List ℕ
module_entries tables firsts m = places_entries firsts (first_place tables.tables m) (place_count tables.tables m)

-- of all places of the session's marks, in the order of its marks files, the first visits that show their facts
abbrev pub evidence : JobView → TablesView → ℕ → List ℕ
evidence j tables s = evidence_magic ++ flat_map (module_entries tables (session_first j tables.places s)) (session_of j s).modules

-- What a marks file and evidence claim of each fact at each place, and the first claim that is refuted.

-- how many facts the sets have, which is how many entries belong to them
abbrev pub facts_of_places : List MarkedPlace → ℕ
facts_of_places [] = 0
facts_of_places (p ∷ ps) = fact_count p.set + facts_of_places ps

abbrev pub facts_of_modules : List MarkedView → ℕ
facts_of_modules [] = 0
facts_of_modules (m ∷ ms) = facts_of_places m.places + facts_of_modules ms

-- the row of the table, the fact, and whether file, evidence and job agree on it
pub record Claim : Type 0 where
  pub row : ℕ
  pub fact : Fact
  pub good : Bool

-- The set has the fact exactly where a visit shows it, and the next entry is then that of the first such visit.
abbrev pub agrees : Bool → Option First → List ℕ → Bool
agrees true (Some v) bs = bytes_eq (take 7 bs) (entry_bytes v)
agrees true None bs = false
agrees false (Some v) bs = false
agrees false None bs = true

-- the entries behind those of a fact, of a place and of places
abbrev pub past : Bool → List ℕ → List ℕ
past has bs = if has then drop 7 bs else bs

abbrev pub past_place : FactSet → List ℕ → List ℕ
past_place set bs = past set.stayed (past set.went (past set.ran bs))

abbrev pub past_places : List MarkedPlace → List ℕ → List ℕ
past_places [] bs = bs
past_places (p ∷ ps) bs = past_places ps (past_place p.set bs)

abbrev pub place_claims : ℕ → FactSet → (Fact → Option First) → List ℕ → List Claim
place_claims row set firsts bs =
    record { row = row; fact = Ran; good = agrees set.ran (firsts Ran) bs }
    ∷ record { row = row; fact = Went; good = agrees set.went (firsts Went) (past set.ran bs) }
    ∷ record { row = row; fact = Stayed; good = agrees set.stayed (firsts Stayed) (past set.went (past set.ran bs)) }
    ∷ []

-- of places, the first of which has this row and number n
abbrev pub places_claims : (ℕ → Fact → Option First) → ℕ → ℕ → List MarkedPlace → List ℕ → List Claim
places_claims firsts row n [] bs = []
places_claims firsts row n (p ∷ ps) bs =
    place_claims row p.set (firsts n) bs ++ places_claims firsts (row + 1) (n + 1) ps (past_place p.set bs)

-- of the file's modules, which are these of the job; each has a row of its own before its places
abbrev pub modules_claims : TablesView → (ℕ → Fact → Option First) → ℕ → List MarkedView → List ℕ → List ℕ → List Claim
modules_claims tables firsts row [] ns bs = []
modules_claims tables firsts row (m ∷ ms) [] bs = []
modules_claims tables firsts row (m ∷ ms) (n ∷ ns) bs =
    places_claims firsts (row + 1) (first_place tables.tables n) m.places bs
    ++ modules_claims tables firsts (row + 1 + length m.places) ms ns (past_places m.places bs)

-- of a marks file of session s and evidence
abbrev pub evidence_claims : JobView → TablesView → ℕ → List MarkedView → List ℕ → List Claim
evidence_claims j tables s file bs =
    modules_claims tables (session_first j tables.places s) 0 file (session_of j s).modules (drop 8 bs)

abbrev pub first_refuted : List Claim → Option (ℕ × Fact)
first_refuted [] = None
first_refuted (c ∷ cs) = if c.good then first_refuted cs else Some (c.row, c.fact)

-- What bytes say where evidence is expected: its fields in their order, and the first of them that is bad.

-- of an entry at this offset: a task of the job, a number of instructions that a budget can have, 0 or 1
abbrev pub entry_fields : ℕ → ℕ → List ℕ → List FieldAt
entry_fields tasks at bs =
    field at bs 0 2 (nat_lt (big_number 2 bs) tasks)
    ∷ field at bs 2 4 (nat_lt (big_number 4 (drop 2 bs)) BUDGET_LIMIT)
    ∷ field at bs 6 1 (nat_le (slice_index bs 6) 1)
    ∷ []

-- of so many entries, behind which nothing stands
abbrev pub entries_fields : ℕ → ℕ → ℕ → List ℕ → List FieldAt
entries_fields tasks at zero bs = record { at = at; good = nat_eq (length bs) 0 } ∷ []
entries_fields tasks at (suc n) bs = entry_fields tasks at bs ++ entries_fields tasks (at + 7) n (drop 7 bs)

-- of evidence with so many entries, of a job of so many tasks
abbrev pub evidence_fields : ℕ → ℕ → List ℕ → List FieldAt
evidence_fields tasks count bs = field 0 bs 0 8 (bytes_eq (take 8 bs) evidence_magic) ∷ entries_fields tasks 8 count (drop 8 bs)

-- What it means that marks and evidence are verified.

-- the file has at each place the set of the session's executions, and the bytes are their evidence
pub record IsVerified (j : JobView) (tables : TablesView) (s : ℕ) (file : List MarkedView) (bs : List ℕ) : Type 0 where
  pub sets : file ≡ session_marks j tables (session_facts j tables.places s) s
  pub evidence : bs ≡ evidence j tables s
