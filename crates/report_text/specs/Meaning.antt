-- What the claim of the program says by this crate's clauses.
use Rattle.std.specs.Prelude.{ℕ, zero, suc, ◌+◌, ◌-◌, ◌*◌, ◌/◌, min, List, [], ◌∷◌, ◌++◌, length, slice_range, Bool, true, false, not, ◌&&◌, if◌then◌else◌, None, option_map, unwrap_or, get_or, codes, decimal, Option, Some, take, drop, bytes_eq, is_some, nat_eq}
use Rattle.std.specs.List.{flat_map, range_with_len}
use Rattle.annotator.specs.Meaning.{hex_digits, annotated, mark_byte}
use Rattle.cov_base.specs.Meaning.{FactSet, full_of, mark_of, unpadded, CpuView}
use Rattle.cov_base.specs.declared.marks.Mark.{Mark}
use Rattle.cov_base.specs.declared.marks.Mark.TheVariants.{Text, Not, Done, Branched, Fell, Both}
use Rattle.module_area.specs.Meaning.{fact_count, place_of, first_bytes}
use Rattle.module_area.specs.declared.places.Place.{Place}
use Rattle.brk_table.specs.Meaning.{TablesView, first_place, place_count, place_at_line}
use Rattle.session_book.specs.Meaning.{JobView, TaskView, module_of, session_of, task_of, ResultView}
use Rattle.s370_state.specs.declared.endings.Ending.{Ending}
use Rattle.s370_state.specs.declared.endings.Ending.TheVariants.{Returned, Exit, Abend, BadSvc, Touched, OutFull, Spent}
use Rattle.cov_base.specs.declared.facts.Kind.{Kind}
use Rattle.cov_base.specs.declared.facts.Kind.TheVariants.{Straight, Conditional}
use Rattle.cov_base.specs.declared.facts.Fact.{Fact}
use Rattle.cov_base.specs.declared.facts.Fact.TheVariants.{Ran, Went, Stayed}

-- A text of lines, and bytes in rows.

-- each line, and the byte LF after it
abbrev pub text_of : List (List ℕ) → List ℕ
text_of lines = flat_map (λ line. line ++ 10 ∷ []) lines

-- each byte in two hexadecimal digits
abbrev pub hex_bytes : List ℕ → List ℕ
hex_bytes bytes = flat_map (hex_digits 2) bytes

-- row n of the bytes, so many to a row; the last may be shorter
abbrev pub hexadecimal_row : ℕ → List ℕ → ℕ → List ℕ
hexadecimal_row size bytes n = slice_range bytes (size * n) (min (size * n + size) (length bytes))

abbrev pub row_count : ℕ → List ℕ → ℕ
row_count size bytes = (length bytes + (size - 1)) / size

-- the lines of number n, of the next one, and so on, for so many numbers
abbrev pub lines_from : (ℕ → List (List ℕ)) → ℕ → ℕ → List (List ℕ)
lines_from lines n count = flat_map lines (range_with_len n count)

-- likewise the sum of what they have
abbrev pub sum_from : (ℕ → ℕ) → ℕ → ℕ → ℕ
sum_from amount n zero = 0
sum_from amount n (suc count) = amount n + sum_from amount (n + 1) count

-- What a report says of a session.

-- none of the facts
abbrev pub lacks : FactSet → Bool
lacks set = not set.ran && (not set.went && not set.stayed)

-- within its module, of the place's first byte and of its last one
abbrev pub location_of : JobView → Place → ℕ
location_of job p = p.at - (module_of job p.module).base

abbrev pub last_byte_of : JobView → Place → ℕ
last_byte_of job p = location_of job p + p.len - 1

-- the mark of line k of module m's listing is that of its place; a text line has none
abbrev pub line_mark : TablesView → (ℕ → FactSet) → ℕ → ℕ → Mark
line_mark tables sets m k =
    unwrap_or (option_map (λ n. mark_of (place_of tables.places n).kind (sets n)) (place_at_line tables.tables m k)) Text

-- each of these lines of its listing with its mark; they number from 1
abbrev pub marked_lines : TablesView → (ℕ → FactSet) → ℕ → List (List ℕ) → List (List ℕ)
marked_lines tables sets m lines =
    lines_from (λ i. annotated (line_mark tables sets m (i + 1)) (get_or lines i []) ∷ []) 0 (length lines)

-- its whole listing, if it has one
abbrev pub marked_listing : JobView → TablesView → (ℕ → FactSet) → ℕ → List (List ℕ)
marked_listing job tables sets m = marked_lines tables sets m (unwrap_or (get_or job.listings m None) [])

-- the last byte of a run that has come to the byte `last`, and goes on as long as places from n on lack facts
abbrev pub run_end : JobView → List Place → (ℕ → FactSet) → ℕ → ℕ → ℕ → ℕ
run_end job places sets last n zero = last
run_end job places sets last n (suc count) =
    if lacks (sets n) then run_end job places sets (last_byte_of job (place_of places n)) (n + 1) count else last

unfoldable pub run_line : ℕ → ℕ → List ℕ
run_line first last = codes "NOT EXECUTED " ++ hex_digits 6 first ++ codes "-" ++ hex_digits 6 last

-- the longest runs of places without facts, of so many places from n on: a run begins at a place that lacks facts
-- where the one before it, if any, has some
abbrev pub run_lines : JobView → List Place → (ℕ → FactSet) → Bool → ℕ → ℕ → List (List ℕ)
run_lines job places sets before n zero = []
run_lines job places sets before n (suc count) =
    if lacks (sets n) then (if before then run_lines job places sets true (n + 1) count else
    run_line (location_of job (place_of places n)) (run_end job places sets (last_byte_of job (place_of places n)) (n + 1) count)
    ∷ run_lines job places sets true (n + 1) count)
    else run_lines job places sets false (n + 1) count

-- of so many places from number n on: those with a fact, the facts, and the facts that there can be
abbrev pub executed_count : (ℕ → FactSet) → ℕ → ℕ → ℕ
executed_count sets n count = sum_from (λ k. if lacks (sets k) then 0 else 1) n count

abbrev pub shown_count : (ℕ → FactSet) → ℕ → ℕ → ℕ
shown_count sets n count = sum_from (λ k. fact_count (sets k)) n count

abbrev pub possible_count : List Place → ℕ → ℕ → ℕ
possible_count places n count = sum_from (λ k. fact_count (full_of (place_of places k).kind)) n count

-- places, places with a fact, facts, and facts that there can be
unfoldable pub totals_line : List ℕ → ℕ → ℕ → ℕ → ℕ → List ℕ
totals_line name count executed facts possible =
    codes "MODULE " ++ unpadded name ++ codes " PLACES " ++ decimal count ++ codes " EXECUTED " ++ decimal executed
    ++ codes " FACTS " ++ decimal facts ++ codes " OF " ++ decimal possible

-- of module m, by the session's sets at its places: their totals, its listing if it has one, and the runs without facts
unfoldable pub module_lines : JobView → TablesView → (ℕ → FactSet) → ℕ → List (List ℕ)
module_lines job tables sets m =
    let first : ℕ = first_place tables.tables m in
    let count : ℕ = place_count tables.tables m in
    totals_line (module_of job m).name count (executed_count sets first count) (shown_count sets first count)
    (possible_count tables.places first count)
    ∷ (marked_listing job tables sets m ++ run_lines job tables.places sets false first count)

unfoldable pub session_line : List ℕ → List ℕ → List ℕ
session_line name phase = codes "SESSION " ++ unpadded name ++ codes " PHASE " ++ unpadded phase

-- of session s, which numbers from 1: its names, and these lines of each of its modules, in the order of its card
abbrev pub session_lines : JobView → (ℕ → List (List ℕ)) → ℕ → List (List ℕ)
session_lines job lines s =
    session_line (session_of job s).name (get_or job.phases (session_of job s).phase []) ∷ flat_map lines (session_of job s).modules

-- What a report says of a task.

-- a task that hasn't ended is running
unfoldable pub ending_words : Option Ending → List ℕ
ending_words None = codes "RUNNING"
ending_words (Some Returned) = codes "RETURNED"
ending_words (Some Exit) = codes "EXIT"
ending_words (Some (Abend code)) = codes "ABEND " ++ hex_digits 1 code
ending_words (Some (BadSvc number)) = codes "BADSVC " ++ decimal number
ending_words (Some (Touched at)) = codes "TOUCHED " ++ hex_digits 6 at
ending_words (Some OutFull) = codes "OUTFULL"
ending_words (Some Spent) = codes "SPENT"

-- its name, its ending and the instructions done
unfoldable pub task_words : List ℕ → Option Ending → ℕ → List ℕ
task_words name ending done = codes "TASK " ++ unpadded name ++ codes " " ++ ending_words ending ++ codes " COUNT " ++ decimal done

-- a label and registers, each after a blank
unfoldable pub register_line : List ℕ → List ℕ → List ℕ
register_line label regs = label ++ flat_map (λ r. codes " " ++ hex_digits 8 r) regs

-- that with the condition code, and the registers, eight to a line
unfoldable pub state_lines : List ℕ → Option Ending → ℕ → CpuView → List (List ℕ)
state_lines name ending done cpu =
    (task_words name ending done ++ codes " CC " ++ decimal cpu.condition)
    ∷ register_line (codes "R0") (take 8 cpu.regs) ∷ register_line (codes "R8") (drop 8 cpu.regs) ∷ []

-- the bytes of output, 32 to a line, and before them how many there are
abbrev pub output_rows : List ℕ → List (List ℕ)
output_rows output = lines_from (λ n. hex_bytes (hexadecimal_row 32 output n) ∷ []) 0 (row_count 32 output)

unfoldable pub output_lines : List ℕ → List (List ℕ)
output_lines output = (codes "OUT " ++ decimal (length output)) ∷ output_rows output

-- an address of private storage and the bytes there, where they differ from the first ones
unfoldable pub row_lines : ℕ → List ℕ → List ℕ → List (List ℕ)
row_lines at first now = if bytes_eq first now then [] else (codes "STOR " ++ hex_digits 6 at ++ codes " " ++ hex_bytes now) ∷ []

-- of row n, where it has changed
abbrev pub changed_row : List ℕ → List ℕ → ℕ → List (List ℕ)
changed_row first now n = row_lines (16 * n) (hexadecimal_row 16 first n) (hexadecimal_row 16 now n)

-- the changed rows of 16 bytes
unfoldable pub storage_lines : List ℕ → List ℕ → List (List ℕ)
storage_lines first now = lines_from (changed_row first now) 0 (row_count 16 now)

-- against those that the task's card gives
abbrev pub stored_lines : TaskView → ResultView → List (List ℕ)
stored_lines t r = storage_lines (first_bytes t.private t.cards) r.bytes

abbrev pub task_lines : TaskView → ResultView → List (List ℕ)
task_lines t r = state_lines t.name r.ending r.done r.cpu ++ (output_lines r.output ++ stored_lines t r)

-- The whole report.

-- of task t, which numbers from 0
abbrev pub task_part : JobView → (ℕ → ResultView) → ℕ → List (List ℕ)
task_part job results t = task_lines (task_of job t) (results t)

abbrev pub session_part : JobView → TablesView → (ℕ → ℕ → FactSet) → ℕ → List (List ℕ)
session_part job tables sets s = session_lines job (module_lines job tables (sets s)) s

-- in the order of the job, the tasks' parts, and these lines of each session, and the last line
abbrev pub task_parts : JobView → (ℕ → ResultView) → List (List ℕ)
task_parts job results = lines_from (task_part job results) 0 (length job.tasks)

abbrev pub job_lines : JobView → (ℕ → ResultView) → (ℕ → List (List ℕ)) → List (List ℕ)
job_lines job results lines = task_parts job results ++ (lines_from lines 1 (length job.sessions) ++ (codes "END" ∷ []))

abbrev pub result_lines : JobView → TablesView → (ℕ → ResultView) → (ℕ → ℕ → FactSet) → List (List ℕ)
result_lines job tables results sets = job_lines job results (session_part job tables sets)

abbrev pub report_of : JobView → TablesView → (ℕ → ResultView) → (ℕ → ℕ → FactSet) → List ℕ
report_of job tables results sets = text_of (codes "COVERAGE REPORT" ∷ result_lines job tables results sets)

-- The places of the monitored modules as a text.

abbrev pub kind_letter : Kind → List ℕ
kind_letter Straight = codes "S"
kind_letter Conditional = codes "C"

-- of a place by its location: the length, the kind and the original halfword
unfoldable pub place_line : ℕ → Place → List ℕ
place_line location p =
    codes "PLACE " ++ hex_digits 6 location ++ codes " " ++ decimal p.len ++ codes " " ++ kind_letter p.kind ++ codes " "
    ++ hex_digits 4 p.original

unfoldable pub module_line : List ℕ → ℕ → List ℕ
module_line name count = codes "MODULE " ++ unpadded name ++ codes " PLACES " ++ decimal count

-- of module m: its name, how many places it has, and this line of each place, in the order of their numbers
abbrev pub module_places : JobView → TablesView → (ℕ → Place → List ℕ) → ℕ → List (List ℕ)
module_places job tables line m =
    module_line (module_of job m).name (place_count tables.tables m)
    ∷ lines_from (λ n. line n (place_of tables.places n) ∷ []) (first_place tables.tables m) (place_count tables.tables m)

-- a module is monitored where it has a listing
abbrev pub is_monitored : JobView → ℕ → Bool
is_monitored job m = is_some (get_or job.listings m None)

abbrev pub place_lines : JobView → TablesView → ℕ → List (List ℕ)
place_lines job tables m = module_places job tables (λ n p. place_line (location_of job p) p) m

abbrev pub table_part : JobView → TablesView → ℕ → List (List ℕ)
table_part job tables m = if is_monitored job m then place_lines job tables m else []

-- modules in the order of the job
abbrev pub table_parts : JobView → TablesView → List (List ℕ)
table_parts job tables = lines_from (table_part job tables) 0 (length job.images)

abbrev pub table_text : JobView → TablesView → List ℕ
table_text job tables = text_of (codes "COVERAGE TABLE" ∷ (table_parts job tables ++ (codes "END" ∷ [])))

-- The text of a count.

-- how often it ran, or branched and fell through
unfoldable pub fact_counts : Kind → (Fact → ℕ) → List ℕ
fact_counts Straight counts = codes " " ++ decimal (counts Ran)
fact_counts Conditional counts = (codes " " ++ decimal (counts Went)) ++ (codes " " ++ decimal (counts Stayed))

-- of a place by its location
unfoldable pub count_line : ℕ → Kind → (Fact → ℕ) → List ℕ
count_line location kind counts = codes "COUNT " ++ hex_digits 6 location ++ fact_counts kind counts

-- of module m, by the session's counts at its places
abbrev pub module_counts : JobView → TablesView → (ℕ → Fact → ℕ) → ℕ → List (List ℕ)
module_counts job tables counts m = module_places job tables (λ n p. count_line (location_of job p) p.kind (counts n)) m

abbrev pub session_counts : JobView → TablesView → (ℕ → ℕ → Fact → ℕ) → ℕ → List (List ℕ)
session_counts job tables counts s = session_lines job (module_counts job tables (counts s)) s

abbrev pub count_text : JobView → TablesView → (ℕ → ResultView) → (ℕ → ℕ → Fact → ℕ) → List ℕ
count_text job tables results counts = text_of (codes "COVERAGE COUNT" ∷ job_lines job results (session_counts job tables counts))

-- What is said of a generated job that was run.

-- how many of the places bear the mark's character, by the sets that a session has there
abbrev pub mark_count : Mark → List Place → (ℕ → FactSet) → ℕ
mark_count mark places sets =
    sum_from (λ n. if nat_eq (mark_byte mark) (mark_byte (mark_of (place_of places n).kind (sets n))) then 1 else 0) 0
    (length places)

-- the job's number, and how many tasks it has
unfoldable pub trial_line : ℕ → ℕ → List ℕ
trial_line number tasks = codes "COVERAGE TRIAL " ++ decimal number ++ codes " TASKS " ++ decimal tasks

unfoldable pub amount_line : ℕ → ℕ → List ℕ
amount_line places instructions = codes "PLACES " ++ decimal places ++ codes " INSTRUCTIONS " ++ decimal instructions

-- how many places bear each of the marks `^`, `:`, `>`, `V` and `&`
unfoldable pub mark_line : ℕ → ℕ → ℕ → ℕ → ℕ → List ℕ
mark_line not executed branched fell both =
    codes "MARKS NOT " ++ decimal not ++ codes " EXECUTED " ++ decimal executed ++ codes " BRANCHED " ++ decimal branched
    ++ codes " FELL " ++ decimal fell ++ codes " BOTH " ++ decimal both

-- by the sets of session 1, which is all that the job has
abbrev pub trial_text : ℕ → ℕ → List Place → (ℕ → ResultView) → (ℕ → ℕ → FactSet) → List ℕ
trial_text number tasks places results sets =
    let marked : Mark → ℕ = λ mark. mark_count mark places (sets 1) in
    text_of (trial_line number tasks ∷ amount_line (length places) (sum_from (λ t. (results t).done) 0 tasks)
    ∷ mark_line (marked Not) (marked Done) (marked Branched) (marked Fell) (marked Both) ∷ [])
