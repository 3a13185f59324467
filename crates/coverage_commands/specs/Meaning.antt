-- What the claim of the program says by this crate's clauses.
use Rattle.refusals.specs.Meaning.{SinkChange, sink_change, IsWritten, usage_line, no_memory_line, refusal, read_refusal}
use Rattle.job_answers.specs.Meaning.{session_number, asks_session, HasAsked, ReadyView, IsRefused, IsUnited, IsShown, IsVerdict, HasVerified, IsPlayed}
use Rattle.run_reports.specs.Meaning.{AreasChange, areas_change, Reports, IsEarlyReport, IsMarksText}
use Rattle.std.specs.Prelude.{ℕ, List, Bool, true, false, Some, None, ◌≡◌, ◌≤◌, length, drop, ◌≢◌, ◌<◌, ◌⊎◌, String, map, string_bytes}
use Rattle.job_input.specs.Meaning.{command_of, SourceChange, CameWhole, HasJob, to_end, to_go_on, input_limit, IsReadFault, source_change, Match, job_fault}
use Rattle.cov_outside.specs.declared.streams.Sink as sink
use Rattle.cov_outside.specs.declared.streams.Source as source
use Rattle.module_area.specs.declared.areas.Areas as areas
use Rattle.job_run.specs.Meaning.{result_by}
use Rattle.cov_base.specs.declared.facts.Fact.{Fact}
use Rattle.job_answers.specs.declared.asked.Wanted.{Wanted}
use Rattle.job_answers.specs.declared.asked.Asked.{Asked}
use Rattle.job_answers.specs.declared.asked.Asked.TheVariants.{AnyJob, WithSession, AllWhole}
use Rattle.job_input.specs.declared.words.Command.{Command}
use Rattle.job_input.specs.declared.words.Command.TheVariants.{Run, Exits, Early, Count, Marks, Trial, Table, Ends, Replay, Combine, Show, Prove, Verify, Unknown}
use Rattle.report_text.specs.Meaning.{report_of, count_text, trial_text, table_text}
use Rattle.task_services.specs.Meaning.{with_exits, course_of}
use Rattle.task_run.specs.Meaning.{solo}
use Rattle.session_book.specs.Meaning.{JobView, ResultView}
use Rattle.brk_table.specs.Meaning.{TablesView}
use Rattle.job_input.specs.declared.form.Form.{Form}
use Rattle.job_text.specs.Meaning.{lines_of}
use Rattle.job_text.specs.declared.grammar.Grammar.{Grammar}
use Rattle.job_text.specs.declared.grammar.Grammar.TheVariants.{Plain}
use Rattle.evidence_check.specs.Meaning.{evidence}
use Rattle.cov_outside.specs.declared.whole.ReadFault.{ReadFault}
use Rattle.count_session.specs.Meaning.{session_count}
use Rattle.job_gen.specs.Meaning.{trial_job}
use Rattle.cov_outside.specs.Meaning.{Rose}
use Rattle.interleave_core.specs.Meaning.{Parts}
use Rattle.task_ends.specs.Meaning.{end_of, unlisted_of, ends_text}
use Rattle.schedule_play.specs.declared.playing.Played.{Played}
use Rattle.schedule_play.specs.Meaning.{Whole, play_of, IsRun}

-- What a command reads and makes.

pub record Way : Type 0 where
  -- it reads the source to its end
  pub reads_input : Bool
  -- its input has a job in this form, of whose sessions this is asked
  pub reads_job : Bool
  pub form : Form
  pub asked : Asked
  -- it runs tasks over areas
  pub makes_areas : Bool

-- it reads a job of this grammar and nothing behind it, and asks for no session
abbrev pub on_a_job : Grammar → Way
on_a_job g = record { reads_input = true; reads_job = true; form = to_end g; asked = AnyJob; makes_areas = false }

abbrev pub of_a_run : Grammar → Way
of_a_run g = record (on_a_job g) { makes_areas = true }

abbrev pub way_of : Command → Way
way_of (Run g) = of_a_run g
way_of Exits = of_a_run Plain
way_of Early = of_a_run Plain
way_of (Marks name g) = record (of_a_run g) { asked = asks_session name false }
way_of (Trial number tasks) = record (of_a_run Plain) { reads_input = false; reads_job = false }
way_of (Count g) = record (on_a_job g) { asked = AllWhole }
way_of (Table g) = on_a_job g
way_of (Ends g) = on_a_job g
way_of Replay = record (on_a_job Plain) { form = to_go_on Plain }
way_of (Show name g) = record (on_a_job g) { form = to_go_on g; asked = asks_session name false }
way_of (Prove name) = record (on_a_job Plain) { asked = asks_session name true }
way_of (Verify name) = record (on_a_job Plain) { form = to_go_on Plain; asked = asks_session name true }
way_of Combine = record (on_a_job Plain) { reads_job = false }
way_of Unknown = record (on_a_job Plain) { reads_input = false; reads_job = false }

-- A job as a command takes it.

-- the bytes have this job, its sessions are as the command asks, and its listings match; no two texts have the same lines, so
-- `rest` is what stands behind it
pub record IsReady (c : Command) (bytes : List ℕ) (r : ReadyView) : Type 0 where
  pub reads : (way_of c).reads_job ≡ true
  pub has : HasJob (way_of c).form (lines_of bytes) r.job
  pub asked : HasAsked (way_of c).asked r.job
  pub named : (wanted : Wanted) → (way_of c).asked ≡ WithSession wanted → session_number r.job wanted.name ≡ Some r.number
  pub match : Match r.job r.tables
  pub lines : r.lines ≡ has.count
  pub behind : (way_of c).form.more ≡ true → lines_of r.rest ≡ drop r.lines (lines_of bytes)

-- the bytes have a job and behind it marks and evidence of its session of this name, which has no controller: exactly the sets
-- of its executions, and exactly the first visits that show them
pub record HoldsTrue (name bytes : List ℕ) : Type 0 where
  pub ready : ReadyView
  pub few : length bytes ≤ input_limit
  pub is : IsReady (Verify name) bytes ready
  pub has : HasVerified ready.job ready.tables ready.number ready.rest

-- What a count and a run come to.

-- The text tells of these results and counts. The results are those of each task's run with the job's services, and the count
-- of a fact at a place of a session is how many begun visits of its executions there give it.
pub record Counts (j : JobView) (tables : TablesView) (text : List ℕ) : Type 0 where
  pub results : ℕ → ResultView
  pub counts : ℕ → ℕ → Fact → ℕ
  pub are_results : (t : ℕ) → t < length j.tasks → results t ≡ result_by (course_of j.services) j tables.places t
  pub are_counts : (s p : ℕ) (f : Fact) → 0 < s → s ≤ length j.sessions → p < length tables.places
      → counts s p f ≡ session_count j tables.places s p f
  pub is_text : text ≡ count_text j tables results counts

-- what a command that runs a job's tasks over areas writes: the report, the marks of a session, or the summary of a generated
-- job; `run` and `marks` run them with the job's services
abbrev pub IsRunText : Command → ReadyView → AreasChange → List ℕ → Type 0
IsRunText (Run g) r a text = Reports (course_of r.job.services) r.job r.tables a (report_of r.job r.tables) text
IsRunText Exits r a text = Reports with_exits r.job r.tables a (report_of r.job r.tables) text
IsRunText Early r a text = IsEarlyReport r.job r.tables a text
IsRunText (Marks name g) r a text = IsMarksText (course_of r.job.services) r.job r.tables r.number a text
IsRunText (Trial number tasks) r a text = Reports solo r.job r.tables a (trial_text number tasks r.tables.places) text
IsRunText c r a text = ⊥

-- What the program answers: its status and text, by the words and the bytes that came.

-- what all other commands answer that read a job
abbrev pub IsAnswerOf : Command → ReadyView → ℕ → List ℕ → Type 0
IsAnswerOf (Table g) r status text = (status ≡ 0) × (text ≡ table_text r.job r.tables)
IsAnswerOf (Ends g) r status text =
    (status ≡ 0) × (text ≡ ends_text r.job (end_of r.job r.tables.places) (unlisted_of r.job r.tables.places))
IsAnswerOf (Count g) r status text = (status ≡ 0) × Counts r.job r.tables text
IsAnswerOf (Prove name) r status text = (status ≡ 0) × (text ≡ evidence r.job r.tables r.number)
IsAnswerOf (Show name g) r status text = IsShown r status text
IsAnswerOf (Verify name) r status text = IsVerdict name r.job r.tables r.number r.rest (refusal status text)
IsAnswerOf Replay r status text = IsPlayed r (play_of r.job r.tables.places r.lines (lines_of r.rest)) status text
IsAnswerOf c r status text = ⊥

-- what the bytes have for an answer that no areas are made for
pub data IsAnswer (c : Command) (bytes : List ℕ) (status : ℕ) (text : List ℕ) : Type 0 where
  Refused : (way_of c).reads_job ≡ true → IsRefused (way_of c).form (way_of c).asked bytes (refusal status text)
      → IsAnswer c bytes status text
  OfFiles : c ≡ Combine → IsUnited bytes status text → IsAnswer c bytes status text
  OfJob : (r : ReadyView) → IsReady c bytes r → IsAnswerOf c r status text → IsAnswer c bytes status text

-- the bytes have a job and behind it a schedule that is played to its end: what that comes to is a run of the core, which stands
-- as it does after every list of events
pub record IsPlayedRun (bytes : List ℕ) : Type 0 where
  pub ready : ReadyView
  pub is : IsReady Replay bytes ready
  pub core : Parts
  pub played : List Played
  pub plays : play_of ready.job ready.tables.places ready.lines (lines_of ready.rest) ≡ Whole core played
  pub run : IsRun (record { job = ready.job; places = ready.tables.places }) core

-- what holds besides where the answer is 0: `verify` has verified nothing else, and `replay` has played on the core
abbrev pub HoldsBesides : Command → List ℕ → Type 0
HoldsBesides (Verify name) bytes = HoldsTrue name bytes
HoldsBesides Replay bytes = IsPlayedRun bytes
HoldsBesides c bytes = Unit {0}

-- nothing was read
abbrev pub IsUnread : SourceChange → Type 0
IsUnread s = (s.rest ≡ s.left) × (s.later ≡ s.faults)

-- a job came that is ready for the command, or it has made its own
pub data ComesReady (c : Command) (s : SourceChange) (r : ReadyView) : Type 0 where
  Read : (bytes : List ℕ) → CameWhole s bytes → IsReady c bytes r → ComesReady c s r
  Made : (number tasks : ℕ) → c ≡ Trial number tasks → IsUnread s → r.job ≡ trial_job number tasks → Match r.job r.tables
      → ComesReady c s r

-- why the call answers so, whether or not the text could be written; only a run, or want of memory in one, has made an area
pub data IsCause (c : Command) (s : SourceChange) (a : AreasChange) (status : ℕ) (text : List ℕ) : Type 0 where
  Usage : c ≡ Unknown → IsUnread s → status ≡ 1 → text ≡ usage_line → a.after ≡ a.before → IsCause c s a status text
  Unread : (e : ReadFault) → (way_of c).reads_input ≡ true → IsReadFault s e → refusal status text ≡ read_refusal e
      → a.after ≡ a.before → IsCause c s a status text
  Came : (bytes : List ℕ) → CameWhole s bytes → IsAnswer c bytes status text → (status ≡ 0 → HoldsBesides c bytes)
      → a.after ≡ a.before → IsCause c s a status text
  Finished : (r : ReadyView) → ComesReady c s r → status ≡ 0 → IsRunText c r a text → IsCause c s a status text
  NoMemoryToRun : (r : ReadyView) → ComesReady c s r → (way_of c).makes_areas ≡ true → status ≡ 7 → text ≡ no_memory_line
      → IsCause c s a status text
  NoMemoryToMake : (number tasks : ℕ) → c ≡ Trial number tasks → IsUnread s → status ≡ 7 → text ≡ no_memory_line
      → a.after ≡ a.before → IsCause c s a status text

-- the call's answer
pub record Answers (c : Command) (s : SourceChange) (a : AreasChange) (k : SinkChange) (answer : ℕ) : Type 0 where
  pub status : ℕ
  pub text : List ℕ
  pub cause : IsCause c s a status text
  pub told : IsWritten status text k answer

-- The status that the words and bytes have, leaving out faults of the source and the sink, and want of memory; and when the
-- areas are as they were.

-- of a job behind which nothing may stand it is 0, where that is ready; that of `trial` doesn't depend on bytes
pub data HasStatus (c : Command) (bytes : List ℕ) (n : ℕ) : Type 0 where
  ToUsage : c ≡ Unknown → n ≡ 1 → HasStatus c bytes n
  ToLarge : (way_of c).reads_input ≡ true → input_limit < length bytes → n ≡ 4 → HasStatus c bytes n
  ToMatched : (j : JobView) → (way_of c).reads_job ≡ true → (way_of c).form.more ≡ false → length bytes ≤ input_limit
      → HasJob (way_of c).form (lines_of bytes) j → HasAsked (way_of c).asked j → job_fault j ≡ None → n ≡ 0 → HasStatus c bytes n
  ToAnswer : (text : List ℕ) → length bytes ≤ input_limit → IsAnswer c bytes n text → HasStatus c bytes n

-- the status is that of the words and bytes, or 7, where no fault of the source was counted; that of `trial` is 0 or 7
pub record IsComplete (c : Command) (s : SourceChange) (status : ℕ) : Type 0 where
  pub usage : c ≡ Unknown → status ≡ 1
  pub tried : (number tasks : ℕ) → c ≡ Trial number tasks → (status ≡ 0) ⊎ (status ≡ 7)
  pub answers : (bytes : List ℕ) (n : ℕ) → s.left ≡ Some bytes → HasStatus c bytes n → (Rose s.faults s.later → ⊥)
      → (status ≡ n) ⊎ (status ≡ 7)
  -- true marks and evidence are verified
  pub verifies : (name bytes : List ℕ) → c ≡ Verify name → s.left ≡ Some bytes → HoldsTrue name bytes → (Rose s.faults s.later → ⊥)
      → (status ≡ 0) ⊎ (status ≡ 7)

-- Ledger, sets and number of the areas are as they were for every command that runs no tasks over areas, after every refusal,
-- if the source has failed, if no job came that is ready for a command that reads one, and if words and bytes have an answer but 0.
pub record IsUntouched (c : Command) (s : SourceChange) (a : AreasChange) (status : ℕ) : Type 0 where
  pub others : (way_of c).makes_areas ≡ false → a.after ≡ a.before
  pub refused : status ≢ 0 → status ≢ 7 → a.after ≡ a.before
  pub failed : s.later ≢ s.faults → a.after ≡ a.before
  pub unmatched : (way_of c).reads_job ≡ true → ((bytes : List ℕ) (r : ReadyView) → CameWhole s bytes → IsReady c bytes r → ⊥)
      → a.after ≡ a.before
  pub unreported : (bytes : List ℕ) (n : ℕ) → s.left ≡ Some bytes → HasStatus c bytes n → n ≢ 0 → a.after ≡ a.before

-- all that is promised of a call: its answer; that its status, whether the sink has taken all of the text or not, is complete;
-- and when the areas are as they were
pub record IsServed (c : Command) (s : SourceChange) (a : AreasChange) (k : SinkChange) (answer : ℕ) : Type 0 where
  pub answers : Answers c s a k answer
  pub complete : IsComplete c s answers.status
  pub untouched : IsUntouched c s a answers.status

-- the command that these words are
abbrev pub asked : {A : Type 0} → List (String A) → Command
asked words = command_of (map string_bytes words)

-- of these words, by what source, areas and sink tell of themselves
abbrev pub Serves : {S A C P K W : Type 0} → source.Ghosts S → areas.Ghosts A C P → sink.Ghosts K → List (String W) → S → S → A → A
    → K → K → ℕ → Type 0
Serves s a k words source0 source1 areas0 areas1 sink0 sink1 answer =
    IsServed (asked words) (source_change s.left s.faults source0 source1) (areas_change a.ledger a.finals a.made areas0 areas1)
    (sink_change k.written k.faults sink0 sink1) answer
