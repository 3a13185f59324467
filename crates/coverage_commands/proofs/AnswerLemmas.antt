-- What the program answers with, cause by cause.
use Rattle.std.proofs.Common.{◌≡◌, ℕ, true, false, Some, List, refl, sym, ◌∙◌, subst}
use Rattle.cov_outside.specs.declared.whole.ReadFault.{ReadFault}
use Rattle.cov_outside.specs.declared.whole.ReadFault.TheVariants as read
use Rattle.session_book.specs.Meaning.{JobView}
use Rattle.job_input.specs.Meaning.{SourceChange, IsReadFault, CameWhole}
use Rattle.job_input.specs.Inputs.{IsInput}
use Rattle.job_answers.specs.Meaning.{IsPlayed, session_number, IsUnited}
use Rattle.coverage_commands.specs.Meaning.{HoldsBesides, IsReady, Refused, OfJob, IsAnswerOf, IsRunText, IsCause, Unread, Came, Finished, NoMemoryToRun, Read, Answers, way_of, OfFiles}
use Rattle.run_reports.specs.Meaning.{AreasChange}
use Rattle.refusals.specs.Meaning.{IsWritten, SinkChange, no_memory_line, RefusalView, read_refusal}
use Rattle.job_answers.specs.declared.asked.Wanted.{Wanted}
use Rattle.job_answers.specs.declared.asked.Asked.{Asked}
use Rattle.job_answers.specs.declared.asked.Asked.TheVariants.{AnyJob, WithSession, AllWhole}
use Rattle.job_answers.specs.declared.ready.Ready.{Ready}
use Rattle.job_answers.specs.Asked.{HasSession}
use Rattle.job_answers.specs.Ready.{IsReadyFor, view_of}
use Rattle.job_answers.specs.Calls.{AtLine, IsChecked, IsReplayed, ToEnd}
use Rattle.refusals.specs.Told.{IsTold, Told, Wanting}
use Rattle.job_answers.specs.Answers.{IsStopped, NotWhole, NoJob}
use Rattle.coverage_commands.specs.Changes.{no_change}
use Rattle.job_input.specs.declared.words.Command.{Command}
use Rattle.job_input.specs.declared.words.Command.TheVariants.{Run, Exits, Early, Count, Marks, Trial, Table, Ends, Replay, Combine, Show, Prove, Verify, Unknown}
use Rattle.schedule_play.specs.Meaning.{Play}
use Rattle.task_run.specs.Meaning.{Course}
use Rattle.job_run.specs.Meaning.{Account}
use Rattle.job_answers.proofs.Laws.{refused_told}
use Rattle.coverage_commands.specs.Words.{runs_threads, without_threads}

-- an input that wasn't read whole
pub unread : (c : Command) (s : SourceChange) (a : Account) (k : SinkChange) (answer : ℕ) (e : ReadFault) → (way_of c).reads_input ≡ true → IsReadFault s e → IsWritten (read_refusal e).status (read_refusal e).line k answer → Answers c s (no_change a) k answer
unread c s a k answer e reads h told = record { status = (read_refusal e).status; text = (read_refusal e).line; cause = Unread e reads h refl refl; told = told }

-- memory was wanting behind an input
pub wanting_told : (c : Command) (s : SourceChange) (a : Account) (k : SinkChange) (answer : ℕ) → (way_of c).reads_input ≡ true → IsWritten 7 no_memory_line k answer → Answers c s (no_change a) k answer
wanting_told c s a k answer reads told = unread c s a k answer read.NoMemory reads tt told

-- a job is read from the input
pub job_read : (c : Command) → (way_of c).reads_job ≡ true → (way_of c).reads_input ≡ true
job_read (Run g) h = refl
job_read Exits h = refl
job_read Early h = refl
job_read (Count g) h = refl
job_read (Marks name g) h = refl
job_read (Trial number tasks) h = absurd cc
job_read (Table g) h = refl
job_read (Ends g) h = refl
job_read Replay h = refl
job_read Combine h = refl
job_read (Show name g) h = refl
job_read (Prove name) h = refl
job_read (Verify name) h = refl
job_read Unknown h = absurd cc

-- ---- a job that is ready

-- a session that was named has that number
has_number : (asked : Asked) (j : JobView) (s : ℕ) (wanted : Wanted) → HasSession asked j s → asked ≡ WithSession wanted → session_number j wanted.name ≡ Some s
has_number AnyJob j s wanted h e = absurd cc
has_number (WithSession own) j s wanted h e = let same : own ≡ wanted = cc in subst (λ (w : Wanted). session_number j w.name ≡ Some s) same h.number
has_number AllWhole j s wanted h e = absurd cc

pub ready_is : (c : Command) (s : SourceChange) (r : Ready) → (way_of c).reads_job ≡ true → (i : IsInput (way_of c).form s r.input) → IsReadyFor (way_of c).asked r → IsReady c i.came.bytes (view_of r)
ready_is c s r reads i is = record {
  reads = reads;
  has = i.came.has;
  asked = is.has;
  named = λ wanted e. has_number (way_of c).asked r.input.job r.session.0 wanted is.session e;
  match = is.job.matching;
  lines = sym i.came.counts;
  behind = i.came.behind;
}

-- a run of its tasks
pub ran : (c : Command) (s : SourceChange) (a : AreasChange) (k : SinkChange) (answer : ℕ) (r : Ready) (is : ℕ → List ℕ → Type 0) → (way_of c).reads_job ≡ true → (way_of c).makes_areas ≡ true → IsReadyFor (way_of c).asked r → IsInput (way_of c).form s r.input →
    ((status : ℕ) (text : List ℕ) → is status text → (status ≡ 0) × IsRunText c (view_of r) a text) → IsTold is k answer → Answers c s a k answer
ran c s a k answer r is reads makes ready i run (Told status text h told) = record {
  status = status;
  text = text;
  cause = Finished (view_of r) (Read i.came.bytes i.came.came (ready_is c s r reads i ready)) (run status text h).0 (run status text h).1;
  told = told;
}
ran c s a k answer r is reads makes ready i run (Wanting told) = record {
  status = 7;
  text = no_memory_line;
  cause = NoMemoryToRun (view_of r) (Read i.came.bytes i.came.came (ready_is c s r reads i ready)) makes refl refl;
  told = told;
}

-- an answer that no areas are made for
pub answered : (c : Command) (s : SourceChange) (a : Account) (k : SinkChange) (answer : ℕ) (r : Ready) (is : ℕ → List ℕ → Type 0) → (way_of c).reads_job ≡ true → IsReadyFor (way_of c).asked r → (i : IsInput (way_of c).form s r.input) →
    ((status : ℕ) (text : List ℕ) → is status text → IsAnswerOf c (view_of r) status text) → ((status : ℕ) (text : List ℕ) → is status text → status ≡ 0 → HoldsBesides c i.came.bytes) → IsTold is k answer → Answers c s (no_change a) k answer
answered c s a k answer r is reads ready i of besides (Told status text h told) = record {
  status = status;
  text = text;
  cause = Came i.came.bytes i.came.came (OfJob (view_of r) (ready_is c s r reads i ready) (of status text h)) (besides status text h) refl;
  told = told;
}
answered c s a k answer r is reads ready i of besides (Wanting told) = wanting_told c s a k answer (job_read c reads) told

-- a run along a course that is the job's
pub with_own : (is : Course → AreasChange → List ℕ → Type 0) {own other : Course} {a : AreasChange} {k : SinkChange} {answer : ℕ} → other ≡ own → IsTold (λ status text. (status ≡ 0) × is other a text) k answer → IsTold (λ status text. (status ≡ 0) × is own a text) k answer
with_own is {a = a} {k = k} {answer = answer} same told = subst (λ (course : Course). IsTold (λ status text. (status ≡ 0) × is course a text) k answer) same told

-- a schedule behind it
pub played : (r : Ready) (status : ℕ) (text : List ℕ) → IsReplayed r.input.job r.tables r.input.lines r.input.rest.items status text → IsAnswerOf Replay (view_of r) status text
played r status text (ToEnd core items plays run is) = subst (λ (p : Play). IsPlayed (view_of r) p status text) (sym plays) is
played r status text (AtLine line bad status_is text_is) = subst (λ (p : Play). IsPlayed (view_of r) p status text) (sym bad) (status_is, text_is)

pub replayed_besides : (r : Ready) (s : SourceChange) (i : IsInput (way_of Replay).form s r.input) → IsReadyFor (way_of Replay).asked r → (status : ℕ) (text : List ℕ) → IsReplayed r.input.job r.tables r.input.lines r.input.rest.items status text → status ≡ 0 → HoldsBesides Replay i.came.bytes
replayed_besides r s i ready status text (ToEnd core items plays run is) z = record { ready = view_of r; is = ready_is Replay s r refl i ready; core = core; played = items; plays = plays; run = run }
replayed_besides r s i ready status text (AtLine line bad status_is text_is) z = let clash : 9 ≡ 0 = sym status_is ∙ z in absurd cc

-- marks and evidence behind it
pub checked_besides : (name : List ℕ) (r : Ready) (s : SourceChange) (i : IsInput (way_of (Verify name)).form s r.input) → IsReadyFor (way_of (Verify name)).asked r → (status : ℕ) (text : List ℕ) → IsChecked name r.input.job r.tables r.session.0 r.input.rest.items status text → status ≡ 0 → HoldsBesides (Verify name) i.came.bytes
checked_besides name r s i ready status text h z = record { ready = view_of r; few = i.came.came.within; is = ready_is (Verify name) s r refl i ready; has = h.verified z }

-- ---- files

pub combined : (s : SourceChange) (bytes : List ℕ) (a : Account) (k : SinkChange) (answer : ℕ) → CameWhole s bytes → IsTold (IsUnited bytes) k answer → Answers Combine s (no_change a) k answer
combined s bytes a k answer came (Told status text is told) = record { status = status; text = text; cause = Came bytes came (OfFiles refl is) (λ z. tt) refl; told = told }
combined s bytes a k answer came (Wanting told) = wanting_told Combine s a k answer refl told

-- ---- no job

no_job : (c : Command) (s : SourceChange) (a : Account) (r : RefusalView) → (way_of c).reads_job ≡ true → IsStopped (way_of c).form (way_of c).asked s r → IsCause c s (no_change a) r.status r.line
no_job c s a r job (NotWhole e h is) = Unread e (job_read c job) h is refl
no_job c s a r job (NoJob bytes came is) = Came bytes came (Refused job is) (λ z. absurd (refused_told (way_of c).form (way_of c).asked bytes r is z)) refl

pub stopped : (c : Command) (s : SourceChange) (a : Account) (k : SinkChange) (answer : ℕ) (r : RefusalView) →
    (way_of c).reads_job ≡ true → IsStopped (way_of c).form (way_of c).asked s r → IsWritten r.status r.line k answer → Answers c s (no_change a) k answer
stopped c s a k answer r job stop told = record { status = r.status; text = r.line; cause = no_job c s a r job stop; told = told }

-- the words that need no threads are answered alike
pub alike : (c : Command) → runs_threads c ≡ false → without_threads c ≡ c
alike (Run g) h = absurd cc
alike Exits h = absurd cc
alike Early h = absurd cc
alike (Count g) h = absurd cc
alike (Marks name g) h = absurd cc
alike (Trial number tasks) h = absurd cc
alike (Table g) h = refl
alike (Ends g) h = refl
alike Replay h = refl
alike Combine h = refl
alike (Show name g) h = refl
alike (Prove name) h = refl
alike (Verify name) h = refl
alike Unknown h = refl
