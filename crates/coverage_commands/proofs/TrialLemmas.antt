-- What a generated job comes to.
use Rattle.std.proofs.Common.{◌≡◌, ℕ, ◌≤◌, Option, Some, None, List, [], refl, sym, subst, arith, IfSome, length}
use Rattle.std.proofs.lemmas.List.Elements.{All-cons, All-nil}
use Rattle.std.proofs.lemmas.List.FromFn.{length-map-range_with_len}
use Rattle.brk_table.specs.Meaning.{TablesView}
use Rattle.job_gen.specs.Meaning.{trial_code, trial_module, trial_task, trial_job, made_listing}
use Rattle.job_gen.proofs.Laws.{trial_lines, trial_listing, trial_matches, trial_listing_size}
use Rattle.session_book.specs.Meaning.{JobView}
use Rattle.report_text.specs.Conditions.{HasFewLines}
use Rattle.report_text.specs.Meaning.{trial_text}
use Rattle.job_answers.specs.Meaning.{ReadyView}
use Rattle.coverage_commands.specs.Meaning.{Finished, NoMemoryToRun, NoMemoryToMake, Made, Answers, IsUnread}
use Rattle.refusals.specs.Meaning.{IsWritten, SinkChange, no_memory_line}
use Rattle.run_reports.specs.Meaning.{AreasChange, Reports}
use Rattle.coverage_commands.specs.Changes.{no_change}
use Rattle.job_run.specs.Meaning.{Account}
use Rattle.job_input.specs.Meaning.{SourceChange, job_fault, Match}
use Rattle.job_input.proofs.Laws.{no_listing_fault}
use Rattle.job_input.specs.declared.words.Command.TheVariants.{Trial}
use Rattle.task_run.specs.Meaning.{solo}
use Rattle.refusals.specs.Told.{IsTold, Told, Wanting}

-- ---- the generated job

-- its listing has no fault
pub trial_faultless : (number tasks : ℕ) → job_fault (trial_job number tasks) ≡ None
unfolding trial_job
trial_faultless number tasks = rw (no_listing_fault (trial_module number) 65536 (made_listing (trial_code number)) (trial_lines number) (trial_listing number) (trial_matches number)) refl

-- nor too many lines
pub trial_few_lines : (number tasks : ℕ) → HasFewLines (trial_job number tasks)
unfolding trial_job
trial_few_lines number tasks =
    let most = trial_listing_size number in
    All-cons (λ (listing : Option (List (List ℕ))). IfSome listing (λ lines. length lines ≤ 16777216)) (Some (made_listing (trial_code number))) [] (omega arith) (All-nil _)

pub trial_tasks : (number tasks : ℕ) → length (trial_job number tasks).tasks ≡ tasks
unfolding trial_job
trial_tasks number tasks = length-map-range_with_len trial_task 1 tasks

pub trial_sessions : (number tasks : ℕ) → length (trial_job number tasks).sessions ≡ 1
unfolding trial_job
trial_sessions number tasks = refl

-- ---- its answers

abbrev made_ready : ℕ → ℕ → TablesView → ReadyView
made_ready number tasks tables = record { job = trial_job number tasks; tables = tables; number = 0; lines = 0; rest = [] }

tried_own : (number tasks : ℕ) (s : SourceChange) (tables : TablesView) (a : AreasChange) (k : SinkChange) (answer : ℕ) → IsUnread s → Match (trial_job number tasks) tables →
    IsTold (λ status text. (status ≡ 0) × Reports solo (trial_job number tasks) tables a (trial_text number tasks tables.places) text) k answer → Answers (Trial number tasks) s a k answer
tried_own number tasks s tables a k answer unread match' (Told status text h told) = record {
  status = status;
  text = text;
  cause = Finished (made_ready number tasks tables) (Made number tasks refl unread refl match') h.0 h.1;
  told = told;
}
tried_own number tasks s tables a k answer unread match' (Wanting told) = record {
  status = 7;
  text = no_memory_line;
  cause = NoMemoryToRun (made_ready number tasks tables) (Made number tasks refl unread refl match') refl refl refl;
  told = told;
}

-- of a job that is the generated one
pub tried : (number tasks : ℕ) (j : JobView) (s : SourceChange) (tables : TablesView) (a : AreasChange) (k : SinkChange) (answer : ℕ) → j ≡ trial_job number tasks → IsUnread s → Match j tables →
    IsTold (λ status text. (status ≡ 0) × Reports solo j tables a (trial_text number tasks tables.places) text) k answer → Answers (Trial number tasks) s a k answer
tried number tasks j s tables a k answer e unread =
    subst (λ (i : JobView). Match i tables → IsTold (λ status text. (status ≡ 0) × Reports solo i tables a (trial_text number tasks tables.places) text) k answer → Answers (Trial number tasks) s a k answer)
    (sym e) (tried_own number tasks s tables a k answer unread)

-- memory was wanting before the run
pub unmade : (number tasks : ℕ) (s : SourceChange) (a : Account) (k : SinkChange) (answer : ℕ) → IsUnread s → IsWritten 7 no_memory_line k answer → Answers (Trial number tasks) s (no_change a) k answer
unmade number tasks s a k answer unread told = record { status = 7; text = no_memory_line; cause = NoMemoryToMake number tasks refl unread refl refl refl; told = told }
