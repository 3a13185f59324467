-- What the program answers of counts.
use Rattle.std.proofs.Common.{◌≡◌, ℕ, Bool, true, false, if◌then◌else◌, None, Some, List, [], ◌∷◌, ◌+◌, refl, All}
use Rattle.std.proofs.lemmas.List.Elements.{All-cons, All-nil}
use Rattle.brk_table.specs.Meaning.{TablesView}
use Rattle.count_session.specs.Job.{CountsView, IsCountedJob, count_of}
use Rattle.job_run.specs.Tasks.{results_of}
use Rattle.job_run.specs.declared.outcome.Done.{Done}
use Rattle.report_text.specs.Meaning.{count_text}
use Rattle.session_book.specs.Meaning.{JobView, SessionView, is_whole}
use Rattle.session_book.specs.Sessions.{AreWhole}
use Rattle.refusals.specs.Meaning.{IsWritten, SinkChange}
use Rattle.job_answers.specs.Meaning.{first_controlled_from, first_controlled}
use Rattle.coverage_commands.specs.Calls.{IsCount}
use Rattle.refusals.specs.Told.{IsTold, Told}

-- no session has a controller where none is found
free_from : (n : ℕ) (ss : List SessionView) → first_controlled_from n ss ≡ None → All (λ s. is_whole s ≡ true) ss
free_from n [] free = All-nil (λ (t : SessionView). is_whole t ≡ true)
free_from n (s ∷ ss) free = by_whole (is_whole s) refl free (free_from (n + 1) ss)
  where
    by_whole : (b : Bool) → is_whole s ≡ b → (if b then first_controlled_from (n + 1) ss else Some n) ≡ None → (first_controlled_from (n + 1) ss ≡ None → All (λ s. is_whole s ≡ true) ss) → All (λ s. is_whole s ≡ true) (s ∷ ss)
    by_whole true e h rest = All-cons (λ (t : SessionView). is_whole t ≡ true) s ss e (rest h)
    by_whole false e h rest = absurd cc

pub are_whole : (j : JobView) → first_controlled j ≡ None → AreWhole j
are_whole j free = free_from 1 j.sessions free

pub counted : (j : JobView) (tables : TablesView) (tasks : List Done) (counts : CountsView) (k : SinkChange) (answer : ℕ) → IsCountedJob j tables.places tasks counts →
    IsWritten 0 (count_text j tables (λ t. results_of tasks t) (λ s p f. count_of counts s p f)) k answer → IsTold (IsCount j tables) k answer
counted j tables tasks counts k answer is told =
    Told 0 (count_text j tables (λ t. results_of tasks t) (λ s p f. count_of counts s p f))
    (refl, record { results = λ t. results_of tasks t; counts = λ s p f. count_of counts s p f; are_results = is.are_results; are_counts = is.are_counts; is_text = refl }) told
