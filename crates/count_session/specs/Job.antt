-- What a counted job has come to.
use Rattle.std.specs.Prelude.{◌≡◌, ℕ, ◌<◌, ◌≤◌, nat_eq, if◌then◌else◌, List, [], length, get_or, All}
use Rattle.std.specs.List.{list_any}
use Rattle.cov_base.specs.declared.facts.Fact.{Fact}
use Rattle.module_area.specs.Meaning.{place_of}
use Rattle.module_area.specs.declared.places.Place.{Place}
use Rattle.session_book.specs.Meaning.{JobView, task_of, session_of}
use Rattle.task_services.specs.Meaning.{course_of}
use Rattle.job_run.specs.Meaning.{result_by}
use Rattle.job_run.specs.Tasks.{results_of}
use Rattle.job_run.specs.declared.outcome.Done.{Done}
use Rattle.count_session.specs.Tallied.{count_in}
use Rattle.count_session.specs.Meaning.{session_count}
use Rattle.count_session.specs.declared.counts.PlaceCount.{PlaceCount}

pub record CountsView : Type 0 where
  pub job : JobView
  pub places : List Place
  -- those of each phase
  pub phases : List (List PlaceCount)

-- for each phase counts at each place
pub record AreSized (v : CountsView) : Type 0 where
  pub count : length v.phases ≡ length v.job.phases
  pub sizes : All (λ c. length c ≡ length v.places) v.phases

-- the count of the session at a place of its modules, in the entry of its phase
abbrev pub count_of : CountsView → ℕ → ℕ → Fact → ℕ
count_of v s p f =
    if list_any (nat_eq (place_of v.places p).module) (session_of v.job s).modules
    then count_in (get_or v.phases (session_of v.job s).phase []) p f else 0

-- each task's result is that of its run with the job's services, and each count is that of the session's executions
pub record IsCountedJob (j : JobView) (places : List Place) (tasks : List Done) (counts : CountsView) : Type 0 where
  pub count : length tasks ≡ length j.tasks
  pub are_results : (t : ℕ) → t < length j.tasks → results_of tasks t ≡ result_by (course_of j.services) j places t
  pub filled : (t : ℕ) → t < length j.tasks → length (results_of tasks t).bytes ≡ (task_of j t).private
  pub job : counts.job ≡ j
  pub size : counts.places ≡ places
  pub are_counts : (s p : ℕ) (f : Fact) → 0 < s → s ≤ length j.sessions → p < length places
      → count_of counts s p f ≡ session_count j places s p f
