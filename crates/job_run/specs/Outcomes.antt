-- What a run's outcome tells.
use Rattle.std.specs.Prelude.{◌≡◌, ℕ, ◌<◌, ◌≤◌, true, Some, List, length, get_or}
use Rattle.cov_base.specs.Meaning.{is_within}
use Rattle.module_area.specs.Meaning.{place_of, set_at}
use Rattle.module_area.specs.declared.places.Place.{Place}
use Rattle.task_run.specs.Meaning.{Course, IsBetween}
use Rattle.session_book.specs.Meaning.{JobView, task_of, session_of, observes, is_whole}
use Rattle.phase_plan.specs.Meaning.{plan_view}
use Rattle.job_run.specs.Meaning.{result_by, set_by, least_by, most_by, no_finals}
use Rattle.job_run.specs.Sets.{SetsView, set_in}
use Rattle.job_run.specs.Tasks.{Ends, IsEquipped, results_of}
use Rattle.job_run.specs.declared.outcome.Done.{Done}
use Rattle.job_run.specs.declared.outcome.Outcome.{Outcome}

-- Each task's result is that of its run. At each place that a session observes its set is that of its executions where
-- the session is whole, and lies between its bounds where a task controls it.
pub record IsOutcomeBy (course : Course) (j : JobView) (places : List Place) (tasks : List Done) (sets : SetsView) : Type 0 where
  pub count : length tasks ≡ length j.tasks
  pub are_results : (t : ℕ) → t < length j.tasks → results_of tasks t ≡ result_by course j places t
  pub filled : (t : ℕ) → t < length j.tasks → length (results_of tasks t).bytes ≡ (task_of j t).private
  pub job : sets.job ≡ j
  pub size : sets.places ≡ length places
  pub are_sets : (s p : ℕ) → 0 < s → s ≤ length j.sessions → p < length places →
      is_whole (session_of j s) ≡ true → observes (session_of j s).phase (place_of places p).module (session_of j s) ≡ true
      → set_in sets s p ≡ set_by course j places s p
  pub are_bounded : (s p by : ℕ) → 0 < s → s ≤ length j.sessions → p < length places →
      (session_of j s).by ≡ Some by → observes (session_of j s).phase (place_of places p).module (session_of j s) ≡ true
      → IsBetween (least_by course j places by s p) (most_by course j places by s p) (set_in sets s p)
  pub within : (s p : ℕ) → 0 < s → s ≤ length j.sessions → is_within (place_of places p).kind (set_in sets s p) ≡ true

abbrev pub ComesTo : Course → JobView → List Place → Outcome → Type 0
ComesTo course j places outcome = IsOutcomeBy course j places outcome.tasks.items outcome.sets

-- a task of the job ran from its first state to this one, and its extra tells this of it
pub record HasEnded {E : Type 0} (ends : Ends E) (j : JobView) (places : List Place) (sets : SetsView) (t : ℕ) (d : Done)
    (extra : E) : Type 0 where
  pub first : Done
  pub begun : IsEquipped j places t first
  pub tells : ends (plan_view j places (task_of j t).phase) first.task d.task extra
      (λ s p. set_at (get_or sets.finals (task_of j t).phase no_finals) s p)

-- one for each task of the job, in order
pub record AreExtras {E : Type 0} (ends : Ends E) (j : JobView) (places : List Place) (tasks : List Done) (sets : SetsView)
    (extras : List E) : Type 0 where
  pub count : length extras ≡ length j.tasks
  pub each : (t : ℕ) (d : Done) (e : E) → t < length j.tasks → HasEnded ends j places sets t (get_or tasks t d) (get_or extras t e)
