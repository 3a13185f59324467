-- A task that has ended, what a core stores in range, and an event that is due.
use Rattle.std.specs.Prelude.{◌≡◌, ℕ, ◌<◌, true, Some, IsSome, length}
use Rattle.cov_base.specs.Meaning.{is_within}
use Rattle.module_area.specs.Meaning.{kind_at}
use Rattle.session_book.specs.Meaning.{task_of}
use Rattle.interleave_core.specs.Meaning.{World, Parts, plan_in, Stepped, parts_step, set_of, results_of}
use Rattle.interleave_core.specs.CoreState.{is_by}
use Rattle.interleave_core.specs.declared.events.Event.{Event}

abbrev pub IsOver : Parts → ℕ → Type 0
IsOver c t = IsSome (results_of c t).ending

-- as many cells and tasks as the world has, private storage of the cards' sizes, and at each place facts of its kind
pub record Fits (w : World) (c : Parts) : Type 0 where
  pub cells : length c.cells ≡ length w.places
  pub tasks : length c.tasks ≡ length w.job.tasks
  pub bytes : (t : ℕ) → t < length c.tasks → length (results_of c t).bytes ≡ (task_of w.job t).private
  pub within : (s p : ℕ) → 0 < s → p < length w.places → is_within (kind_at (plan_in w) p) (set_of w c s p) ≡ true

-- the event is the task's, and possible
pub record IsDue (w : World) (c : Parts) (t : ℕ) (e : Event) : Type 0 where
  pub by : is_by w e t ≡ true
  pub stepped : Stepped
  pub step : parts_step w c e ≡ Some stepped
