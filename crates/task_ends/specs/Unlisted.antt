-- Visits that are added to the counts of modules.
use Rattle.std.specs.Prelude.{◌≡◌, ℕ, ◌+◌, ◌<◌, if◌then◌else◌, List, length, get_or, slice_index}
use Rattle.cov_base.specs.Meaning.{ImageView, Visit}
use Rattle.module_area.specs.declared.places.Place.{Place}
use Rattle.brk_table.specs.Meaning.{in_image}
use Rattle.session_book.specs.Meaning.{JobView, no_module}
use Rattle.task_run.specs.Meaning.{visits_of}
use Rattle.task_ends.specs.Meaning.{unlisted_visits, run_of}

-- from old to new those among the visits were added to the count of each module
pub record Adds (places : List Place) (images : List ImageView) (visits : List Visit) (old new : List ℕ) : Type 0 where
  pub size : length new ≡ length old
  pub each : (m : ℕ) → m < length images
      → slice_index new m ≡ slice_index old m + unlisted_visits places (get_or images m no_module) visits

-- of task t's own run
abbrev pub AddsTask : JobView → List Place → ℕ → List ℕ → List ℕ → Type 0
AddsTask j places t old new = Adds places j.images (visits_of (run_of j places t).turns) old new

-- and one visit at this address
abbrev pub AddsOne : List ImageView → ℕ → List ℕ → List ℕ → Type 0
AddsOne images at old new =
    (m : ℕ) → m < length images → slice_index new m ≡ slice_index old m + (if in_image (get_or images m no_module) at then 1 else 0)
