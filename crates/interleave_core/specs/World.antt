-- The world of a job and its tables, and what a world keeps.
use Rattle.std.specs.Prelude.{◌≡◌, ℕ, ◌<◌, length, All}
use Rattle.module_area.specs.Rule.{IsPlan}
use Rattle.brk_table.specs.Meaning.{TablesView}
use Rattle.brk_table.specs.Places.{ArePlaces, AreSeen, IsIn}
use Rattle.session_book.specs.Meaning.{JobView}
use Rattle.session_book.specs.JobView.{IsJob}
use Rattle.interleave_core.specs.Meaning.{World, plan_in, memory_in}

abbrev pub world_of : JobView → TablesView → World
world_of job tables = record { job = job; places = tables.places }

-- its job has one phase, and its places are those of the images that each task's memory shows
pub record IsWorld (w : World) : Type 0 where
  pub job : IsJob w.job
  pub phase : length w.job.phases ≡ 1
  pub is_plan : IsPlan (plan_in w)
  pub places : ArePlaces w.places
  pub inside : All (IsIn w.job.images) w.places
  pub seen : (t : ℕ) → t < length w.job.tasks → AreSeen (memory_in w t) w.places
