-- The names of a job.
use Rattle.std.specs.Prelude.{ℕ, List, map}
use Rattle.cov_base.specs.Meaning.{ImageView}
use Rattle.session_book.specs.Meaning.{TaskView}

abbrev pub module_names : List ImageView → List (List ℕ)
module_names images = map (λ i. i.name) images

abbrev pub task_names : List TaskView → List (List ℕ)
task_names tasks = map (λ t. t.name) tasks
