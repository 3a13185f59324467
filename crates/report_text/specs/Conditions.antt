-- What a report needs of tables, results and sets.
use Rattle.std.specs.Prelude.{◌≡◌, ℕ, ◌+◌, ◌<◌, ◌≤◌, true, List, length, All, IfSome}
use Rattle.cov_base.specs.declared.constants.TheConstants.{INPUT_LIMIT}
use Rattle.cov_base.specs.Meaning.{FactSet, is_within}
use Rattle.module_area.specs.Meaning.{place_of}
use Rattle.module_area.specs.declared.places.Place.{Place}
use Rattle.brk_table.specs.Meaning.{TablesView, first_place, place_count}
use Rattle.brk_table.specs.Places.{IsIn}
use Rattle.session_book.specs.Meaning.{JobView, ResultView, session_of, task_of}
use Rattle.phase_plan.specs.Sets.{AreWithin}

-- each line of a listing has a number
abbrev pub HasFewLines : JobView → Type 0
HasFewLines job = All (λ listing. IfSome listing (λ lines. length lines ≤ INPUT_LIMIT)) job.listings

-- each place lies in its module, and each line has a number
pub record AreTablesOf (job : JobView) (tables : TablesView) : Type 0 where
  pub within : All (IsIn job.images) tables.places
  pub lines : HasFewLines job

-- of a task, with private storage of its card's size
pub record HasResultOf (job : JobView) (tasks : ℕ) (results : ℕ → ResultView) (t : ℕ) : Type 0 where
  pub exists : t < tasks
  pub size : length (results t).bytes ≡ (task_of job t).private

-- one for each task of the job, with private storage of its card's size
pub record AreResultsOf (job : JobView) (tasks : ℕ) (results : ℕ → ResultView) : Type 0 where
  pub count : tasks ≡ length job.tasks
  pub sizes : (t : ℕ) → t < length job.tasks → length (results t).bytes ≡ (task_of job t).private

-- there is such a session, and a place for each of the tables'
pub record HasSession (tables : TablesView) (sessions places s : ℕ) : Type 0 where
  pub some : 0 < s
  pub exists : s < sessions + 1
  pub size : places ≡ length tables.places

-- there is such a session, and it has a set at each place of module m, within the place's kind
pub record HasModule (tables : TablesView) (sessions places : ℕ) (sets : ℕ → FactSet) (s m : ℕ) : Type 0 where
  pub session : HasSession tables sessions places s
  pub exist : first_place tables.tables m + place_count tables.tables m ≤ length tables.places
  pub within : AreWithin tables sets m

-- for each session of the job a set at each place, within its kind at those of the session's modules
pub record AreSetsOf (job : JobView) (tables : TablesView) (sessions places : ℕ) (sets : ℕ → ℕ → FactSet) : Type 0 where
  pub count : sessions ≡ length job.sessions
  pub size : places ≡ length tables.places
  pub within : (s : ℕ) → 0 < s → s ≤ length job.sessions → All (AreWithin tables (sets s)) (session_of job s).modules

-- each of these places' sets has facts of its kind alone
abbrev pub AreOfKinds : List Place → (ℕ → FactSet) → Type 0
AreOfKinds places sets = (n : ℕ) → n < length places → is_within (place_of places n).kind (sets n) ≡ true
