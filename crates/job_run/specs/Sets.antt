-- What an outcome keeps of the sets of a job's sessions.
use Rattle.std.specs.Prelude.{◌≡◌, ℕ, ◌*◌, nat_lt, if◌then◌else◌, List, length, All}
use Rattle.cov_base.specs.Meaning.{FactSet, no_facts}
use Rattle.module_area.specs.Meaning.{FinalsView}
use Rattle.module_area.specs.declared.places.Place.{Place}
use Rattle.session_book.specs.Meaning.{JobView}
use Rattle.job_run.specs.Meaning.{set_left}

pub record SetsView : Type 0 where
  pub job : JobView
  pub places : ℕ
  -- those of each phase
  pub finals : List FinalsView

-- over tables with these places
abbrev pub sets_of : JobView → List Place → List FinalsView → SetsView
sets_of j places finals = record { job = j; places = length places; finals = finals }

-- a set for each session of the job at each of so many places
pub record IsSized (j : JobView) (places : ℕ) (f : FinalsView) : Type 0 where
  pub count : f.places ≡ places
  pub sets : length f.sets ≡ length j.sessions * places

pub record AreSets (v : SetsView) : Type 0 where
  pub count : length v.finals ≡ length v.job.phases
  pub sizes : All (IsSized v.job v.places) v.finals

-- past the places there is none
abbrev pub set_in : SetsView → ℕ → ℕ → FactSet
set_in v s p = if nat_lt p v.places then set_left v.job v.finals s p else no_facts
