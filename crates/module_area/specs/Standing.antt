-- What a plan's lists are tested for.
use Rattle.std.specs.Prelude.{◌≢◌, ℕ, ◌<◌, List, length, get_or, slice_index_or}
use Rattle.cov_base.specs.declared.numbers.TaskNo.{TaskNo}
use Rattle.module_area.specs.declared.places.Place.{Place}
use Rattle.module_area.specs.Meaning.{place_of}
use Rattle.module_area.specs.PlanView.{MayStand}

-- each place and its window may stand in a plan of so many sessions
abbrev pub MayAllStand : List Place → List ℕ → ℕ → Type 0
MayAllStand places windows sessions = (p : ℕ) → p < length places → MayStand (place_of places p) (get_or windows p 0) sessions

-- the n-th task is none of those before it
abbrev pub IsNew : List TaskNo → ℕ → Type 0
IsNew tasks n = (i : ℕ) (d : TaskNo) → i < n → (slice_index_or tasks i d).0 ≢ (slice_index_or tasks n d).0
