-- The sets that a session has at its modules' places.
use Rattle.std.specs.Prelude.{◌≡◌, ℕ, ◌+◌, ◌<◌, ◌≤◌, true, length, All}
use Rattle.cov_base.specs.Meaning.{FactSet, is_within}
use Rattle.module_area.specs.Meaning.{place_of}
use Rattle.brk_table.specs.Meaning.{TablesView, first_place, place_count}
use Rattle.session_book.specs.Meaning.{JobView, session_of}

-- at each place of module m the set is within the place's kind
abbrev pub AreWithin : TablesView → (ℕ → FactSet) → ℕ → Type 0
AreWithin tables sets m =
    (n : ℕ) → first_place tables.tables m ≤ n → n < first_place tables.tables m + place_count tables.tables m
    → is_within (place_of tables.places n).kind (sets n) ≡ true

-- of a session a set at each place, within its kind at those of the session's modules
pub record HasSetsOf (job : JobView) (tables : TablesView) (sessions places : ℕ) (sets : ℕ → ℕ → FactSet) (s : ℕ) : Type 0 where
  pub exists : s < sessions + 1
  pub size : places ≡ length tables.places
  pub within : All (AreWithin tables (sets s)) (session_of job s).modules
