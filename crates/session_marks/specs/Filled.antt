-- Marks with other sets at their places.
use Rattle.std.specs.Prelude.{ℕ, ◌+◌, ◌≤◌, List, [], ◌∷◌, length}
use Rattle.cov_base.specs.Meaning.{FactSet}
use Rattle.brk_table.specs.Meaning.{TablesView, first_place}
use Rattle.marks_file.specs.Meaning.{MarkedView}
use Rattle.marks_file.specs.declared.marks.MarkedPlace.{MarkedPlace}

-- from number n on
abbrev pub with_sets : (ℕ → FactSet) → ℕ → List MarkedPlace → List MarkedPlace
with_sets sets n [] = []
with_sets sets n (p ∷ ps) = record p { set = sets n } ∷ with_sets sets (n + 1) ps

abbrev pub filled_module : (ℕ → FactSet) → ℕ → MarkedView → MarkedView
filled_module sets first m = record m { places = with_sets sets first m.places }

-- module by module, by the numbers of the modules
abbrev pub filled : TablesView → (ℕ → FactSet) → List MarkedView → List ℕ → List MarkedView
filled tables sets [] ns = []
filled tables sets (m ∷ ms) [] = m ∷ ms
filled tables sets (m ∷ ms) (n ∷ ns) = filled_module sets (first_place tables.tables n) m ∷ filled tables sets ms ns

-- the places of each module are places of the tables
abbrev pub AreThere : TablesView → List MarkedView → List ℕ → Type 0
AreThere tables [] ns = Unit {0}
AreThere tables (m ∷ ms) [] = Unit {0}
AreThere tables (m ∷ ms) (n ∷ ns) = (first_place tables.tables n + length m.places ≤ length tables.places) × AreThere tables ms ns
