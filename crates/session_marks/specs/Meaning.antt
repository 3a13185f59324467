-- What the claim of the program says by this crate's clauses.
use Rattle.std.specs.Prelude.{ℕ, ◌-◌, Some, List, length, map}
use Rattle.std.specs.List.{range_with_len}
use Rattle.cov_base.specs.Meaning.{FactSet, no_facts}
use Rattle.marks_file.specs.Meaning.{MarkedView, MarksView, rows}
use Rattle.marks_file.specs.declared.marks.MarkedPlace.{MarkedPlace}
use Rattle.module_area.specs.Meaning.{place_of}
use Rattle.module_area.specs.declared.places.Place.{Place}
use Rattle.brk_table.specs.Meaning.{TablesView, first_place, place_count}
use Rattle.session_book.specs.Meaning.{JobView, module_of, session_of}

-- The marks of a session of a job: the table of its modules' places, and a set at each.

-- place n of a module of this base
abbrev pub marked_place : ℕ → List Place → (ℕ → FactSet) → ℕ → MarkedPlace
marked_place base places sets n =
    let p : Place = place_of places n in
    record { location = p.at - base; len = p.len; kind = p.kind; original = p.original; set = sets n }

-- so many places from number n on
abbrev pub marked_places : ℕ → List Place → (ℕ → FactSet) → ℕ → ℕ → List MarkedPlace
marked_places base places sets n count = map (marked_place base places sets) (range_with_len n count)

-- module m; one that has no table has no places
abbrev pub marked_module : JobView → TablesView → (ℕ → FactSet) → ℕ → MarkedView
marked_module j tables sets m = record {
  name = (module_of j m).name;
  base = (module_of j m).base;
  size = length (module_of j m).bytes;
  places = marked_places (module_of j m).base tables.places sets (first_place tables.tables m) (place_count tables.tables m);
}

abbrev pub marked_modules : JobView → TablesView → (ℕ → FactSet) → List ℕ → List MarkedView
marked_modules j tables sets modules = map (marked_module j tables sets) modules

-- the modules of session s in the order of its card; `sets` has the set of the place of each number
abbrev pub session_marks : JobView → TablesView → (ℕ → FactSet) → ℕ → List MarkedView
session_marks j tables sets s = marked_modules j tables sets (session_of j s).modules

-- what one run of the job tells of it: its name too
abbrev pub session_file : JobView → TablesView → (ℕ → FactSet) → ℕ → MarksView
session_file j tables sets s = record { name = Some (session_of j s).name; runs = 1; modules = session_marks j tables sets s }

-- the rows of its table, which hold no sets
abbrev pub session_rows : JobView → TablesView → ℕ → List (List ℕ)
session_rows j tables s = rows (session_marks j tables (λ n. no_facts) s)
