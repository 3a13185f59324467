-- The sets that marks are made of, and a part of the marks of a module.
use Rattle.std.specs.Prelude.{◌≡◌, ℕ, ◌+◌, ◌-◌, ◌<◌, List, length}
use Rattle.cov_base.specs.Meaning.{FactSet}
use Rattle.marks_file.specs.declared.marks.MarkedPlace.{MarkedPlace}
use Rattle.brk_table.specs.Meaning.{TablesView}
use Rattle.session_marks.specs.Meaning.{marked_places}

-- there is a session s, and a set of it at each place of the tables
pub record HasSets (sessions places : ℕ) (tables : TablesView) (s : ℕ) : Type 0 where
  pub some : 0 < s
  pub exists : s < sessions + 1
  pub size : places ≡ length tables.places

-- its places from `first` on, below `past`
abbrev pub marked_between : ℕ → TablesView → (ℕ → FactSet) → ℕ → ℕ → List MarkedPlace
marked_between base tables sets first past = marked_places base tables.places sets first (past - first)
