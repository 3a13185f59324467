-- The rules of a marks file that a module keeps whatever other modules the file has.
use Rattle.std.specs.Prelude.{◌≡◌, ◌<◌, true, List, All}
use Rattle.cov_base.specs.Meaning.{is_filled}
use Rattle.marks_file.specs.Meaning.{MarkedView, are_places}
use Rattle.marks_file.specs.declared.marks.MarkedPlace.{MarkedPlace}

abbrev pub AreHalfwords : List MarkedPlace → Type 0
AreHalfwords places = All (λ (p : MarkedPlace). p.original < 65536) places

pub record HasGoodFields (m : MarkedView) : Type 0 where
  pub name : is_filled m.name ≡ true
  pub places : are_places m.size 0 m.places ≡ true
