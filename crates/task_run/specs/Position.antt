-- Where a task stands among the places.
use Rattle.std.specs.Prelude.{◌≡◌, ℕ, ◌≤◌, Option, List, length, get_or, IfSome}
use Rattle.cov_base.specs.declared.numbers.PlaceNo.{PlaceNo}
use Rattle.module_area.specs.declared.places.Place.{Place}
use Rattle.s370_decode.specs.declared.code.Code.{Code}
use Rattle.brk_table.specs.declared.kept.Kept.{Kept}
use Rattle.brk_table.specs.Meaning.{TablesView}
use Rattle.brk_table.specs.Places.{ArePlaces}
use Rattle.brk_table.specs.Decoded.{AreFrom}
use Rattle.task_run.specs.Sights.{IsPlaced}
use Rattle.task_run.specs.declared.task.Position.{Position}

-- its instructions are those from its place on, or none where there is no place
pub record IsPosition (tables : TablesView) (s : Position) : Type 0 where
  pub places : ArePlaces tables.places
  pub within : s.place ≤ length tables.places
  pub from : AreFrom tables s.place s.kept.now

-- the place that begins at the address, if one does, is where it stands
pub record IsPositionAt (places : List Place) (a : ℕ) (p : Option PlaceNo) (s : Position) : Type 0 where
  pub placed : IsPlaced places a p
  pub there : IfSome p (λ n. n.0 ≡ s.place)

-- the instruction is the place's
pub record IsKeptOf (tables : TablesView) (p : ℕ) (k : Kept) : Type 0 where
  pub places : ArePlaces tables.places
  pub code : (d : Code) → k.decoded.code ≡ get_or tables.codes p d
