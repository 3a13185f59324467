-- What a task's space keeps.
use Rattle.std.specs.Prelude.{◌≡◌, ◌≤◌, Bool, length, nat_lt, All}
use Rattle.cov_base.specs.declared.limits.TheConstants.{PRIVATE_LIMIT}
use Rattle.module_area.specs.Images.{AreImages}
use Rattle.brk_table.specs.Places.{IsIn, ArePlaces}
use Rattle.space_map.specs.Space.{SpaceView}

pub record IsSpace (s : SpaceView) (monitored : Bool) : Type 0 where
  pub most : length s.bytes ≤ PRIVATE_LIMIT
  pub are_images : AreImages s.images
  pub are_places : ArePlaces s.places
  pub in_images : All (IsIn s.images) s.places
  pub has_places : monitored ≡ nat_lt 0 (length s.places)
