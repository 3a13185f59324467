-- A table's places in its module.
use Rattle.std.specs.Prelude.{◌≡◌, ℕ, ◌+◌, ◌-◌, ◌*◌, ◌≤◌, length, slice_index, All, AllPairs}
use Rattle.cov_base.specs.Meaning.{ImageView}
use Rattle.module_area.specs.declared.places.Place.{Place}
use Rattle.brk_table.specs.Meaning.{TableView}
use Rattle.brk_table.specs.Places.{IsPlace, AreApart, HasRisingPlaces, HasItsPlaces}

-- a place of module m lies in it, and has its halfword there
pub record IsOwn (m : ℕ) (image : ImageView) (p : Place) : Type 0 where
  pub of : p.«module» ≡ m
  pub from : image.base ≤ p.at
  pub to : p.at + p.len ≤ image.base + length image.bytes
  pub original : p.original ≡ slice_index image.bytes (p.at - image.base) * 256 + slice_index image.bytes (p.at - image.base + 1)

-- what every table that was built has
pub record HasOwnPlaces (m : ℕ) (image : ImageView) (t : TableView) : Type 0 where
  pub of : t.«module» ≡ m
  pub each : All IsPlace t.places
  pub own : All (IsOwn m image) t.places
  pub apart : AllPairs AreApart t.places
  pub rising : HasRisingPlaces t
  pub lines : HasItsPlaces t
