-- The tables of a job's modules.
use Rattle.std.specs.Prelude.{◌≡◌, ◌<◌, ◌≤◌, List, length, get_or, All, AllPairs}
use Rattle.cov_base.specs.Meaning.{ImageView}
use Rattle.cov_base.specs.declared.limits.TheConstants.{PLACE_LIMIT}
use Rattle.brk_table.specs.Meaning.{TableView, all_places}
use Rattle.brk_table.specs.Build.{HasOwnPlaces}

-- a table of one of the modules
pub record IsTableOf (images : List ImageView) (t : TableView) : Type 0 where
  pub image : ImageView
  pub exists : t.«module» < length images
  pub is : get_or images t.«module» image ≡ image
  pub own : HasOwnPlaces t.«module» image t

-- tables of different modules, in rising order
pub record AreTables (images : List ImageView) (tables : List TableView) : Type 0 where
  pub of : All (IsTableOf images) tables
  pub rising : AllPairs (λ t u. t.«module» < u.«module») tables
  pub most : length (all_places tables) ≤ PLACE_LIMIT
