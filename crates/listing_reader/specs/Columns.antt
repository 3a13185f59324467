-- What the columns of either width keep.
use Rattle.std.specs.Prelude.{◌≤◌}
use Rattle.listing_reader.specs.declared.columns.Columns.{Columns}

-- columns count from 1, and a location fits 32 bits
pub record AreColumns (c : Columns) : Type 0 where
  pub location : 1 ≤ c.location
  pub digits : c.digits ≤ 8
  pub object : 1 ≤ c.object
  pub source : 1 ≤ c.source
