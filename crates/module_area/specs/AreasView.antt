-- What the areas of a run have told.
use Rattle.std.specs.Prelude.{ℕ, List}
use Rattle.module_area.specs.declared.tallies.Tally.{Tally}
use Rattle.module_area.specs.Meaning.{FinalsView}

-- the tallies and the sets of the finished areas in order, and how many areas were asked for
pub record AreasView : Type 0 where
  pub ledger : List Tally
  pub finals : List FinalsView
  pub made : ℕ
