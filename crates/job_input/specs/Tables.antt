-- A job that has its tables.
use Rattle.std.specs.Prelude.{All}
use Rattle.brk_table.specs.Kept.{AreCodes}
use Rattle.brk_table.specs.Meaning.{TablesView}
use Rattle.brk_table.specs.Places.{IsIn}
use Rattle.brk_table.specs.Together.{AreTables}
use Rattle.report_text.specs.Conditions.{HasFewLines}
use Rattle.session_book.specs.Meaning.{JobView}
use Rattle.job_input.specs.Meaning.{Match}

-- a job whose listings match, and what its tables are by that: each place lies in its module and has its instruction
pub record IsReadyJob (j : JobView) (tables : TablesView) : Type 0 where
  pub few : HasFewLines j
  pub matching : Match j tables
  pub own : AreTables j.images tables.tables
  pub places : All (IsIn j.images) tables.places
  pub codes : AreCodes j.images tables
