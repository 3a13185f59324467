-- Areas of which a call knows nothing.
use Rattle.job_run.specs.Meaning.{Account}
use Rattle.run_reports.specs.Meaning.{AreasChange}

abbrev pub no_change : Account → AreasChange
no_change a = record { before = a; after = a }
