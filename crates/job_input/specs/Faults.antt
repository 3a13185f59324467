-- What is told where a job has no tables.
use Rattle.std.specs.Prelude.{◌≡◌, ◌⊎◌, Option, Some}
use Rattle.job_input.specs.declared.table_faults.TablesFault.{TablesFault}
use Rattle.job_input.specs.declared.table_faults.TablesFault.TheVariants as first

-- it is the first; want of memory may come at any time
abbrev pub IsFaultOf : Option TablesFault → TablesFault → Type 0
IsFaultOf first' e = (e ≡ first.NoMemory) ⊎ (first' ≡ Some e)
