-- What contracts see of a drain.
use Rattle.std.specs.Prelude.{ℕ, Option, List}
use Rattle.cov_base.specs.Meaning.{FactSet}
use Rattle.cov_base.specs.declared.numbers.TaskNo.{TaskNo}
use Rattle.early_report.specs.declared.drains.Stage.{Stage}

-- session, stage, the noted number of each other task, the entry at which the last poll has stopped, the polls that
-- were Pending, the count of its user, and a set for each place of the session
pub record DrainView : Type 0 where
  pub session : ℕ
  pub stage : Stage
  pub noted : List (TaskNo × ℕ)
  pub last : Option (TaskNo × ℕ)
  pub polls : ℕ
  pub at : ℕ
  pub sets : List FactSet
