-- The drains of a task before it runs.
use Rattle.std.specs.Prelude.{◌≡◌, List}
use Rattle.module_area.specs.Meaning.{PlanView}
use Rattle.module_area.specs.Notes.{Notes, bearer, own_number}
use Rattle.early_report.specs.DrainView.{DrainView}
use Rattle.early_report.specs.Followed.{first_drains}

-- no boundary was made, and they are the unused ones of the sessions that the pass's task controls
pub record IsAtStart (plan : PlanView) (n : Notes) (drains : List DrainView) : Type 0 where
  pub number : own_number n ≡ 0
  pub unused : drains ≡ first_drains plan (bearer n)
