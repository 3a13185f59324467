-- What is done behind each instruction of a task whose drains follow it.
use Rattle.std.specs.Prelude.{◌≡◌, ℕ, ◌*◌, false, Option, All}
use Rattle.std.specs.List.{list_any}
use Rattle.module_area.specs.Meaning.{PlanView, ControlView}
use Rattle.module_area.specs.Rule.{IsPlan}
use Rattle.module_area.specs.Notes.{Notes, after_boundary, own_number}
use Rattle.task_run.specs.Meaning.{nothing}
use Rattle.task_run.specs.Hooks.{Way}
use Rattle.early_report.specs.DrainView.{DrainView}
use Rattle.early_report.specs.Drains.{IsLooking}
use Rattle.early_report.specs.Followed.{HaveGone, Stands, closed_since, is_begun}
use Rattle.early_report.specs.declared.runner.Following.{Following}

-- It has followed so many instructions, with a boundary behind each: each drain stands so, by some count at which its session
-- was closed, or by none.
pub record HasFollowed (plan : PlanView) (n : Notes) (c : ControlView) (done : ℕ) (h : Following) : Type 0 where
  pub is_plan : IsPlan plan
  pub number : own_number n ≡ 2 * done
  pub opened : h.opened ≡ c.opened
  pub each : All (λ (d : DrainView). (closing : Option ℕ) × Stands plan n closing done d) h.drains.items
  pub waits : h.waits ≡ list_any (λ (d : DrainView). is_begun d.stage) h.drains.items

-- It has followed one more: behind a boundary and looks each drain has become the one at its index.
pub record FollowsOne (plan : PlanView) (old new : Notes) (c : ControlView) (done : ℕ) (h g : Following) : Type 0 where
  pub looking : IsLooking (after_boundary old false) new
  pub gone : HaveGone plan new (closed_since h.opened c.opened) done h.drains.items g.drains.items
  pub opened : g.opened ≡ c.opened

-- nothing of the course depends on it
abbrev pub following : {O P : Type 0} → (O → PlanView) → (P → Notes) → Way Following O P
following plan notes = record {
  Key = Unit {0};
  key = λ h. tt;
  after = nothing;
  IsSet = λ h o p c done. HasFollowed (plan o) (notes p) c done h;
  Aside = λ h o p c done q g. FollowsOne (plan o) (notes p) (notes q) c done h g;
}
