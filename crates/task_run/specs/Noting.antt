-- What a pass over planted cells notes.
use Rattle.std.specs.Prelude.{◌≡◌, ℕ, ◌+◌, ◌*◌, ◌^◌, ◌≤◌, true, Option, List, [], ◌∷◌}
use Rattle.cov_base.specs.Meaning.{Visit}
use Rattle.cov_base.specs.declared.limits.TheConstants.{PLACE_LIMIT}
use Rattle.brk_table.specs.Meaning.{TablesView}
use Rattle.module_area.specs.Meaning.{ControlView, control_after, PlanView}
use Rattle.module_area.specs.Control.{after_call}
use Rattle.module_area.specs.Notes.{Notes, calls, is_working}
use Rattle.task_run.specs.Answered.{Makes}

-- The pass is one of the area, which was made for this plan, over the places of the tables, and its task has not ended.
-- There is room: a visit takes at most three calls of the area, and a supervisor call one for each place.
pub record CanNote (is_pass : Type 0) (of_area own : PlanView) (tables : TablesView) (n : Notes) (done shown : ℕ) : Type 0 where
  pub area : is_pass
  pub plan : of_area ≡ own
  pub places : own.places ≡ tables.places
  pub working : is_working n ≡ true
  pub room : calls n ≤ 2 ^ 60 + (6 + PLACE_LIMIT) * done + 3 * shown

-- the pass has made these visits, one after the other
abbrev pub MakesEach : PlanView → Notes → List Visit → Notes → Type 0
MakesEach plan old [] new = new ≡ old
MakesEach plan old (v ∷ vs) new = (mid : Notes) × Makes plan old mid (v ∷ []) × MakesEach plan mid vs new

-- it has changed its task's sessions as the call asks, if there is one, by at most one call of the area for each place
pub record HasAnswered (plan : PlanView) (old : Notes) (c : ControlView) (call : Option ℕ) (new : Notes)
    (d : ControlView) : Type 0 where
  pub notes : new ≡ after_call plan old c call
  pub control : d ≡ control_after c call
  pub few : calls new ≤ calls old + PLACE_LIMIT
