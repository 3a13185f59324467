use Rattle.std.proofs.Common.{ℕ, ◌<◌, get_or}
use Rattle.module_area.specs.Meaning.{place_of}
use Rattle.module_area.specs.PlanView.{MayStand}
use Rattle.module_area.proofs.checked_plan.may_all_stand.Given as goal

abbrev pub invariant-loop-i : goal.invariant-loop-i
invariant-loop-i l = (p : ℕ) → p < l.i → MayStand (place_of l.places p) (get_or l.windows p 0) l.sessions
