-- What the supervisor calls of a run make of a pass.
use Rattle.std.specs.Prelude.{◌≡◌, ◌↔◌, ℕ, ◌+◌, ◌*◌, true, Option, Some, List, [], ◌∷◌, take}
use Rattle.cov_base.specs.Meaning.{Visit}
use Rattle.module_area.specs.Meaning.{PlanView, has_place, has_session, ControlView, places_under, control_after}
use Rattle.cov_base.specs.declared.numbers.SessNo.{SessNo}
use Rattle.module_area.specs.Notes.{Notes}
use Rattle.module_area.specs.Control.{after_call}
use Rattle.task_run.specs.Observed.{Observes}
use Rattle.module_area.specs.Tied.{IsTied}
use Rattle.task_run.specs.Answered.{RisesAt, known_tag, Answered}
use Rattle.task_run.specs.Meaning.{at_places, control_by, places_of, places_in_all, beats_by}

abbrev pub notes_by : PlanView → Notes → ControlView → List (Option ℕ) → Notes
notes_by plan n c [] = n
notes_by plan n c (k ∷ ks) = notes_by plan (after_call plan n c k) (control_after c k) ks

-- the last tags of the pass after so many instructions
abbrev pub last_by : PlanView → Notes → ControlView → List (Option ℕ) → ℕ → ℕ → ℕ
last_by plan n c calls before = (notes_by plan n c (take before calls)).last

-- From the old to the new notes the pass has made these visits, and at each instruction has opened or closed what its
-- call asks for, behind the instruction's visits. Where it is tied to a control that has opened nothing, the tags of its
-- fetches never fall at any place.
pub record Follows (plan : PlanView) (old new : Notes) (trace : List Visit) (calls : List (Option ℕ))
    (c d : ControlView) : Type 0 where
  pub observes : Observes plan old new trace
  pub answered : Answered plan old new (last_by plan old c calls) trace
  pub rises : IsTied plan old c → c.next ≡ 0 → (p : ℕ) → RisesAt p (known_tag plan old p) answered.pairs (known_tag plan new p)
  pub control : d ≡ control_by c calls
  pub last : new.last ≡ (notes_by plan old c calls).last
  pub plants : new.tally.plants ≡ (notes_by plan old c calls).tally.plants
  pub closes : new.tally.closes ≡ (notes_by plan old c calls).tally.closes
  -- its beats are, instruction by instruction, its fetches and then the tags that its call gave
  pub beats : new.beats ≡ beats_by plan c 0 calls answered.pairs (at_places plan.places trace) old.beats

-- At a place of a session of the control the last tag before an instruction is the session's odd one exactly where the
-- session is open then: behind the instruction that opens it, up to and including the one that closes it.
pub record HasWindows (plan : PlanView) (old : Notes) (c : ControlView) (calls : List (Option ℕ)) : Type 0 where
  pub exact : (before : ℕ) (s : SessNo) (p : ℕ) → has_session c.sessions s.0 ≡ true → has_place (places_under plan s.0) p ≡ true →
      (last_by plan old c calls before p + 1 ≡ 2 * s.0) ↔ ((control_by c (take before calls)).opened ≡ Some s)

-- one plant for each place of each session that was opened, and one close for each place of those but the open one
pub record HasPlanted (plan : PlanView) (old new : Notes) (d : ControlView) : Type 0 where
  pub plants : new.tally.plants ≡ old.tally.plants + places_in_all plan (take d.next d.sessions)
  pub closes : new.tally.closes + places_of plan d.opened ≡ old.tally.closes + places_in_all plan (take d.next d.sessions)
