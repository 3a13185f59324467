-- What the fetches of a pass answered, visit by visit.
use Rattle.std.specs.Prelude.{◌≡◌, ◌≢◌, ◌⊎◌, ℕ, ◌≤◌, true, if◌then◌else◌, min, Option, List, [], ◌∷◌, ◌++◌}
use Rattle.cov_base.specs.Meaning.{has_fact, Visit}
use Rattle.cov_base.specs.declared.facts.Fact.{Fact}
use Rattle.module_area.specs.declared.cells.Cell.{Cell}
use Rattle.module_area.specs.Meaning.{PlanView, is_over, tag_session, ControlView}
use Rattle.module_area.specs.Notes.{Notes, keeps}
use Rattle.module_area.specs.Control.{after_call}
use Rattle.task_run.specs.Sights.{BeginsAt}
use Rattle.task_run.specs.Meaning.{at_places, facts_under, mets}
use Rattle.task_run.specs.Observed.{IsRecorded, Observes}

-- Place and cell of the fetch at a visit. A tag that is not 0 is of a session over the place. Where the pass keeps the
-- place, the cell has the tag that the pass gave it last, which is told by the number of instructions done before.
pub record IsPair (plan : PlanView) (old : Notes) (last : ℕ → ℕ → ℕ) (x : ℕ × Cell) (v : Visit) : Type 0 where
  pub begins : BeginsAt plan.places v.at x.0
  pub over : x.1.tag ≢ 0 → is_over plan (tag_session x.1.tag) x.0 ≡ true
  pub kept : keeps plan old x.0 ≡ true → x.1.tag ≡ last v.before x.0

-- one for each of the visits, in order
abbrev pub ArePairs : PlanView → Notes → (ℕ → ℕ → ℕ) → List (ℕ × Cell) → List Visit → Type 0
ArePairs plan old last [] [] = Unit {0}
ArePairs plan old last [] (v ∷ vs) = ⊥
ArePairs plan old last (x ∷ xs) [] = ⊥
ArePairs plan old last (x ∷ xs) (v ∷ vs) = IsPair plan old last x v × ArePairs plan old last xs vs

-- the tags of the pairs at place p never fall, from the first number up to the last
abbrev pub RisesAt : ℕ → ℕ → List (ℕ × Cell) → ℕ → Type 0
RisesAt p low [] high = low ≤ high
RisesAt p low (x ∷ xs) high = (mid : ℕ) × (low ≤ mid) × (x.0 ≡ p → (low ≤ x.1.tag) × (x.1.tag ≤ mid)) × RisesAt p mid xs high

-- the highest tag that a pass knows of the place, where it keeps that no higher than the one that it gave it last
abbrev pub known_tag : PlanView → Notes → ℕ → ℕ
known_tag plan n p = if keeps plan n p then min (n.last p) (n.seen p) else n.seen p

-- The pass has a pair for each visit at a place. What the visits show under the odd tag of a session it marked for that
-- session, or met the set full; and it marked nothing else.
pub record Answered (plan : PlanView) (old new : Notes) (last : ℕ → ℕ → ℕ) (visits : List Visit) : Type 0 where
  pub pairs : List (ℕ × Cell)
  pub appended : new.answered ≡ old.answered ++ pairs
  pub each : ArePairs plan old last pairs (at_places plan.places visits)
  pub shown : (s p : ℕ) (f : Fact) → has_fact (facts_under plan s p pairs (at_places plan.places visits)) f ≡ true
      → IsRecorded new s p f
  pub nothing_else : (s p : ℕ) (f : Fact) → new.marked s p f ≡ true
      → old.marked s p f ≡ true ⊎ has_fact (facts_under plan s p pairs (at_places plan.places visits)) f ≡ true

-- it has planted and closed nothing, knows of no lower tag, has made no boundary, and has looked at no task and no set
pub record LeavesSessions (old new : Notes) : Type 0 where
  pub seen : (p : ℕ) → old.seen p ≤ new.seen p
  pub last : new.last ≡ old.last
  pub plants : new.tally.plants ≡ old.tally.plants
  pub closes : new.tally.closes ≡ old.tally.closes
  pub numbers : new.numbers ≡ old.numbers
  pub noted : new.noted ≡ old.noted
  pub settled : new.settled ≡ old.settled

-- the pass has made these visits itself, and nothing else
pub record Makes (plan : PlanView) (old new : Notes) (visits : List Visit) : Type 0 where
  pub observes : Observes plan old new visits
  pub answered : Answered plan old new (λ before. old.last) visits
  pub rises : (p : ℕ) → RisesAt p (known_tag plan old p) answered.pairs (known_tag plan new p)
  pub still : LeavesSessions old new
  pub beats : new.beats ≡ mets answered.pairs old.beats

-- It has made the visits of an instruction, and behind all of them has changed its task's sessions as the call that the
-- instruction executes asks, if it is one.
pub record Turns (plan : PlanView) (old new : Notes) (visits : List Visit) (c : ControlView) (call : Option ℕ) : Type 0 where
  pub mid : Notes
  pub makes : Makes plan old mid visits
  pub notes : new ≡ after_call plan mid c call
