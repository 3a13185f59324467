-- What a pass has done and knows after some visits.
use Rattle.std.specs.Prelude.{◌≡◌, ◌⊎◌, ℕ, ◌+◌, ◌*◌, ◌<◌, ◌≤◌, true, List, length}
use Rattle.cov_base.specs.Meaning.{has_fact, Visit}
use Rattle.cov_base.specs.declared.facts.Fact.{Fact}
use Rattle.module_area.specs.Meaning.{PlanView, place_of, window_at, facts_at, visits_at_places}
use Rattle.module_area.specs.Notes.{Notes}

-- Nothing is forgotten, and what the pass met full it met free or tried to lift.
pub record Grows (old new : Notes) : Type 0 where
  pub marked : (s p : ℕ) (f : Fact) → old.marked s p f ≡ true → new.marked s p f ≡ true
  pub full : (s p : ℕ) → old.full s p ≡ true → new.full s p ≡ true
  pub free : (s p : ℕ) → old.free s p ≡ true → new.free s p ≡ true
  pub met : (s p : ℕ) → new.full s p ≡ true → old.full s p ≡ true ⊎ new.free s p ≡ true
  pub bears : new.bears ≡ old.bears
  pub given : new.given ≡ old.given
  pub out : new.out ≡ old.out

-- the pass marked the fact for the session at the place, or met the set full
abbrev pub IsRecorded : Notes → ℕ → ℕ → Fact → Type 0
IsRecorded notes s p f = notes.marked s p f ≡ true ⊎ notes.full s p ≡ true

-- The odd tag of the session is what each fetch of the pass at the place answers: the notes have seen the place planted
-- by it, and it is the place's whole session, which doesn't close while tasks run.
pub record Stays (plan : PlanView) (notes : Notes) (s p : ℕ) : Type 0 where
  pub some : 0 < s
  pub whole : window_at plan p ≡ s
  pub seen : notes.seen p + 1 ≡ 2 * s

-- the visits show the fact at the place, which is one of the plan
pub record ShowsAt (plan : PlanView) (visits : List Visit) (p : ℕ) (f : Fact) : Type 0 where
  pub exists : p < length plan.places
  pub there : has_fact (facts_at (place_of plan.places p) visits) f ≡ true

-- From the old to the new notes the pass has made these visits: it marked no fact that they don't show, and where the
-- session's tag stays it marked all that they show, or met the set full. One fetch for each visit at a place.
pub record Observes (plan : PlanView) (old new : Notes) (visits : List Visit) : Type 0 where
  pub grows : Grows old new
  pub nothing_else : (s p : ℕ) (f : Fact) → new.marked s p f ≡ true → old.marked s p f ≡ true ⊎ ShowsAt plan visits p f
  pub shown : (s p : ℕ) (f : Fact) → Stays plan old s p → ShowsAt plan visits p f → IsRecorded new s p f
  pub stays : (s p : ℕ) → Stays plan old s p → Stays plan new s p
  pub fetches : new.tally.fetches ≡ old.tally.fetches + visits_at_places plan.places visits
  pub marks : new.tally.marks ≤ old.tally.marks + visits_at_places plan.places visits
  pub lifts : new.tally.lifts ≤ old.tally.lifts + visits_at_places plan.places visits
