-- The sets that an area ends with are those that its passes marked.
use Rattle.std.specs.Prelude.{◌≡◌, ℕ, ◌+◌, ◌*◌, ◌<◌, ◌≤◌, true, false, suc, [], length, sum_by}
use Rattle.cov_base.specs.Meaning.{FactSet, has_fact, full_of, is_within}
use Rattle.cov_base.specs.declared.facts.Fact.{Fact}
use Rattle.module_area.specs.Meaning.{PlanView, kind_at, is_over, FinalsView, set_at, fact_count, full_places, full_pairs, Race, IsRace, part}
use Rattle.module_area.specs.Notes.{Notes}

-- what the notes know as final stands so
abbrev pub AreSettled : PlanView → Notes → (ℕ → ℕ → FactSet) → Type 0
AreSettled plan notes sets =
    (s p : ℕ) (x : FactSet) → 0 < s → s ≤ plan.sessions → p < length plan.places → notes.settled s p x ≡ true → sets s p ≡ x

pub record HasSets (plan : PlanView) (notes : Notes) (finals : FinalsView) : Type 0 where
  pub places : finals.places ≡ length plan.places
  pub size : length finals.sets ≡ plan.sessions * length plan.places
  pub marked : (s p : ℕ) (f : Fact) → 0 < s → s ≤ plan.sessions → p < length plan.places
      → has_fact (set_at finals s p) f ≡ notes.marked s p f
  pub within : (s p : ℕ) → 0 < s → s ≤ plan.sessions → p < length plan.places
      → is_within (kind_at plan p) (set_at finals s p) ≡ true
  pub full : (s p : ℕ) → 0 < s → s ≤ plan.sessions → p < length plan.places → notes.full s p ≡ true
      → set_at finals s p ≡ full_of (kind_at plan p)
  -- no tag was seen above the last one
  pub seen : (p : ℕ) → p < length plan.places → notes.seen p ≤ notes.last p
  -- no fact where the session isn't over the place, or by the last tag was never planted there
  pub over : (s p : ℕ) (f : Fact) → 0 < s → s ≤ plan.sessions → p < length plan.places → has_fact (set_at finals s p) f ≡ true
      → is_over plan s p ≡ true
  pub planted : (s p : ℕ) (f : Fact) → 0 < s → s ≤ plan.sessions → p < length plan.places → has_fact (set_at finals s p) f ≡ true
      → 2 * s ≤ notes.last p + 1

-- Each fact was marked at least once. The lifts are at most the sessions and places whose set is full, and, where each set that
-- was met full was met free or tried to be lifted, at least the places whose whole session's set is full.
pub record HasTally (plan : PlanView) (notes : Notes) (finals : FinalsView) : Type 0 where
  pub marks : sum_by fact_count finals.sets ≤ notes.tally.marks
  pub lifts_least : ((s p : ℕ) → notes.full s p ≡ true → notes.free s p ≡ true) → full_places plan finals ≤ notes.tally.lifts
  pub lifts_most : notes.tally.lifts ≤ full_pairs plan finals

-- There is one race, in which each party's beats are its own ones in their order.
pub record HasRace (notes : Notes) : Type 0 where
  pub race : Race
  pub is_race : IsRace race
  pub root : part 0 race ≡ notes.beats
  pub each : (t : ℕ) → notes.given t ≡ true → part (suc t) race ≡ notes.back t
  pub others : (t : ℕ) → notes.given t ≡ false → part (suc t) race ≡ []
