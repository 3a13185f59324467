-- The counts that an area ends with.
use Rattle.std.specs.Prelude.{◌≡◌, ℕ, ◌<◌, if◌then◌else◌, List, length, get_or}
use Rattle.cov_base.specs.FactKind.{is_of_kind}
use Rattle.cov_base.specs.declared.facts.Fact.{Fact}
use Rattle.cov_base.specs.declared.facts.Fact.TheVariants.{Ran, Went, Stayed}
use Rattle.cov_base.specs.declared.facts.Kind.TheVariants.{Straight}
use Rattle.module_area.specs.Meaning.{PlanView, kind_at}
use Rattle.count_session.specs.Words.{count_word}
use Rattle.count_session.specs.Notes.{CountNotes}
use Rattle.count_session.specs.declared.counts.PlaceCount.{PlaceCount}

abbrev pub no_count : PlaceCount
no_count = record { kind = Straight; first = 0; stayed = 0 }

abbrev pub counted : PlaceCount → Fact → ℕ
counted c Ran = c.first
counted c Went = c.first
counted c Stayed = c.stayed

-- a fact that isn't of the place's kind was never added
abbrev pub fact_count : PlaceCount → Fact → ℕ
fact_count c f = if is_of_kind c.kind f then counted c f else 0

-- the count of the fact at place p
abbrev pub count_in : List PlaceCount → ℕ → Fact → ℕ
count_in counts p f = fact_count (get_or counts p no_count) f

-- one for each place: what the pass, and those that were joined to it, added
pub record HasCounts (plan : PlanView) (notes : CountNotes) (counts : List PlaceCount) : Type 0 where
  pub size : length counts ≡ length plan.places
  pub added : (p : ℕ) (f : Fact) → p < length plan.places → count_in counts p f ≡ notes.added p f

-- the counts as the words have them
pub record IsRead (plan : PlanView) (words : List ℕ) (p : ℕ) (c : PlaceCount) : Type 0 where
  pub kind : c.kind ≡ kind_at plan p
  pub first : c.first ≡ get_or words (count_word (length plan.places) p Ran) 0
  pub stayed : c.stayed ≡ get_or words (count_word (length plan.places) p Stayed) 0

abbrev pub AreRead : PlanView → List ℕ → List PlaceCount → Type 0
AreRead plan words counts = (p : ℕ) → p < length counts → IsRead plan words p (get_or counts p no_count)
