-- The first visits that were found so far.
use Rattle.std.specs.Prelude.{◌≡◌, ℕ, ◌<◌, if◌then◌else◌, Option, Some, None, List, length, get_or}
use Rattle.std.specs.Option.{option_or}
use Rattle.cov_base.specs.Meaning.{same_fact, Visit}
use Rattle.cov_base.specs.declared.facts.Fact.{Fact}
use Rattle.cov_base.specs.declared.facts.Fact.TheVariants.{Ran, Went, Stayed}
use Rattle.module_area.specs.Meaning.{place_of}
use Rattle.module_area.specs.declared.places.Place.{Place}
use Rattle.brk_table.specs.Meaning.{TablesView}
use Rattle.marks_file.specs.Meaning.{MarkedView}
use Rattle.marks_file.specs.declared.marks.MarkedPlace.{MarkedPlace}
use Rattle.session_book.specs.Meaning.{JobView}
use Rattle.evidence_check.specs.Meaning.{trace_of, first_in, phase_first, places_claims, modules_claims, first_refuted}
use Rattle.evidence_check.specs.declared.firsts.First.{First}
use Rattle.evidence_check.specs.declared.firsts.Found.{Found}

abbrev pub found_of : Found → Fact → Option First
found_of found Ran = found.ran
found_of found Went = found.went
found_of found Stayed = found.stayed

abbrev pub none_found : Found
none_found = record { ran = None; went = None; stayed = None }

abbrev pub found_at : List Found → ℕ → Fact → Option First
found_at found n f = found_of (get_or found n none_found) f

-- from old to new a visit that shows this fact was noted
abbrev pub NotesOne : Fact → First → (Fact → Option First) → (Fact → Option First) → Type 0
NotesOne f first old new = (g : Fact) → new g ≡ option_or (old g) (if same_fact f g then Some first else None)

-- from old to new the visits of task t were noted
pub record Notes (places : List Place) (t : ℕ) (visits : List Visit) (old new : List Found) : Type 0 where
  pub size : length new ≡ length old
  pub firsts : (n : ℕ) → n < length places → (f : Fact)
      → found_at new n f ≡ option_or (found_at old n f) (first_in (place_of places n) f t visits)

-- at each place the first visit of the phase's tasks for each fact
pub record AreFirsts (j : JobView) (places : List Place) (phase : ℕ) (found : List Found) : Type 0 where
  pub size : length found ≡ length places
  pub firsts : (n : ℕ) → n < length places → (f : Fact) → found_at found n f ≡ phase_first j places phase n f

-- at the place of this number
abbrev pub NotesAt : Fact → First → ℕ → List Found → List Found → Type 0
NotesAt f first n old new = NotesOne f first (found_at old n) (found_at new n)

-- those of its run alone
abbrev pub NotesTask : JobView → List Place → ℕ → List Found → List Found → Type 0
NotesTask j places t old new = Notes places t (trace_of j places t) old new

-- the first claim that is refuted by what was found: of places, the first of which has this row and number, and of modules
abbrev pub refuted_place : List Found → ℕ → ℕ → List MarkedPlace → List ℕ → Option (ℕ × Fact)
refuted_place found row first places bs = first_refuted (places_claims (found_at found) row first places bs)

abbrev pub refuted_module : TablesView → List Found → List MarkedView → List ℕ → List ℕ → Option (ℕ × Fact)
refuted_module tables found modules numbers bs = first_refuted (modules_claims tables (found_at found) 0 modules numbers bs)
