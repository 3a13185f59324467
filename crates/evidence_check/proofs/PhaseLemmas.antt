-- One task more of a phase.
use Rattle.std.proofs.Common.{◌≡◌, ℕ, ◌<◌, List, length, drop}
use Rattle.std.specs.Option.{option_or}
use Rattle.cov_base.specs.declared.facts.Fact.{Fact}
use Rattle.module_area.specs.Meaning.{place_of}
use Rattle.module_area.specs.declared.places.Place.{Place}
use Rattle.session_book.specs.Meaning.{JobView}
use Rattle.evidence_check.specs.Meaning.{trace_of, first_from, phase_first}
use Rattle.evidence_check.specs.Found.{found_at}
use Rattle.evidence_check.specs.declared.firsts.Found.{Found}

-- the tasks before t have been run
pub record HaveRun (j : JobView) (places : List Place) (phase t : ℕ) (found : List Found) : Type 0 where
  pub size : length found ≡ length places
  pub firsts : (n : ℕ) → n < length places → (f : Fact) →
      option_or (found_at found n f) (first_from t (drop t j.tasks) phase (trace_of j places) (place_of places n) f) ≡ phase_first j places phase n f
