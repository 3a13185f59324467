-- What `prove` has done where it wrote no whole evidence, and which facts evidence has entries of.
use Rattle.std.specs.Prelude.{◌≡◌, ℕ, Option, List, is_some}
use Rattle.cov_base.specs.Meaning.{has_fact}
use Rattle.cov_base.specs.declared.facts.Fact.{Fact}
use Rattle.cov_outside.specs.Meaning.{Rose, AppendsSome}
use Rattle.module_area.specs.declared.places.Place.{Place}
use Rattle.session_book.specs.Meaning.{JobView}
use Rattle.evidence_check.specs.Meaning.{session_first, session_facts}
use Rattle.evidence_check.specs.declared.proving.ProveFault.{ProveFault}
use Rattle.evidence_check.specs.declared.proving.ProveFault.TheVariants.{Failed, NoMemory}

-- the sink failed and has taken a first part of the text; or memory was wanted before anything was written
abbrev pub IsProveFault : {K : Type 0} → (K → Option (List ℕ)) → (K → ℕ) → K → K → List ℕ → ProveFault → Type 0
IsProveFault written faults old new text Failed = AppendsSome (written old) (written new) text × Rose (faults old) (faults new)
IsProveFault written faults old new text NoMemory = new ≡ old

-- at each place some visit is the first to show a fact exactly where the session's set has it
abbrev pub HaveFirsts : JobView → List Place → ℕ → Type 0
HaveFirsts j places s = (n : ℕ) (f : Fact) → is_some (session_first j places s n f) ≡ has_fact (session_facts j places s n) f
