-- What a mark of a fact that a set has already leaves in the notes.
use Rattle.std.specs.Prelude.{◌≡◌, ℕ, Bool, true, false}
use Rattle.cov_base.specs.declared.facts.Fact.{Fact}
use Rattle.cov_base.specs.Meaning.{FactSet, no_facts, with_fact}
use Rattle.module_area.specs.Meaning.{PlanView}
use Rattle.module_area.specs.Notes.{Notes, after_mark, IsFound}

-- the set of this fact alone
abbrev pub only : Fact → FactSet
only f = with_fact no_facts f

-- it was marked, where the set was found with this fact alone, or else nothing was done
abbrev pub MarksAgain : PlanView → Notes → ℕ → ℕ → Fact → Bool → Notes → Type 0
MarksAgain plan old s p f true new = IsFound plan old s p (only f) × (new ≡ after_mark plan old s p f (only f))
MarksAgain plan old s p f false new = new ≡ old
