-- The sets of an ended area.
use Rattle.std.specs.Prelude.{◌≡◌, ℕ, ◌+◌, ◌/◌, ◌%◌, ◌<◌, List, length, get_or}
use Rattle.cov_base.specs.Meaning.{FactSet, no_facts}
use Rattle.module_area.specs.Meaning.{PlanView}
use Rattle.shared_area.specs.Words.{sets_in}

-- the sets that the words show, those of session 1 first, place by place
abbrev pub AreSets : PlanView → List ℕ → List FactSet → Type 0
AreSets plan words sets =
    (i : ℕ) → i < length sets → get_or sets i no_facts ≡ sets_in plan words (i / length plan.places + 1) (i % length plan.places)
