-- What stays of what a pass knows of its drains, and what it comes to.
use Rattle.std.specs.Prelude.{◌≡◌, ℕ, true, List}
use Rattle.cov_base.specs.Meaning.{FactSet}
use Rattle.module_area.specs.Ended.{AreSettled}
use Rattle.module_area.specs.Meaning.{PlanView}
use Rattle.module_area.specs.Notes.{Notes}
use Rattle.module_area.specs.Rule.{IsPlan}
use Rattle.early_report.specs.Acts.{Acts}
use Rattle.early_report.specs.Drains.{has_controlled, AreFinal}
use Rattle.early_report.specs.Told.{sets_under}

-- no call of the area ends it
abbrev pub StaysByActs : {A : Type 0} → (PlanView → Notes → A → Type 0) → Type 0
StaysByActs {A} P = (plan : PlanView) (old new : Notes) (x : A) → IsPlan plan → Acts plan old new → P plan old x → P plan new x

-- sets that the root knows as a controlled session's final ones are those with which the area ends
abbrev pub EndsWithFinal : Type 0
EndsWithFinal = (plan : PlanView) (root : Notes) (s : ℕ) (sets : List FactSet) (finals : ℕ → ℕ → FactSet) →
    IsPlan plan → has_controlled plan s ≡ true → AreFinal plan root s sets → AreSettled plan root finals
    → sets ≡ sets_under plan finals s
