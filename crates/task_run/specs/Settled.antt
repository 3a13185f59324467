-- What is told of a task's run by the sets that its phase ends with.
use Rattle.std.specs.Prelude.{ℕ}
use Rattle.cov_base.specs.Meaning.{FactSet}
use Rattle.module_area.specs.Ended.{AreSettled}
use Rattle.module_area.specs.Meaning.{PlanView}
use Rattle.module_area.specs.Notes.{Notes}

-- it is so by whatever sets that may be, by what a pass of the task has noted
abbrev pub OnceSettled : PlanView → Notes → ((ℕ → ℕ → FactSet) → Type 0) → Type 0
OnceSettled plan n told = (sets : ℕ → ℕ → FactSet) → AreSettled plan n sets → told sets
