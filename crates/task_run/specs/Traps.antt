-- What a trap leaves in the notes.
use Rattle.std.specs.Prelude.{◌≡◌, ℕ, ◌+◌, ◌/◌, ◌%◌, ◌<◌, ◌^◌, Bool, true, false, if◌then◌else◌, Some, length}
use Rattle.cov_base.specs.Meaning.{CpuView, FactSet, with_fact, is_full, fact_of}
use Rattle.cov_base.specs.declared.facts.Fact.{Fact}
use Rattle.cov_base.specs.declared.facts.Kind.TheVariants.{Conditional}
use Rattle.module_area.specs.declared.cells.Cell.{Cell}
use Rattle.module_area.specs.Meaning.{PlanView, kind_at}
use Rattle.module_area.specs.Notes.{Notes, after_mark, after_lift, calls, is_working, IsFound}
use Rattle.s370_branch.specs.Meaning.{goes}
use Rattle.s370_decode.specs.Meaning.{first_half, op_of}
use Rattle.s370_decode.specs.declared.code.Code.{Code}
use Rattle.task_run.specs.declared.observer.Known.{Known}
use Rattle.task_run.specs.declared.observer.Known.TheVariants.{Nothing}

-- The pass is one of the area, with room for more calls, and its task has not ended: it has just fetched this cell at the place,
-- a breakpoint.
pub record IsTrapped (is_pass : Type 0) (plan : PlanView) (n : Notes) (p : ℕ) (c : Cell) : Type 0 where
  pub area : is_pass
  pub room : calls n < 2 ^ 61 + 2 ^ 16
  pub working : is_working n ≡ true
  pub exists : p < length plan.places
  pub pending : n.pending ≡ Some (p, c.tag)
  pub planted : c.tag % 2 ≡ 1

-- the fact is marked, and a lift tried exactly where the set with it is full
abbrev pub settled : PlanView → Notes → ℕ → ℕ → Fact → FactSet → Bool → Notes
settled plan n s p f found exchanged =
    if is_full (kind_at plan p) (with_fact found f) then after_lift (after_mark plan n s p f found) s p exchanged
    else after_mark plan n s p f found

-- so much for some set that the mark found, and some answer of the lift
pub record Settles (plan : PlanView) (old new : Notes) (s p : ℕ) (f : Fact) : Type 0 where
  pub found : FactSet
  pub exchanged : Bool
  pub is_found : IsFound plan old s p found
  pub notes : new ≡ settled plan old s p f found exchanged

-- the fact that the instruction shows there, as it is executed
abbrev pub shown : PlanView → ℕ → Code → CpuView → Fact
shown plan p code cpu = fact_of (kind_at plan p) (goes (op_of (first_half code)) cpu code)

-- where it was done at all, and else nothing was
abbrev pub SettlesAgain : PlanView → Notes → Notes → ℕ → ℕ → Fact → Bool → Type 0
SettlesAgain plan old new s p f true = Settles plan old new s p f
SettlesAgain plan old new s p f false = new ≡ old

-- where something is known of the instruction, and else nothing was done
abbrev pub SettlesKnown : PlanView → Notes → Notes → ℕ → ℕ → Fact → Known → Type 0
SettlesKnown plan old new s p f Nothing = new ≡ old
SettlesKnown plan old new s p f known = Settles plan old new s p f

-- the same of a trap, which has fetched the cell at the place: what is begun there is settled for the cell's session
abbrev pub SettlesAt : PlanView → Notes → Notes → Cell → ℕ → Code → CpuView → Type 0
SettlesAt plan old new c p code cpu = Settles plan old new (c.tag / 2 + 1) p (shown plan p code cpu)

-- of a conditional branch by its outcome
abbrev pub SettlesWent : PlanView → Notes → Notes → Cell → ℕ → Bool → Bool → Type 0
SettlesWent plan old new c p went again = SettlesAgain plan old new (c.tag / 2 + 1) p (fact_of Conditional went) again

-- by what is known of the instruction
abbrev pub Traps : PlanView → Notes → Notes → Cell → ℕ → Code → CpuView → Known → Type 0
Traps plan old new c p code cpu known = SettlesKnown plan old new (c.tag / 2 + 1) p (shown plan p code cpu) known
