-- BC and BCT by their operation codes, and what a trap may mark.
use Rattle.std.proofs.Common.{◌≡◌, ℕ, ◌-◌, ◌*◌, ◌/◌, true, Some, refl, sym, ap, ◌∙◌, arith}
use Rattle.cov_base.specs.declared.facts.Fact.{Fact}
use Rattle.cov_base.specs.FactKind.{is_of_kind}
use Rattle.module_area.specs.declared.cells.Cell.{Cell}
use Rattle.module_area.specs.Allowed.{CanMark}
use Rattle.module_area.specs.Meaning.{PlanView, kind_at}
use Rattle.module_area.specs.Notes.{Notes}
use Rattle.s370_decode.specs.Meaning.{op_in, op_of, operations}
use Rattle.s370_decode.specs.declared.op.Op.TheVariants.{BC, BCT}
use Rattle.task_run.specs.Traps.{IsTrapped}

bc_is : op_in operations 71 ≡ BC
unfolding op_in operations
bc_is = refl

bct_is : op_in operations 70 ≡ BCT
unfolding op_in operations
bct_is = refl

-- by the operation code of the first halfword
pub is_bc : (h : ℕ) → h / 256 ≡ 71 → op_of h ≡ BC
is_bc h e = ap (op_in operations) e ∙ bc_is

pub is_bct : (h : ℕ) → h / 256 ≡ 70 → op_of h ≡ BCT
is_bct h e = ap (op_in operations) e ∙ bct_is

-- a trap may mark for the session of the cell's tag
pub can_mark : (is_pass : Type 0) (plan : PlanView) (n : Notes) (p : ℕ) (c : Cell) (s : ℕ) (f : Fact) → IsTrapped is_pass plan n p c → 2 * s - 1 ≡ c.tag → is_of_kind (kind_at plan p) f ≡ true → CanMark is_pass plan n s p f
can_mark is_pass plan n p c s f trap tag kind = record {
  area = trap.area;
  working = trap.working;
  place = trap.exists;
  room = let r = trap.room in omega arith;
  session = let odd = trap.planted in omega arith;
  pending = trap.pending ∙ ap (λ t. Some (p, t)) (sym tag);
  kind = kind;
}
