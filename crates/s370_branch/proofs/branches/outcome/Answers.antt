use Rattle.std.proofs.Common.{◌≡◌, ℕ, ◌/◌, refl, sym, ◌∙◌, ap}
use Rattle.s370_decode.specs.Meaning.{first_half, op_in, op_of, operations}
use Rattle.s370_decode.specs.declared.op.Op.{Op}
use Rattle.s370_decode.specs.declared.op.Op.TheVariants.{BC, BCT}
use Rattle.s370_branch.specs.Meaning.{goes}
use Rattle.s370_branch.proofs.branches.outcome.Goals as goal

bc_is : op_in operations 71 ≡ BC
unfolding op_in operations
bc_is = refl

bct_is : op_in operations 70 ≡ BCT
unfolding op_in operations
bct_is = refl

-- the operation of a first halfword with this operation code
by_code : (h half code : ℕ) (op : Op) → h ≡ half → h / 256 ≡ code → op_in operations code ≡ op → op ≡ op_of half
by_code h half code op same is row = sym (ap op_of (sym same) ∙ (ap (op_in operations) is ∙ row))

pub returns-in-71 : goal.returns-in-71
returns-in-71 c = c.goes.ensures ∙ ap (λ (op : Op). goes op c.args.cpu.now c.args.code.now) (by_code c.first_half-half.result (first_half c.args.code.now) 71 BC c.first_half-half.ensures c.in-71.is bc_is)

pub returns-in-70 : goal.returns-in-70
returns-in-70 c = c.goes-in-70.ensures ∙ ap (λ (op : Op). goes op c.args.cpu.now c.args.code.now) (by_code c.first_half-half.result (first_half c.args.code.now) 70 BCT c.first_half-half.ensures c.in-70.is bct_is)
