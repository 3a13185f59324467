use Rattle.std.proofs.Common.{◌≡◌, ℕ, Some}
use Rattle.cov_base.specs.Meaning.{CpuView}
use Rattle.s370_decode.specs.declared.code.Code.{Code}
use Rattle.s370_decode.specs.declared.op.Op.{Op}
use Rattle.s370_branch.specs.Meaning.{branched}
use Rattle.s370_branch.proofs.branches.branch.Goals as goal

same : (a b : Op) (s : CpuView) (c : Code) (next link : ℕ) (x : CpuView) → a ≡ b → Some x ≡ branched b s c next link → Some x ≡ branched a s c next link
same a b s c next link x e h = rw e h

pub returns-in-BC : goal.returns-in-BC
returns-in-BC c = same _ _ _ _ _ c.args.link _ c.in-BC.is (c.branch_on_condition.ensures c.args.link)

pub returns-in-BCR : goal.returns-in-BCR
returns-in-BCR c = same _ _ _ _ _ c.args.link _ c.in-BCR.is (c.branch_on_condition_register.ensures c.args.link)

pub returns-in-BCT : goal.returns-in-BCT
returns-in-BCT c = same _ _ _ _ _ c.args.link _ c.in-BCT.is (c.branch_on_count.ensures c.args.link)

pub returns-in-BCTR : goal.returns-in-BCTR
returns-in-BCTR c = same _ _ _ _ _ c.args.link _ c.in-BCTR.is (c.branch_on_count_register.ensures c.args.link)

pub returns-in-BAS : goal.returns-in-BAS
returns-in-BAS c = same _ _ _ _ _ c.args.link _ c.in-BAS.is (c.branch_and_save.ensures c.args.link)

pub returns-in-BASR : goal.returns-in-BASR
returns-in-BASR c = same _ _ _ _ _ c.args.link _ c.in-BASR.is (c.branch_and_save_register.ensures c.args.link)
