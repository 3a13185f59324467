-- The effect of a BC or a BCT, by what is known of it.
use Rattle.std.proofs.Common.{◌≡◌, ℕ, List, Option, Some, None, sym, ap}
use Rattle.cov_base.specs.Meaning.{CpuView, IoView, Memory}
use Rattle.s370_branch.specs.Meaning.{branched}
use Rattle.s370_decode.specs.Meaning.{first_half, op_of}
use Rattle.s370_decode.specs.declared.code.Code.{Code}
use Rattle.s370_decode.specs.declared.op.Op.TheVariants.{BC, BCT}
use Rattle.s370_exec.specs.Effects.{effect_of, executed}
use Rattle.s370_exec.specs.Meaning.{effect, updated, link_code, onward, row_of, unless_branched}
use Rattle.s370_state.specs.Meaning.{machine_of, operate}
use Rattle.s370_state.specs.declared.endings.Next.TheVariants.{On}

module _ (m : Memory) (cpu to : CpuView) (bytes : List ℕ) (io : IoView) (c : Code) (next : ℕ) (follows : next ≡ updated c None) where
  pub condition_effect : op_of (first_half c) ≡ BC → ((link : ℕ) → Some to ≡ branched BC cpu c next link) → effect_of to bytes io On ≡ executed c None m (machine_of cpu bytes) io
  unfolding effect
  condition_effect op goes = rw (op, sym follows)
      (ap (λ (o : Option CpuView). unless_branched o (machine_of cpu bytes) io (onward next io (operate m (machine_of cpu bytes) (row_of BC c m (machine_of cpu bytes))))) (goes (link_code c None)))

  pub count_effect : op_of (first_half c) ≡ BCT → ((link : ℕ) → Some to ≡ branched BCT cpu c next link) → effect_of to bytes io On ≡ executed c None m (machine_of cpu bytes) io
  unfolding effect
  count_effect op goes = rw (op, sym follows)
      (ap (λ (o : Option CpuView). unless_branched o (machine_of cpu bytes) io (onward next io (operate m (machine_of cpu bytes) (row_of BCT c m (machine_of cpu bytes))))) (goes (link_code c None)))
