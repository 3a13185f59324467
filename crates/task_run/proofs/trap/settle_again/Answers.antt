use Rattle.std.proofs.Common.{ℕ, ◌/◌, sym, ap, ◌∙◌}
use Rattle.task_run.proofs.TrapLemmas.{is_bc, is_bct}
use Rattle.task_run.proofs.trap.settle_again.Goals as goal

pub condition_again-requires-clause-op : goal.condition_again-requires-clause-op
condition_again-requires-clause-op g c = is_bc _ (ap (λ (h : ℕ). h / 256) (sym c.first_half.ensures) ∙ c.in-71.is)

pub count_again-requires-clause-op : goal.count_again-requires-clause-op
count_again-requires-clause-op g c = is_bct _ (ap (λ (h : ℕ). h / 256) (sym c.first_half.ensures) ∙ c.in-70.is)
