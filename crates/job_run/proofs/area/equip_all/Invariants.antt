use Rattle.std.proofs.Common.{◌≡◌}
use Rattle.job_run.specs.Crews.{Own, phase_at}
use Rattle.job_run.proofs.EachLemmas.{Along}
use Rattle.job_run.proofs.EquipLemmas.{IsEquippedSlot}
use Rattle.job_run.proofs.area.equip_all.Given as goal

abbrev pub invariant-loop-t : goal.invariant-loop-t
invariant-loop-t g l = Along (λ t x y. y ≡ x) (Own (phase_at l.job l.phase) (IsEquippedSlot g.R.Runner.begins l.plan l.job l.tables.places)) l.t l.initial.slots l.slots
