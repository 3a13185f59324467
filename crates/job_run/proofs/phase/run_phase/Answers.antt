use Rattle.std.proofs.Common.{subst}
use Rattle.module_area.specs.Rule.{IsPlan}
use Rattle.job_run.proofs.phase.run_phase.Goals as goal

pub run_planned-requires-clause-is_plan : goal.run_planned-requires-clause-is_plan
run_planned-requires-clause-is_plan g c κs within = subst IsPlan c.plan.view_is c.plan.invariant
