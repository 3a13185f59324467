use Rattle.std.proofs.Common.{rules, ◌≡◌}
use Rattle.brk_table.specs.Places.{ArePlaces}
use Rattle.session_book.specs.JobView.{IsJob}
use Rattle.phase_plan.specs.Meaning.{plan_view}
use Rattle.phase_plan.proofs.PlanLemmas.{is_plan}
use Rattle.phase_plan.proofs.plans.plan_of.Goals as goal

pub invariant_of-result : goal.invariant_of-result
invariant_of-result c =
    let job : IsJob c.args.job.now = rw (← c.job.view_is) c.job.invariant in
    let are : ArePlaces c.args.tables.now.places = rw (← c.in_ok-places.ensures.value) c.in_ok-places.ensures.places in
    let same : record { places = c.in_ok-places.places.items; windows = c.in_ok-windows.windows.items; controlled = c.in_ok-controlled.controlled.items; tasks = c.in_ok-tasks.tasks.items; sessions = c.len.result } ≡ plan_view c.args.job.now c.args.tables.now.places c.args.phase = search rules in
    rw same (is_plan c.args.job.now c.args.tables.now.places c.args.phase job are)
