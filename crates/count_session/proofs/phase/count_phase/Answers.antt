use Rattle.std.proofs.Common.{ℕ, ◌<◌, subst, sym, ◌∙◌}
use Rattle.job_run.proofs.Laws.{are_empty, have_run, whatever, begun_in}
use Rattle.task_services.specs.Meaning.{course_of}
use Rattle.count_session.proofs.PassLemmas.{counted_if, joins_start}
use Rattle.count_session.proofs.phase.count_phase.Goals as goal

pub run_crew-requires-clause-fit : goal.run_crew-requires-clause-fit
run_crew-requires-clause-fit g c κs within = record { plan = c.in_ok-cells.ensures.plan ∙ c.in_ok-plan.ensures; job = c.requires.job; codes = c.requires.codes }

pub run_crew-requires-clause-root : goal.run_crew-requires-clause-root
run_crew-requires-clause-root g c κs within =
    joins_start c.in_ok-cells.cells c.args.job.now c.args.tables.now.places c.in_ok-plan.plan c.plant_all.new.root c.in_ok-cells.ensures.plan c.plant_all.ensures.area c.plant_all.ensures.same c.plant_all.ensures.planted

pub run_crew-requires-clause-ready : goal.run_crew-requires-clause-ready
run_crew-requires-clause-ready g c κs within = record {
  count = c.requires.before.tasks.count;
  empty = c.requires.before.empty;
  can = λ t d its. begun_in (course_of c.args.job.now.services) c.args.job.now c.args.tables.now.places c.args.phase t c.args.slots.now d c.requires.before.tasks (subst (λ (n : ℕ). t < n) (sym c.requires.before.tasks.count) its.exists) its.its;
}

pub finish-requires-clause-joined : goal.finish-requires-clause-joined
finish-requires-clause-joined g c = c.run_crew.ensures.root.passes ∙ sym c.run_crew.ensures.root.given

pub returns-clause-counts : goal.returns-clause-counts
returns-clause-counts g c =
    counted_if c.args.job.now c.args.tables.now.places c.args.phase c.in_ok-cells.cells c.run_crew.new.root c.finish.result (c.in_ok-cells.ensures.plan ∙ c.in_ok-plan.ensures) c.run_crew.ensures.root c.finish.ensures

pub returns-clause-next : goal.returns-clause-next
returns-clause-next g c = whatever c.finish.result record {
  tasks = have_run _ _ c.args.job.now c.args.phase c.args.slots.now c.run_crew.new.slots c.run_crew.ensures.back (course_of c.args.job.now.services) c.args.tables.now.places (λ t d e x p ends. ends) c.requires.before.tasks;
  empty = are_empty _ _ c.args.job.now c.args.phase c.args.slots.now c.run_crew.new.slots c.run_crew.ensures.back c.requires.before.empty;
}
