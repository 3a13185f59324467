use Rattle.std.proofs.Common.{◌≡◌, ℕ, Some, ap, subst}
use Rattle.task_run.specs.Meaning.{Tour, visits_of}
use Rattle.module_area.specs.Meaning.{PlanView}
use Rattle.task_services.specs.Meaning.{course_of}
use Rattle.job_run.specs.Meaning.{result_of_run}
use Rattle.job_run.specs.Tasks.{done_result, own_run}
use Rattle.job_run.specs.declared.outcome.Done.{Done}
use Rattle.job_run.proofs.Laws.{is_over_begun, plan_here, begun_run, still_filled}
use Rattle.count_session.specs.Counting.{Adds}
use Rattle.count_session.specs.Passes.{notes_of, plan_in}
use Rattle.count_session.proofs.PassLemmas.{counted_there, has_ended}
use Rattle.count_session.proofs.phase.CountCrewCrew.run.Goals as goal

pub run_counted-ending-requires-clause-over : goal.run_counted-ending-requires-clause-over
run_counted-ending-requires-clause-over c =
    let me = c.args.self.now in
    let f = c.requires.fit in
    is_over_begun (plan_in me.cells.now) me.job.now me.tables.now c.args.task.0 c.args.done.now (ap (λ (p : PlanView). p.places) f.plan) f.job f.codes c.requires.task.exists c.requires.can

pub returns-clause-run : goal.returns-clause-run
returns-clause-run c =
    let me = c.args.self.now in
    let plan : PlanView = plan_in me.cells.now in
    let t : ℕ = c.args.task.0 in
    let of = plan_here plan me.job.now me.tables.now.places me.phase t c.requires.fit.plan c.requires.task.its in
    let ran = rw c.services-services.ensures at c.run_counted-ending.ensures.ran in
    let adds = subst (λ (r : Tour). Adds plan (notes_of me.cells.now c.args.pass.now) (notes_of me.cells.now c.run_counted-ending.new.pass) (visits_of r.turns)) (begun_run (course_of me.job.now.services) plan me.job.now me.tables.now.places t c.args.done.now of c.requires.can) ran.adds in
    counted_there me.cells.now _ c.args.pass.now c.run_counted-ending.new.pass c.requires.fresh c.run_counted-ending.ensures.area adds

pub returns-clause-ends : goal.returns-clause-ends
returns-clause-ends c =
    let me = c.args.self.now in
    let plan : PlanView = plan_in me.cells.now in
    let new : Done = record { ending = Some c.run_counted-ending.result; task = c.run_counted-ending.new.task } in
    let ran = rw c.services-services.ensures at c.run_counted-ending.ensures.ran in
    let result : done_result new ≡ result_of_run (own_run (course_of me.job.now.services) plan c.args.done.now) = λ j. record {
      ending = Some (ran.ending j);
      done = (ran.state j).done;
      cpu = (ran.state j).machine.cpu;
      output = (ran.state j).io.output;
      bytes = (ran.state j).machine.bytes;
    } in
    has_ended plan me.job.now me.tables.now.places c.args.task.0 c.args.done.now new
    (plan_here plan me.job.now me.tables.now.places me.phase c.args.task.0 c.requires.fit.plan c.requires.task.its) c.requires.can result (still_filled c.run_counted-ending.new.task.bench.space c.args.done.now.task.bench.space ran.memory)
