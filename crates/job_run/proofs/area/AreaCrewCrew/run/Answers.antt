use Rattle.std.proofs.Common.{◌≡◌, ℕ, Some, refl, sym, ◌∙◌, ap, subst, arith}
use Rattle.std.proofs.lemmas.Option.{same_Some}
use Rattle.module_area.specs.Meaning.{ControlView, PlanView}
use Rattle.module_area.specs.Ended.{AreSettled}
use Rattle.module_area.specs.Notes.{Notes, bearer, calls, is_working}
use Rattle.module_area.specs.Tied.{IsTied}
use Rattle.task_run.specs.Steps.{memory_at}
use Rattle.task_run.specs.First.{IsOver}
use Rattle.task_run.specs.Ran.{RanAs}
use Rattle.job_run.specs.Passes.{after_planting}
use Rattle.job_run.specs.declared.outcome.Done.{Done}
use Rattle.job_run.proofs.SlotLemmas.{first_of, is_over_begun, plan_here, seen_by, tied_of}
use Rattle.job_run.proofs.TaskLemmas.{has_ended, is_task}
use Rattle.job_run.proofs.area.AreaCrewCrew.run.Goals as goal

pub run-ending-requires-clause-can : goal.run-ending-requires-clause-can
run-ending-requires-clause-can g c =
    let me = c.args.self.now in
    let f = c.requires.fit in
    let t : ℕ = c.args.task.0 in
    let done = c.args.done.now in
    let here = plan_here me.plan.now me.job.now me.tables.now.places me.phase t f.its.plan c.requires.task.its in
    let first = first_of me.plan.now me.job.now me.tables.now.places t done here c.requires.can.task in
    record {
      area = c.requires.fresh.area;
      plan = f.cells;
      over = subst (λ (p : PlanView). IsOver p (memory_at done.task.bench) me.tables.now) (sym f.cells)
          (is_over_begun me.plan.now me.job.now me.tables.now t done (ap (λ (p : PlanView). p.places) f.its.plan) f.its.job f.its.codes c.requires.task.exists c.requires.can.task.begun);
      room = omega (arith, ap (λ (n : Notes). calls n) c.requires.fresh.fresh);
      working = ap is_working c.requires.fresh.fresh;
      fresh = c.requires.can.task.begun.done;
      tied = subst (λ (p : PlanView). IsTied p (g.C.Cells.notes c.args.pass.now) done.task.bench.control) (sym f.cells)
          (tied_of me.plan.now me.job.now me.tables.now.places t (g.C.Cells.notes c.args.pass.now) done f.is_plan here c.requires.fresh.fresh c.requires.can.task);
      first = (ap (λ (d : ControlView). d.next) first, ap (λ (d : ControlView). d.opened) first);
    }

pub run-ending-requires-clause-begins : goal.run-ending-requires-clause-begins
run-ending-requires-clause-begins g c =
    let me = c.args.self.now in
    let start = c.requires.can in
    let same : start.extra ≡ c.in-Some.extra = same_Some start.extra c.in-Some.extra (sym start.has ∙ c.in-Some.is) in
    subst (λ (e : _). g.R.Runner.begins me.plan.now (bearer (g.C.Cells.notes c.args.pass.now)) e (g.C.Cells.notes c.args.pass.now)) same
    (subst (λ (n : Notes). g.R.Runner.begins me.plan.now (bearer n) start.extra n) (sym c.requires.fresh.fresh) (start.starts (after_planting me.plan.now)))

pub returns-clause-run : goal.returns-clause-run
returns-clause-run g c =
    let me = c.args.self.now in
    let f = c.requires.fit in
    let t : ℕ = c.args.task.0 in
    let new : Done = record { ending = Some c.run-ending.result; task = c.run-ending.new.task } in
    let ran = subst (λ (p : PlanView). RanAs (g.R.Runner.course me.runner.now) p (g.C.Cells.notes c.args.pass.now) (g.C.Cells.notes c.run-ending.new.pass) c.args.done.now.task c.run-ending.new.task c.run-ending.result) f.cells c.run-ending.ensures.ran in
    seen_by (g.R.Runner.course me.runner.now) (g.C.Cells.is_pass me.cells.now) g.C.Cells.notes me.plan.now me.job.now me.tables.now.places t (g.C.Cells.notes c.args.pass.now) (g.C.Cells.notes c.run-ending.new.pass) c.run-ending.new.pass
    c.args.done.now new f.is_plan (plan_here me.plan.now me.job.now me.tables.now.places me.phase t f.its.plan c.requires.task.its) (is_task me.job.now t f.its.job c.requires.task.exists) c.run-ending.ensures.area
    c.requires.fresh.fresh refl c.requires.can.task (record { ending = c.run-ending.result; is = refl; ran = ran })

pub returns-clause-ends : goal.returns-clause-ends
returns-clause-ends g c =
    let me = c.args.self.now in
    let f = c.requires.fit in
    let t : ℕ = c.args.task.0 in
    let new : Done = record { ending = Some c.run-ending.result; task = c.run-ending.new.task } in
    let ran = subst (λ (p : PlanView). RanAs (g.R.Runner.course me.runner.now) p (g.C.Cells.notes c.args.pass.now) (g.C.Cells.notes c.run-ending.new.pass) c.args.done.now.task c.run-ending.new.task c.run-ending.result) f.cells c.run-ending.ensures.ran in
    record {
      ended = has_ended (g.R.Runner.course me.runner.now) me.plan.now (g.C.Cells.notes c.args.pass.now) (g.C.Cells.notes c.run-ending.new.pass) me.job.now me.tables.now.places t c.args.done.now new
          (plan_here me.plan.now me.job.now me.tables.now.places me.phase t f.its.plan c.requires.task.its) c.requires.can.task.begun (record { ending = c.run-ending.result; is = refl; ran = ran });
      extra = c.run-ending.new.extra;
      left = refl;
      tells = λ sets agree. c.run-ending.ensures.ends sets (subst (λ (p : PlanView). AreSettled p (g.C.Cells.notes c.run-ending.new.pass) sets) (sym f.cells) agree);
    }
