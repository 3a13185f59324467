use Rattle.std.proofs.Common.{◌+◌, true, get_or, refl, sym, ◌∙◌, ap, subst}
use Rattle.module_area.specs.Ended.{AreSettled}
use Rattle.module_area.specs.Notes.{Notes, is_working, own_number}
use Rattle.module_area.specs.Meaning.{PlanView}
use Rattle.task_run.specs.Aside.{IsAside}
use Rattle.task_run.specs.Meaning.{solo}
use Rattle.task_run.proofs.Laws.{boundary_number}
use Rattle.early_report.proofs.EarlyLemmas.{bears_of, ended}
use Rattle.early_report.proofs.ToldLemmas.{ran_aside, told, first_sessions}
use Rattle.early_report.proofs.runner.run_early.Goals as goal

pub returns-clause-ran : goal.returns-clause-ran
returns-clause-ran g c =
    let mid : Notes = g.C.Cells.notes c.run_steps-ending.new.pass in
    let aside : IsAside mid (g.C.Cells.notes c.boundary.new.pass) = subst (IsAside mid) (sym c.boundary.ensures.notes) (record { same = refl }) in
    ran_aside solo (g.C.Cells.plan c.args.cells.now) (g.C.Cells.notes c.args.pass.now) mid (g.C.Cells.notes c.boundary.new.pass) c.args.task.now c.run_steps-ending.new.task c.run_steps-ending.result aside c.run_steps-ending.ensures.ran

pub returns-clause-told : goal.returns-clause-told
returns-clause-told g c = λ sets settled.
    let plan : PlanView = c.args.plan.now in
    let old : Notes = g.C.Cells.notes c.args.pass.now in
    let mid : Notes = g.C.Cells.notes c.run_steps-ending.new.pass in
    let known : AreSettled plan mid sets = rw c.requires.can.plan at (subst (λ (n : Notes). AreSettled (g.C.Cells.plan c.args.cells.now) n sets) c.boundary.ensures.notes settled) in
    record {
      sessions = c.run_steps-ending.ensures.sessions ∙ first_sessions plan old c.args.task.now.bench.control c.args.drains.now.items c.run_steps-ending.ensures.is_plan (rw c.requires.can.plan at c.requires.can.tied) (bears_of old c.requires.can.working) c.requires.start.unused;
      each = λ k d l. told plan mid sets _ _ (get_or c.run_steps-ending.new.drains.items k d) c.run_steps-ending.ensures.is_plan known (c.run_steps-ending.ensures.stand k d l);
    }

pub returns-clause-ended : goal.returns-clause-ended
returns-clause-ended g c =
    let mid : Notes = g.C.Cells.notes c.run_steps-ending.new.pass in
    ap is_working c.boundary.ensures.notes ∙ ended mid c.run_steps-ending.ensures.working

pub returns-clause-boundaries : goal.returns-clause-boundaries
returns-clause-boundaries g c =
    let mid : Notes = g.C.Cells.notes c.run_steps-ending.new.pass in
    ap own_number c.boundary.ensures.notes ∙ (boundary_number mid true ∙ ap (λ k. k + 1) c.run_steps-ending.ensures.boundaries)
