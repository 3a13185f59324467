use Rattle.std.proofs.Common.{ℕ, [], List, refl, sym, ◌∙◌, ap, subst}
use Rattle.cov_base.specs.declared.numbers.TaskNo.{TaskNo}
use Rattle.module_area.specs.Notes.{Notes, split_notes}
use Rattle.module_area.specs.Meaning.{PlanView}
use Rattle.module_area.specs.Rule.{has_task}
use Rattle.job_run.specs.Crews.{PhaseView, phase_at, tasks_before}
use Rattle.job_run.specs.Passes.{HasJoined}
use Rattle.job_run.proofs.BeforeLemmas.{before_one, is_among, not_before}
use Rattle.job_run.proofs.SlotLemmas.{given-one}
use Rattle.job_run.proofs.area.AreaCrewCrew.split.Goals as goal

pub split-requires-clause-task : goal.split-requires-clause-task
split-requires-clause-task g c =
    let me = c.args.self.now in
    ap (λ (p : PlanView). has_task p.tasks c.args.task.0) (c.requires.fit.cells ∙ c.requires.fit.its.plan) ∙ is_among (phase_at me.job.now me.phase) c.args.task.0 c.requires.task

pub split-requires-clause-first : goal.split-requires-clause-first
split-requires-clause-first g c =
    let me = c.args.self.now in
    c.requires.root.given c.args.task.0 ∙ not_before (phase_at me.job.now me.phase) c.args.task.0 c.requires.task.exists

pub returns-clause-root : goal.returns-clause-root
returns-clause-root g c =
    let me = c.args.self.now in
    let p : PhaseView = phase_at me.job.now me.phase in
    let t : ℕ = c.args.task.0 in
    subst (λ (ts : List TaskNo). HasJoined (g.C.Cells.is_pass me.cells.now) g.C.Cells.notes me.plan.now (g.R.Runner.course me.runner.now) me.job.now me.tables.now.places c.split.new.root ts [])
    (sym (before_one p t c.requires.task))
    (given-one (g.C.Cells.is_pass me.cells.now) g.C.Cells.notes me.plan.now (g.R.Runner.course me.runner.now) me.job.now me.tables.now.places c.args.root.now c.split.new.root (tasks_before p t) t
    c.split.ensures.area c.split.ensures.notes c.requires.root)

pub returns-clause-fresh : goal.returns-clause-fresh
returns-clause-fresh g c =
    let me = c.args.self.now in
    record {
      area = c.split.ensures.split;
      fresh = c.split.ensures.fresh ∙ (ap (λ (p : PlanView). split_notes p (g.C.Cells.notes c.args.root.now) c.args.task.0) c.requires.fit.cells
          ∙ ap (λ (n : Notes). split_notes me.plan.now n c.args.task.0) (c.requires.root.same refl));
    }
