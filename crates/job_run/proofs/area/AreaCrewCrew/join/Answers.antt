use Rattle.std.proofs.Common.{◌≡◌, ℕ, Option, unwrap_or, List, refl, sym, ◌∙◌, ap, subst, arith}
use Rattle.std.proofs.lemmas.Bool.{or_left, or_right}
use Rattle.cov_base.specs.declared.numbers.TaskNo.{TaskNo}
use Rattle.module_area.specs.Notes.{Notes, after_join, bearer}
use Rattle.module_area.specs.Meaning.{PlanView}
use Rattle.job_run.specs.Crews.{PhaseView, all_tasks, phase_at, tasks_before}
use Rattle.job_run.specs.Passes.{HasJoined}
use Rattle.job_run.proofs.BeforeLemmas.{before_one, few_before, is_among, not_before}
use Rattle.job_run.proofs.SlotLemmas.{taken-one}
use Rattle.job_run.proofs.area.AreaCrewCrew.join.Goals as goal

pub join-requires-clause-split : goal.join-requires-clause-split
join-requires-clause-split g c = rw (c.requires.run.observes.grows.bears) refl

pub join-requires-clause-out : goal.join-requires-clause-out
join-requires-clause-out g c =
    let me = c.args.self.now in
    let p : PhaseView = phase_at me.job.now me.phase in
    let t : ℕ = c.args.task.0 in
    let bears : bearer (g.C.Cells.notes c.args.pass) ≡ t = ap (λ (o : Option ℕ). unwrap_or o 0) c.requires.run.observes.grows.bears in
    let among = is_among p t c.requires.task in
    let first = not_before p t c.requires.task.exists in
    ap (g.C.Cells.notes c.args.root.now).out bears ∙ (c.requires.root.out t ∙ rw (among, first) refl)

pub join-requires-clause-room : goal.join-requires-clause-room
join-requires-clause-room g c =
    let me = c.args.self.now in
    let p : PhaseView = phase_at me.job.now me.phase in
    omega (arith, c.requires.root.few, few_before p c.args.task.0 c.requires.task.exists, c.requires.task.exists, c.requires.fit.its.job.tasks, c.requires.run.leaves.few)

pub returns-clause-root : goal.returns-clause-root
returns-clause-root g c =
    let me = c.args.self.now in
    let p : PhaseView = phase_at me.job.now me.phase in
    let t : ℕ = c.args.task.0 in
    let notes : Notes = g.C.Cells.notes c.args.root.now in
    subst (λ (ts : List TaskNo). HasJoined (g.C.Cells.is_pass me.cells.now) g.C.Cells.notes me.plan.now (g.R.Runner.course me.runner.now) me.job.now me.tables.now.places c.join.new.root (all_tasks p) ts)
    (sym (before_one p t c.requires.task))
    (taken-one (g.C.Cells.is_pass me.cells.now) g.C.Cells.notes me.plan.now (g.R.Runner.course me.runner.now) me.job.now me.tables.now.places c.args.root.now c.join.new.root c.args.pass (all_tasks p) (tasks_before p t) t
    c.requires.fit.is_plan (not_before p t c.requires.task.exists) c.join.ensures.area (c.join.ensures.notes ∙ ap (λ (q : PlanView). after_join q notes (g.C.Cells.notes c.args.pass)) c.requires.fit.cells) c.requires.root c.requires.run)

pub returns-clause-known : goal.returns-clause-known
returns-clause-known g c s q x settled =
    let old : Notes = g.C.Cells.notes c.args.root.now in
    let other : Notes = g.C.Cells.notes c.args.pass in
    ap (λ (n : Notes). n.settled s q x) c.join.ensures.notes ∙ or_right (old.settled s q x) (other.settled s q x) settled

pub returns-clause-still : goal.returns-clause-still
returns-clause-still g c p known s q x settled =
    let old : Notes = g.C.Cells.notes c.args.root.now in
    let other : Notes = g.C.Cells.notes c.args.pass in
    ap (λ (n : Notes). n.settled s q x) c.join.ensures.notes ∙ or_left (old.settled s q x) (other.settled s q x) (known s q x settled)
