use Rattle.std.proofs.Common.{◌≡◌, map, refl, ◌∙◌, ap}
use Rattle.module_area.specs.Notes.{bearer}
use Rattle.task_run.proofs.Laws.{turns_made, made_all, ran_tour}
use Rattle.task_run.specs.Meaning.{solo}
use Rattle.task_run.specs.Ran.{walk_from}
use Rattle.early_report.specs.DrainView.{DrainView}
use Rattle.early_report.specs.Followed.{first_drains}
use Rattle.early_report.proofs.EarlyLemmas.{aside_behind}
use Rattle.early_report.proofs.FollowingLemmas.{StandSo, followed_none, stood_all}
use Rattle.early_report.proofs.runner.run_steps.Given as given
use Rattle.early_report.proofs.runner.run_steps.Goals as goal
use Rattle.early_report.proofs.runner.run_steps.Goals.{After-run-end}

pub run-end-requires-clause-set : goal.run-end-requires-clause-set
run-end-requires-clause-set g c =
    followed_none _ _ _ _ c.places_len.ensures.plan c.requires.can.working c.requires.start.number c.open_session.ensures refl (ap (λ v. v.items) c.replace.ensures.value ∙ c.requires.start.unused)

pub returns-clause-ran : goal.returns-clause-ran
returns-clause-ran g c =
    let end = c.run-end.ensures in
    let plan = c.places_len.ensures.plan in
    let made = made_all _ _ _ _ _ _ plan g.C.Cells.notes _ _ _ _ _ _ _ _
    (λ i turn v w took. record {
      visited = g.C.Cells.notes took.visited;
      made = took.made;
      called = g.C.Cells.notes took.called;
      answered = took.answered;
      aside = aside_behind _ _ took.hooked.looking;
    })
    end.ends end.goes in
    rw c.requires.can.plan (ran_tour solo _ _ _ _ _ _ plan (rw c.requires.can.plan at c.requires.can.tied) c.requires.can.first
    (record { memory = end.memory; budget = refl; done = end.ends.most; tied = end.can.tied })
    made end.ends.ending end.ends.state)

so : (g : given.Over) (c : After-run-end g) →
    StandSo c.args.plan.now c.args.task.now.bench.control (map (λ (d : DrainView). d.session) c.args.drains.now.items) (g.C.Cells.notes c.run-end.new.pass) c.run-end.new.bench.control c.run-end.new.hook
    c.run-end.result.done (walk_from solo c.args.plan.now c.args.task.now).calls
so g c =
    let end = c.run-end.ensures in
    let first : c.replace.result.items ≡ first_drains c.args.plan.now (bearer (g.C.Cells.notes c.args.pass.now)) = ap (λ v. v.items) c.replace.ensures.value ∙ c.requires.start.unused in
    rw c.replace.ensures.value at
    (stood_all _ _ _ _ _ _ c.places_len.ensures.plan g.C.Cells.notes _ _ _ _ _ _ _ _
    (λ i turn v w took. record {
      called = g.C.Cells.notes took.called;
      turns = turns_made _ _ _ _ _ _ _ _ took.made took.answered;
      control = took.answered.control;
      follows = took.hooked;
    })
    c.requires.can.working c.open_session.ensures first end.ends end.goes)

pub returns-clause-sessions : goal.returns-clause-sessions
returns-clause-sessions g c = (so g (goal.at.returns-clause-sessions g c).After-run-end).kept

pub returns-clause-stand : goal.returns-clause-stand
returns-clause-stand g c = (so g (goal.at.returns-clause-stand g c).After-run-end).stand
