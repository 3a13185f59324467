use Rattle.std.proofs.Common.{◌≡◌, refl, ◌∙◌, ap, arith}
use Rattle.s370_exec.specs.Meaning.{call_of, solo_step}
use Rattle.task_run.specs.Steps.{memory_at, stands}
use Rattle.task_run.specs.Answered.{Turns}
use Rattle.task_run.proofs.Laws.{turns_made, step_known, same_number}
use Rattle.early_report.specs.Followed.{closed_since}
use Rattle.early_report.specs.Following.{FollowsOne}
use Rattle.early_report.specs.declared.runner.Following.{Following}
use Rattle.early_report.proofs.FollowingLemmas.{followed_more, ready_next}
use Rattle.early_report.proofs.runner.FollowingHookPlanted.behind.Given as given
use Rattle.early_report.proofs.runner.FollowingHookPlanted.behind.Goals as goal
use Rattle.early_report.proofs.runner.FollowingHookPlanted.behind.Goals.{Start, After-closed_since-closed}

turns : (g : given.Over) (c : Start g) → let b = c.requires.behind.bench in let m = memory_at b in let s = stands b c.requires.behind.before in
    Turns c.args.observer.now.plan.now (g.C.Cells.notes c.requires.behind.pass) (g.C.Cells.notes c.args.pass.now) (solo_step m s).visits b.control (call_of m s)
turns g c = let does = c.requires.behind.steps.does in turns_made _ _ _ _ _ _ _ _ does.made does.answered

pub boundary-requires-clause-room : goal.boundary-requires-clause-room
boundary-requires-clause-room g c =
    let before = c.requires.behind in
    let same = same_number _ _ (step_known _ _ _ _ _ _ (turns g (goal.at.boundary-requires-clause-room g c).Start)) in
    omega (arith, same, before.set.number, before.count, c.ranges.done.fits)

closed : (g : given.Over) (c : After-closed_since-closed g) → c.closed_since-closed.result ≡ closed_since c.args.self.now.opened c.args.bench.now.control.opened
closed g c = c.closed_since-closed.ensures ∙ ap (closed_since c.args.self.now.opened) c.open_session-opened.ensures

pub follow_some-self-requires-clause-ready : goal.follow_some-self-requires-clause-ready
follow_some-self-requires-clause-ready g c =
    let before = c.requires.behind in
    let at = goal.at.follow_some-self-requires-clause-ready g c in
    rw (closed g at.After-closed_since-closed, c.boundary.ensures.notes)
    (ready_next c.args.observer.now.plan.now (g.C.Cells.notes before.pass) (g.C.Cells.notes c.args.pass.now) _ before.bench.control c.args.bench.now.control _ before.before c.args.self.now
    (omega (arith, before.count, c.ranges.done.fits)) before.can.tied (turns g at.Start) before.steps.does.answered.control before.set)

pub returns-clause-does : goal.returns-clause-does
returns-clause-does g c =
    let before = c.requires.behind in
    let at = goal.at.returns-clause-does g c in
    let behind : Following = record { drains = c.follow_some-self.new.drains; waits = c.follow_some-self.result; opened = c.open_session-opened.result } in
    let one : FollowsOne c.args.observer.now.plan.now (g.C.Cells.notes c.args.pass.now) (g.C.Cells.notes c.follow_some-self.new.pass) c.args.bench.now.control c.args.done c.args.self.now behind =
    record {
      looking = rw c.boundary.ensures.notes at c.follow_some-self.ensures.looking;
      gone = rw (closed g at.After-closed_since-closed) at c.follow_some-self.ensures.gone;
      opened = c.open_session-opened.ensures;
    } in
    record {
      bench = refl;
      course = refl;
      set = rw before.count
          (followed_more c.args.observer.now.plan.now (g.C.Cells.notes before.pass) (g.C.Cells.notes c.args.pass.now) _ _ before.bench.control c.args.bench.now.control _ before.before c.args.self.now
          behind (turns g at.Start) before.steps.does.answered.control before.set.opened (rw before.count at one) before.set c.follow_some-self.ensures.waits);
      aside = one;
    }
