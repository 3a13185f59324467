use Rattle.std.proofs.Common.{◌≡◌, ◌+◌, refl, sym, ◌∙◌, arith}
use Rattle.s370_state.specs.declared.endings.Ending.TheVariants.{Returned}
use Rattle.task_run.specs.Runs.{Takes, course_of, stand}
use Rattle.task_run.specs.Steps.{memory_at, stands}
use Rattle.task_run.proofs.HookLemmas.{hooked_memory, hooked_turn, hooked_step, hooked_state}
use Rattle.task_run.proofs.KeptCode.{kept_at_places}
use Rattle.task_run.proofs.RunLemmas.{Ran, LedTo-more, Ran-ended, Ran-returned, Ran-all}
use Rattle.task_run.proofs.PositionLemmas.{kept_there}
use Rattle.task_run.proofs.task.run.Given as given
use Rattle.task_run.proofs.task.run.Goals as goal

pub comes_to-requires-clause-codes : goal.comes_to-requires-clause-codes
comes_to-requires-clause-codes g c = kept_at_places (memory_at c.loop-done.bench) c.args.watch.now.tables.now c.loop-done.invariant.can.places.kept

pub step-next-requires-clause-kept : goal.step-next-requires-clause-kept
step-next-requires-clause-kept g c =
    let tables = c.args.watch.now.tables.now in
    kept_there tables c.comes_to.new.position c.loop-done.bench.cpu.ia c.in-Some.place c.index-position-0.result c.comes_to.ensures.position
    (kept_at_places (memory_at c.loop-done.bench) tables c.loop-done.invariant.can.places.kept) c.in-Some.ensures.placed

pub loop-done-preserved : goal.loop-done-preserved
loop-done-preserved g c =
    let same = c.loop-done.invariant.memory in
    let steps = c.step-next.ensures.steps in
    let does = c.behind.ensures.does in
    record {
      can = c.behind.ensures.can;
      set = does.set;
      memory = hooked_memory steps does ∙ same;
      turns = c.comes_to.ensures.turns;
      position = c.comes_to.ensures.position;
      run = LedTo-more _ _ (Takes g.O.Observer.Makes g.O.Observer.Answers g.H.Hook.way.Aside c.args.watch.now.observer.now c.args.watch.now.tables.now)
          _ _ _ _ c.loop-done.done _ (stands c.loop-done.bench c.loop-done.done) _ (stand c.loop-done.hook c.loop-done.pass c.loop-done.bench) _ _
          c.loop-done.invariant.run c.loop-done-test.true (c.in-Some.ensures.goes_on refl) (rw same at (hooked_step steps does)) c.in_default-behind.is (rw same at (hooked_state steps does))
          (rw same at (hooked_turn steps does));
    }

ended : (g : given.Over) (c : goal.In-Ended g) →
    Ran (Takes g.O.Observer.Makes g.O.Observer.Answers g.H.Hook.way.Aside c.args.watch.now.observer.now c.args.watch.now.tables.now) (course_of g.H.Hook.way c.args.hook.now c.args.budget c.args.bench.now)
    (stand c.args.hook.now c.args.pass.now c.args.bench.now) (stand c.behind.new.self c.behind.new.pass c.behind.new.bench)
    c.in-Ended.ending (stands c.behind.new.bench (c.loop-done.done + 1)) c.at-at.result (c.loop-done.done + 1)
ended g c =
    let same = c.loop-done.invariant.memory in
    let steps = c.step-next.ensures.steps in
    let does = c.behind.ensures.does in
    Ran-ended _ _ (Takes g.O.Observer.Makes g.O.Observer.Answers g.H.Hook.way.Aside c.args.watch.now.observer.now c.args.watch.now.tables.now) _ _ _ _ c.loop-done.done _ (stands c.loop-done.bench c.loop-done.done) _ (stand c.loop-done.hook c.loop-done.pass c.loop-done.bench) _ _ _ _
    c.loop-done.invariant.run c.loop-done-test.true (c.in-Some.ensures.goes_on refl) (rw same at (hooked_step steps does)) c.in-Ended.is (rw same at (hooked_state steps does))
    (rw same at (hooked_turn steps does)) (sym c.at-at.ensures)

pub returns-in-Ended-clause-ends : goal.returns-in-Ended-clause-ends
returns-in-Ended-clause-ends g c = let r = ended g c in record {
  ending = r.ending;
  state = r.state;
  address = r.address;
  count = r.count;
  most = let lt = c.loop-done-test.true in omega (arith, lt);
}

pub returns-in-Ended-clause-goes : goal.returns-in-Ended-clause-goes
returns-in-Ended-clause-goes g c = (ended g c).goes

returned : (g : given.Over) (c : goal.In_default g) →
    Ran (Takes g.O.Observer.Makes g.O.Observer.Answers g.H.Hook.way.Aside c.args.watch.now.observer.now c.args.watch.now.tables.now) (course_of g.H.Hook.way c.args.hook.now c.args.budget c.args.bench.now)
    (stand c.args.hook.now c.args.pass.now c.args.bench.now) (stand c.loop-done.hook c.loop-done.pass c.loop-done.bench)
    Returned (stands c.loop-done.bench c.loop-done.done) c.at-at.result c.loop-done.done
returned g c = Ran-returned _ _ (Takes g.O.Observer.Makes g.O.Observer.Answers g.H.Hook.way.Aside c.args.watch.now.observer.now c.args.watch.now.tables.now) _ _ _ _ c.loop-done.done _ (stands c.loop-done.bench c.loop-done.done) _ _ c.loop-done.invariant.run (c.in_default.ensures.returned refl) (sym c.at-at.ensures)

pub returns-in_default-clause-ends : goal.returns-in_default-clause-ends
returns-in_default-clause-ends g c = let r = returned g c in record {
  ending = r.ending;
  state = r.state;
  address = r.address;
  count = r.count;
  most = let lt = c.loop-done-test.true in omega (arith, lt);
}

pub returns-in_default-clause-goes : goal.returns-in_default-clause-goes
returns-in_default-clause-goes g c = (returned g c).goes

all : (g : given.Over) (c : goal.After-at g) →
    Ran (Takes g.O.Observer.Makes g.O.Observer.Answers g.H.Hook.way.Aside c.args.watch.now.observer.now c.args.watch.now.tables.now) (course_of g.H.Hook.way c.args.hook.now c.args.budget c.args.bench.now)
    (stand c.args.hook.now c.args.pass.now c.args.bench.now) (stand c.loop-done.hook c.loop-done.pass c.loop-done.bench)
    c.spent.result (stands c.loop-done.bench c.args.budget) c.at.result c.args.budget
all g c =
    let all : c.loop-done.done ≡ c.args.budget = omega (arith, c.loop-done.auto.done-end, c.loop-done-test.false) in
    Ran-all _ _ (Takes g.O.Observer.Makes g.O.Observer.Answers g.H.Hook.way.Aside c.args.watch.now.observer.now c.args.watch.now.tables.now) _ _ _ _ c.args.budget _ (stands c.loop-done.bench c.args.budget) _ _ _ (rw all at c.loop-done.invariant.run) (omega arith) (sym c.spent.ensures) (sym c.at.ensures)

pub returns-clause-ends : goal.returns-clause-ends
returns-clause-ends g c = let r = all g c in record {
  ending = r.ending;
  state = r.state;
  address = r.address;
  count = r.count;
  most = omega arith;
}

pub returns-clause-goes : goal.returns-clause-goes
returns-clause-goes g c = (all g c).goes
