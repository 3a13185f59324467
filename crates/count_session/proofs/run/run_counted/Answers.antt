use Rattle.std.proofs.Common.{refl, sym, arith}
use Rattle.count_session.specs.Passes.{plan_in}
use Rattle.count_session.proofs.run.run_counted.Goals as goal

pub run_alone-end-requires-clause-can : goal.run_alone-end-requires-clause-can
run_alone-end-requires-clause-can c = record {
  places = record { seen = c.requires.over.seen; kept = c.requires.over.kept };
  ready = record { area = c.requires.area; places = c.requires.over.same; task = c.requires.task; adds = omega (arith, c.requires.nothing) };
  tied = tt;
}

pub run_alone-end-requires-clause-calls : goal.run_alone-end-requires-clause-calls
run_alone-end-requires-clause-calls c = λ p q old new call left. left.0

pub returns-clause-ran : goal.returns-clause-ran
returns-clause-ran c =
    let end = c.run_alone-end.ensures in
    let plan = plan_in c.args.cells.now in
    record {
      memory = end.memory;
      budget = refl;
      done = end.most;
      ending = sym (end.ran.ending plan);
      state = sym (end.ran.state plan);
      adds = end.ran.made plan;
    }
