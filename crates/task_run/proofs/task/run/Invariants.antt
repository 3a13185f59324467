use Rattle.std.proofs.Common.{◌≡◌, ◌≤◌, All, length}
use Rattle.task_run.specs.Runs.{Takes, stand}
use Rattle.task_run.specs.Position.{IsPosition}
use Rattle.task_run.specs.Steps.{CanStep, memory_at, stands}
use Rattle.task_run.proofs.RunLemmas.{LedTo}
use Rattle.task_run.proofs.task.run.Given as goal

abbrev pub invariant-loop-done : goal.invariant-loop-done
invariant-loop-done g l = record {
  can : CanStep g.O.Observer.IsReady g.O.Observer.IsTied l.observer l.tables l.pass l.bench l.done 0;
  set : g.H.Hook.way.IsSet l.hook l.observer l.pass l.bench.control l.done;
  memory : memory_at l.bench ≡ memory_at l.initial.bench;
  turns : All (λ t. t ≤ length l.tables.places) l.turns;
  position : IsPosition l.tables l.position;
  run : LedTo g.H.Hook.way.after (memory_at l.initial.bench) (Takes g.O.Observer.Makes g.O.Observer.Answers g.H.Hook.way.Aside l.observer l.tables) l.budget
      (g.H.Hook.way.key l.initial.hook) (stands l.initial.bench 0) (stand l.initial.hook l.initial.pass l.initial.bench)
      l.done (g.H.Hook.way.key l.hook) (stands l.bench l.done) (stand l.hook l.pass l.bench);
}
