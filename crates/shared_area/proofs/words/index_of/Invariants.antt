use Rattle.std.proofs.Common.{◌≡◌, ◌+◌, ◌-◌, true, length, drop}
use Rattle.module_area.specs.Rule.{has_task}
use Rattle.shared_area.specs.Words.{position}
use Rattle.shared_area.proofs.words.index_of.Given as goal

abbrev pub invariant-loop-i : goal.invariant-loop-i
invariant-loop-i l = record {
  there : has_task (drop l.i l.tasks) l.task.0 ≡ true;
  same : position l.tasks l.task.0 ≡ l.i + position (drop l.i l.tasks) l.task.0;
}

abbrev pub decreases-loop-i : goal.decreases-loop-i
decreases-loop-i l = length l.tasks - l.i
