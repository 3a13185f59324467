use Rattle.std.proofs.Common.{◌≡◌, ◌+◌, ◌≤◌, ◌++◌, Some, All, IsSome, length, map, vec_capacity}
use Rattle.job_run.specs.Slots.{dones, extras_of}
use Rattle.job_run.proofs.phase.outcome_of.Given as goal

abbrev pub invariant-loop-slot : goal.invariant-loop-slot
invariant-loop-slot g l = record {
  can_next : (goal.iterator-loop-slot g).can_next l.slot-iterator;
  is_finite : (goal.iterator-loop-slot g).is_finite l.slot-iterator;
  moved : l.room.tasks.items ++ dones l.slot-iterator.rest.items ≡ dones l.initial.slot-iterator.rest.items;
  taken : map Some l.room.extras.items ++ extras_of l.slot-iterator.rest.items ≡ extras_of l.initial.slot-iterator.rest.items;
  tasks_room : length l.room.tasks.items + length l.slot-iterator.rest.items ≤ vec_capacity l.room.tasks;
  extras_room : length l.room.extras.items + length l.slot-iterator.rest.items ≤ vec_capacity l.room.extras;
  some : All (λ s. IsSome s.extra) l.slot-iterator.rest.items;
}
