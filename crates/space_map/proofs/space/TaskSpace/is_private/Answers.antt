use Rattle.std.proofs.Common.{arith}
use Rattle.space_map.specs.Space.{memory_of_space}
use Rattle.space_map.proofs.SpaceLemmas.{store_empty, reach_empty, touch_empty, store_range, reach_range, touch_range}
use Rattle.space_map.proofs.space.TaskSpace.is_private.Goals as goal

pub returns-then-len-eq0-clause-value : goal.returns-then-len-eq0-clause-value
returns-then-len-eq0-clause-value c = store_empty (memory_of_space c.args.self.now) c.args.at c.args.len (omega arith)

pub returns-then-len-eq0-clause-reach : goal.returns-then-len-eq0-clause-reach
returns-then-len-eq0-clause-reach c _ = reach_empty (memory_of_space c.args.self.now) c.args.at c.args.len (omega arith)

pub returns-then-len-eq0-clause-touch : goal.returns-then-len-eq0-clause-touch
returns-then-len-eq0-clause-touch c _ = touch_empty (memory_of_space c.args.self.now) c.args.at c.args.len (omega arith)

pub returns-else-len-eq0-clause-value : goal.returns-else-len-eq0-clause-value
returns-else-len-eq0-clause-value c =
    rw (← c.self.view_is) (store_range _ c.self.inside.monitored c.args.at c.args.len _ c.len.result c.self.invariant (omega arith) (omega arith) (omega arith) (omega arith))

pub returns-else-len-eq0-clause-reach : goal.returns-else-len-eq0-clause-reach
returns-else-len-eq0-clause-reach c =
    rw (← c.self.view_is) (reach_range _ c.self.inside.monitored c.args.at c.args.len _ c.len.result c.self.invariant (omega arith) (omega arith))

pub returns-else-len-eq0-clause-touch : goal.returns-else-len-eq0-clause-touch
returns-else-len-eq0-clause-touch c =
    rw (← c.self.view_is) (touch_range _ c.self.inside.monitored c.args.at c.args.len _ c.len.result c.self.invariant (omega arith) (omega arith))
