use Rattle.std.proofs.Common.{◌≡◌}
use Rattle.interleave_core.specs.Meaning.{most_events}
use Rattle.interleave_core.proofs.GoingLemmas.{left, gone_by}
use Rattle.interleave_core.proofs.interleaving.Core.go_on.Given as goal

abbrev pub invariant-loop-event : goal.invariant-loop-event
invariant-loop-event l = record {
  world : l.self.world ≡ l.initial.self.world;
  goes : gone_by l.initial.self.world (most_events l.initial.self.world l.t.0) l.initial.self.parts l.t ≡ gone_by l.self.world (most_events l.self.world l.t.0) l.self.parts l.t;
}

abbrev pub decreases-loop-event : goal.decreases-loop-event
decreases-loop-event l = left l.self.world l.self.parts l.t.0
