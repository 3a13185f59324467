use Rattle.std.proofs.Common.{◌≡◌, ◌+◌, ◌≤◌, length}
use Rattle.schedule_play.specs.Play.{Stays, play_bytes}
use Rattle.schedule_play.proofs.PlayLemmas.{with_items}
use Rattle.schedule_play.proofs.playing.play.Given as goal

abbrev pub invariant-loop-rest : goal.invariant-loop-rest
invariant-loop-rest l = record {
  stays : Stays l.initial.core l.core;
  plays : play_bytes l.initial.core l.first l.lines ≡ with_items l.played.items (play_bytes l.core l.n l.rest);
  numbers : l.n ≡ l.first + length l.played.items;
  room : l.n + length l.rest ≤ l.first + length l.lines;
}

abbrev pub decreases-loop-rest : goal.decreases-loop-rest
decreases-loop-rest l = length l.rest
