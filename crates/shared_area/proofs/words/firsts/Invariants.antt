use Rattle.std.proofs.Common.{◌≡◌, ℕ, ◌+◌, ◌*◌, ◌<◌, ◌≤◌, length, slice_index}
use Rattle.shared_area.specs.Words.{session_words}
use Rattle.shared_area.proofs.words.firsts.Given as goal

abbrev pub invariant-loop-i : goal.invariant-loop-i
invariant-loop-i l = record {
  size : length l.firsts ≡ 16;
  next : l.first ≡ length l.plan.places + l.i * session_words (length l.plan.places);
  few : l.first ≤ 65536 + l.i * 2048;
  each : (j : ℕ) → j < l.i → slice_index l.firsts j ≡ length l.plan.places + j * session_words (length l.plan.places);
  small : (j : ℕ) → j < l.i → slice_index l.firsts j ≤ 98304;
}
