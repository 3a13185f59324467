use Rattle.std.proofs.Common.{◌≡◌, ℕ, ◌+◌, ◌<◌, length, slice_index}
use Rattle.cov_base.specs.Meaning.{byte_at, wrap}
use Rattle.s370_state.proofs.packed.gathered.Given as goal

abbrev pub invariant-loop-i : goal.invariant-loop-i
invariant-loop-i g l = record {
  each : (k : ℕ) → k < l.i → slice_index l.row k ≡ byte_at (g.P.Space.memory l.space) (g.P.Space.bytes l.space) (wrap (l.at + k));
  size : length l.row ≡ 16;
}
