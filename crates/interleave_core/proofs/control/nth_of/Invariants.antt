use Rattle.std.proofs.Common.{◌≡◌, slice_get, drop}
use Rattle.interleave_core.specs.Views.{controlled_by}
use Rattle.interleave_core.proofs.control.nth_of.Given as goal

abbrev pub invariant-loop-c : goal.invariant-loop-c
invariant-loop-c l = slice_get (controlled_by l.t.0 (drop l.c-index l.controlled)) l.left ≡ slice_get (controlled_by l.t.0 l.controlled) l.n
