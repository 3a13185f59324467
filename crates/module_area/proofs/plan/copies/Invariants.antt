use Rattle.std.proofs.Common.{◌≡◌, take}
use Rattle.module_area.proofs.plan.copies.Given as goal

abbrev pub invariant-loop-c : goal.invariant-loop-c
invariant-loop-c l = l.copies.items ≡ take l.c-index l.controlled
