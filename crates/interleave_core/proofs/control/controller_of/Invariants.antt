use Rattle.std.proofs.Common.{◌≡◌, nat_eq, drop}
use Rattle.std.specs.List.{find}
use Rattle.interleave_core.proofs.control.controller_of.Given as goal

abbrev pub invariant-loop-c : goal.invariant-loop-c
invariant-loop-c l = find (λ c. nat_eq c.session l.s.0) (drop l.c-index l.controlled) ≡ find (λ c. nat_eq c.session l.s.0) l.controlled
