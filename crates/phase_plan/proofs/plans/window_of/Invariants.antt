use Rattle.std.proofs.Common.{◌≡◌, ◌+◌, drop}
use Rattle.phase_plan.specs.Meaning.{window_from}
use Rattle.phase_plan.proofs.plans.window_of.Given as goal

abbrev pub invariant-loop-i : goal.invariant-loop-i
invariant-loop-i l = window_from (l.i + 1) (drop l.i l.sessions) l.phase l.m ≡ window_from 1 l.sessions l.phase l.m
