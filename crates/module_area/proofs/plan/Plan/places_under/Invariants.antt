use Rattle.std.proofs.Common.{◌≡◌, drop}
use Rattle.module_area.specs.Meaning.{places_in}
use Rattle.module_area.proofs.plan.Plan.places_under.Given as goal

abbrev pub invariant-loop-c : goal.invariant-loop-c
invariant-loop-c l = places_in l.c-items l.s.0 ≡ places_in (drop l.c-index l.c-items) l.s.0
