use Rattle.std.proofs.Common.{◌≡◌, take, map}
use Rattle.phase_plan.specs.Meaning.{window_of}
use Rattle.phase_plan.proofs.plans.windows_of.Given as goal

abbrev pub invariant-loop-place : goal.invariant-loop-place
invariant-loop-place l = l.windows.items ≡ map (window_of l.job l.phase) (take l.place-index l.places)
