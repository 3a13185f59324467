use Rattle.std.proofs.Common.{ℕ, ◌+◌, Bool, ap, ◌∙◌}
use Rattle.small_tests.proofs.tests.of_count_session.visits.Goals as goal

pub loop-preserved : goal.loop-preserved
loop-preserved c = let v = c.visit.ensures in let i = c.loop.invariant in record {
  area = v.area;
  task = v.task;
  adds = v.adds ∙ ap (λ n. n + 1) i.adds;
  planted = ap (λ (f : ℕ → Bool). f c.args.place.0) v.planted ∙ i.planted;
  passes = v.passes ∙ i.passes;
}
