use Rattle.std.proofs.Common.{◌≡◌, []}
use Rattle.job_run.specs.Crews.{GetsPass, Own, tasks_before}
use Rattle.job_run.proofs.EachLemmas.{Along}
use Rattle.job_run.proofs.crew.split_all.Given as goal

abbrev pub invariant-loop-t : goal.invariant-loop-t
invariant-loop-t g l = record {
  root : g.C.Crew.IsRoot l.crew l.root (tasks_before (g.C.Crew.phase l.crew) l.t) [];
  passes : Along (λ t x y. y ≡ x) (Own (g.C.Crew.phase l.crew) (GetsPass (g.C.Crew.IsFresh l.crew))) l.t l.initial.slots l.slots;
}
