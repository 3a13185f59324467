use Rattle.job_run.specs.Crews.{HasGone, IsBack, Own, all_tasks, tasks_before}
use Rattle.job_run.proofs.EachLemmas.{Along}
use Rattle.job_run.proofs.crew.run_crew.Given as goal

abbrev pub invariant-loop-t : goal.invariant-loop-t
invariant-loop-t g l = record {
  root : g.C.Crew.IsRoot l.crew l.root (all_tasks (g.C.Crew.phase l.crew)) (tasks_before (g.C.Crew.phase l.crew) l.t);
  slots : Along (Own (g.C.Crew.phase l.crew) (HasGone (g.C.Crew.HasRun l.crew) (g.C.Crew.Ends l.crew))) (Own (g.C.Crew.phase l.crew) (IsBack (g.C.Crew.Ends l.crew) (g.C.Crew.Knows l.crew l.root))) l.t l.fn.slots l.slots;
}
