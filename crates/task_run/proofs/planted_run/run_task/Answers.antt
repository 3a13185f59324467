use Rattle.std.proofs.Common.{refl, sym, subst}
use Rattle.task_run.specs.Aside.{IsAside}
use Rattle.task_run.specs.Meaning.{solo}
use Rattle.task_run.proofs.AsideLemmas.{aside_none}
use Rattle.task_run.proofs.GoneLemmas.{made_all}
use Rattle.task_run.proofs.RanLemmas.{ran_tour}
use Rattle.task_run.proofs.planted_run.run_task.Goals as goal

pub returns-clause-ran : goal.returns-clause-ran
returns-clause-ran g c =
    let end = c.run-end.ensures in
    let plan = c.places_len.ensures.plan in
    let made = made_all _ _ _ _ _ _ plan g.C.Cells.notes _ _ _ _ _ _ _ _
    (λ i turn v w took. record {
      visited = g.C.Cells.notes took.visited;
      made = took.made;
      called = g.C.Cells.notes took.called;
      answered = took.answered;
      aside = subst (λ p. IsAside (g.C.Cells.notes took.called) (g.C.Cells.notes p)) (sym took.hooked) (aside_none _);
    })
    end.ends end.goes in
    rw c.requires.can.plan (ran_tour solo _ _ _ _ _ _ plan (rw c.requires.can.plan at c.requires.can.tied) c.requires.can.first
    (record { memory = end.memory; budget = refl; done = end.ends.most; tied = end.can.tied })
    made end.ends.ending end.ends.state)
