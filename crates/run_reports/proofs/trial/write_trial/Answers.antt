use Rattle.std.proofs.Common.{◌≡◌, length, refl, ap, arith}
use Rattle.session_book.specs.Meaning.{JobView}
use Rattle.report_text.specs.Meaning.{trial_text}
use Rattle.task_run.specs.Meaning.{solo}
use Rattle.run_reports.specs.Meaning.{areas_change}
use Rattle.run_reports.proofs.ReportLemmas.{reports}
use Rattle.refusals.proofs.Laws.{written_as}
use Rattle.refusals.specs.Told.{Told, Wanting}
use Rattle.run_reports.proofs.trial.write_trial.Goals as goal

pub trial_text-requires-clause-tasks : goal.trial_text-requires-clause-tasks
trial_text-requires-clause-tasks g c = omega (arith, c.requires.tasks, c.in-Ok.ensures.outcome.count)

pub trial_text-requires-clause-session : goal.trial_text-requires-clause-session
trial_text-requires-clause-session g c =
    let same : length c.in-Ok.outcome.sets.job.sessions ≡ length c.args.job.now.sessions = ap (λ (j : JobView). length j.sessions) c.in-Ok.ensures.outcome.job in
    omega (arith, same, c.requires.session)

pub trial_text-requires-clause-within : goal.trial_text-requires-clause-within
trial_text-requires-clause-within g c n here = c.in-Ok.ensures.outcome.within 1 n (omega arith) (omega (arith, c.requires.session))

pub returns : goal.returns
returns g c =
    let a = areas_change g.A.Areas.ledger g.A.Areas.finals g.A.Areas.made c.args.areas.now c.run_job.new.areas in
    Told 0 _ (refl, reports solo c.args.job.now c.args.tables.now a c.in-Ok.outcome.tasks.items c.in-Ok.outcome.sets (trial_text c.args.number c.args.tasks c.args.tables.now.places) c.in-Ok.ensures.left c.in-Ok.ensures.outcome)
    (written_as _ _ _ c.trial_text.ensures c.status_of.ensures.whole c.status_of.ensures.failed)

pub returns-in_default : goal.returns-in_default
returns-in_default g c = Wanting c.told_no_memory.ensures
