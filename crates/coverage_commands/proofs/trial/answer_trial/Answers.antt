use Rattle.std.proofs.Common.{◌≡◌, None, length, sym, subst, ap, ◌∙◌, arith}
use Rattle.report_text.specs.Conditions.{HasFewLines}
use Rattle.session_book.specs.Meaning.{JobView}
use Rattle.run_reports.specs.Meaning.{areas_change}
use Rattle.job_input.specs.Meaning.{job_fault}
use Rattle.coverage_commands.proofs.TrialLemmas.{trial_faultless, trial_few_lines, trial_tasks, trial_sessions, tried, unmade}
use Rattle.coverage_commands.proofs.trial.answer_trial.Goals as goal

pub faultless_tables-requires-clause-few : goal.faultless_tables-requires-clause-few
faultless_tables-requires-clause-few g c = subst (λ (j : JobView). HasFewLines j) (sym c.in-Ok.ensures) (trial_few_lines c.args.number c.args.tasks)

pub faultless_tables-requires-clause-faultless : goal.faultless_tables-requires-clause-faultless
faultless_tables-requires-clause-faultless g c = subst (λ (j : JobView). job_fault j ≡ None) (sym c.in-Ok.ensures) (trial_faultless c.args.number c.args.tasks)

pub write_trial-requires-clause-tasks : goal.write_trial-requires-clause-tasks
write_trial-requires-clause-tasks g c =
    let count : length c.in-Ok.job.tasks ≡ c.args.tasks = ap (λ (j : JobView). length j.tasks) c.in-Ok.ensures ∙ trial_tasks c.args.number c.args.tasks in
    omega (arith, count)

pub write_trial-requires-clause-session : goal.write_trial-requires-clause-session
write_trial-requires-clause-session g c =
    let one : length c.in-Ok.job.sessions ≡ 1 = ap (λ (j : JobView). length j.sessions) c.in-Ok.ensures ∙ trial_sessions c.args.number c.args.tasks in
    omega (arith, one)

pub returns : goal.returns
returns g c s unread =
    let a = areas_change g.A.Areas.ledger g.A.Areas.finals g.A.Areas.made c.args.areas.now c.write_trial.new.areas in
    tried c.args.number c.args.tasks c.in-Ok.job s c.in-Ok-faultless_tables.tables a _ _ c.in-Ok.ensures unread c.in-Ok-faultless_tables.ensures.matching c.write_trial.ensures

pub returns-in_default : goal.returns-in_default
returns-in_default g c s unread =
    let a = areas_change g.A.Areas.ledger g.A.Areas.finals g.A.Areas.made c.args.areas.now c.args.areas.now in
    unmade c.args.number c.args.tasks s a.before _ _ unread c.told_no_memory.ensures

pub returns-in_default-faultless_tables : goal.returns-in_default-faultless_tables
returns-in_default-faultless_tables g c s unread =
    let a = areas_change g.A.Areas.ledger g.A.Areas.finals g.A.Areas.made c.args.areas.now c.args.areas.now in
    unmade c.args.number c.args.tasks s a.before _ _ unread c.told_no_memory-in_default-faultless_tables.ensures
