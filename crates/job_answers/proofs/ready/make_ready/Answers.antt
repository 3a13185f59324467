use Rattle.std.proofs.lemmas.Result.{err_from_is_err_and}
use Rattle.job_input.proofs.Laws.{came_job}
use Rattle.job_answers.proofs.ready.make_ready.Goals as goal

pub returns-in_err-input-clause-stopped : goal.returns-in_err-input-clause-stopped
returns-in_err-input-clause-stopped g c =
    let p = err_from_is_err_and c.from_residual.result c.from_residual.ensures.1 in
    rw (p.1, p.2) (c.in_err-input.ensures.stopped c.args.asked.now)

pub returns-in_err-session-clause-stopped : goal.returns-in_err-session-clause-stopped
returns-in_err-session-clause-stopped g c =
    let p = err_from_is_err_and c.from_residual-in_err-session.result c.from_residual-in_err-session.ensures.1 in
    rw (p.1, p.2) (c.in_err-session.ensures.stopped c.args.form _ (came_job _ _ _ _ _ c.in_ok-input.ensures.input.came))

pub returns-in_err-tables-clause-stopped : goal.returns-in_err-tables-clause-stopped
returns-in_err-tables-clause-stopped g c =
    let p = err_from_is_err_and c.from_residual-in_err-tables.result c.from_residual-in_err-tables.ensures.1 in
    rw (p.1, p.2) (c.in_err-tables.ensures.stopped c.args.asked.now c.in_ok-session.ensures.asked c.args.form _ (came_job _ _ _ _ _ c.in_ok-input.ensures.input.came))

pub returns-clause-ready : goal.returns-clause-ready
returns-clause-ready g c = record {
  input = c.in_ok-input.ensures.input;
  is = record { has = c.in_ok-session.ensures.asked; session = c.in_ok-session.ensures.session; job = c.in_ok-tables.ensures.ready };
}
