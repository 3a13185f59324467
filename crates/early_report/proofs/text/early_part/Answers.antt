use Rattle.std.proofs.Common.{◌≡◌, ap, ◌∙◌}
use Rattle.session_book.specs.Meaning.{SessionView, session_of}
use Rattle.report_text.specs.Meaning.{session_part}
use Rattle.report_text.proofs.Laws.{progress_start, progress_more, progress_exit, progress_last}
use Rattle.early_report.proofs.text.early_part.Goals as goal

pub returns-in_err-session_part : goal.returns-in_err-session_part
returns-in_err-session_part g c =
    let part = session_part c.args.job.now c.args.tables.now (g.R.FactSets.set_of c.args.sets.now) c.args.s.0 in
    progress_exit {piece = part} _ c.from_residual.ensures.0 (record { as_text = c.in_err-session_part.ensures }) progress_start

pub returns : goal.returns
returns g c =
    let part = session_part c.args.job.now c.args.tables.now (g.R.FactSets.set_of c.args.sets.now) c.args.s.0 in
    let session = c.session.view_is ∙ c.session-session.ensures.value in
    let by : c.session.inside.by ≡ (session_of c.args.job.now c.args.s.0).by = ap (λ (s : SessionView). s.by) session in
    let written = progress_more {piece = part} (record { as_text = c.in_ok-session_part.ensures }) progress_start in
    progress_last (rw (c.drained_by.ensures, by) at c.drain_text.ensures) written
