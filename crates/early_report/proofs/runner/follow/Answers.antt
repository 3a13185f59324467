use Rattle.module_area.specs.Notes.{Notes, bearer}
use Rattle.early_report.specs.Meaning.{others}
use Rattle.early_report.proofs.LookLemmas.{Begins-looks, looking_trans}
use Rattle.early_report.proofs.runner.follow.Goals as goal

pub returns-else-not-is_session-clause-looking : goal.returns-else-not-is_session-clause-looking
returns-else-not-is_session-clause-looking g c =
    let old : Notes = g.C.Cells.notes c.args.pass.now in
    let mid : Notes = g.C.Cells.notes c.drain_begin.new.pass in
    looking_trans old mid (g.C.Cells.notes c.ask.new.pass)
    (Begins-looks old mid (others c.args.plan.now.tasks (bearer old)) c.drain_begin.new.drain.noted c.drain_begin.ensures.begins) c.ask.ensures.looking
