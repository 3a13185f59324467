use Rattle.std.proofs.Common.{◌≡◌, subst, rules}
use Rattle.refusals.specs.Codes.{exit_code}
use Rattle.refusals.specs.Meaning.{IsWritten, sink_change, verified_line}
use Rattle.job_answers.proofs.CheckedLemmas.{checked, unchecked}
use Rattle.refusals.proofs.Laws.{told_as}
use Rattle.job_answers.proofs.verifying.write_verdict.Goals as goal

pub returns-in-Ok : goal.returns-in-Ok
returns-in-Ok g c =
    let line : c.deref.result.now ≡ verified_line c.args.name.now c.in-Ok.facts = search rules in
    checked c.args.name.now c.args.job.now c.args.tables.now c.args.s.0 c.args.rest.now c.in-Ok.facts _ _ c.in-Ok.ensures.verdict c.in-Ok.ensures.verified
    (subst (λ b. IsWritten 0 b (sink_change g.K.Sink.written g.K.Sink.faults c.args.sink.now c.told.new.sink) c.told.result) line c.told.ensures)

pub returns-in-Err : goal.returns-in-Err
returns-in-Err g c =
    let r = c.refusal in
    unchecked c.args.name.now c.args.job.now c.args.tables.now c.args.s.0 c.args.rest.now c.in-Err.refusal _ _ c.in-Err.ensures.refused
    (told_as (exit_code r.inside.reason) r.inside.line.items c.deref-in-Err.result.now c.in-Err.refusal _ _ r.view_is c.deref-in-Err.ensures.0 c.told-in-Err.ensures)
