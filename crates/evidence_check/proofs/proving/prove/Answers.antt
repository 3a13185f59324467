use Rattle.std.proofs.Common.{◌∙◌, ap, subst}
use Rattle.std.specs.Io.KnownBytes.{Appends}
use Rattle.cov_outside.specs.Meaning.{AppendsSome}
use Rattle.session_book.specs.Meaning.{SessionView}
use Rattle.evidence_check.proofs.EntryLemmas.{found_evidence}
use Rattle.evidence_check.proofs.FactLemmas.{first_is_shown}
use Rattle.evidence_check.proofs.proving.prove.Goals as goal

pub returns-in-Err-clause-facts : goal.returns-in-Err-clause-facts
returns-in-Err-clause-facts g c = λ n f. first_is_shown c.args.job.now c.args.tables.now.places c.args.s.0 n f

pub returns-in-Ok-write_evidence-clause-facts : goal.returns-in-Ok-write_evidence-clause-facts
returns-in-Ok-write_evidence-clause-facts g c = λ n f. first_is_shown c.args.job.now c.args.tables.now.places c.args.s.0 n f

pub returns-clause-facts : goal.returns-clause-facts
returns-clause-facts g c = λ n f. first_is_shown c.args.job.now c.args.tables.now.places c.args.s.0 n f

-- what was written is the evidence
pub returns-in-Ok-write_evidence-clause-whole : goal.returns-in-Ok-write_evidence-clause-whole
returns-in-Ok-write_evidence-clause-whole g c =
    let session = c.session.view_is ∙ c.session-session.ensures.value in
    let is = found_evidence c.args.job.now c.args.tables.now c.args.s.0 c.session.inside.phase c.in-Ok.found.items c.deref.result.now c.deref-2.result.now c.range.ensures.all c.in-Ok.ensures
    c.deref.ensures.value (ap (λ (x : SessionView). x.phase) session) (c.deref-2.ensures.value ∙ ap (λ (x : SessionView). x.modules) session) in
    subst (Appends (g.K.Sink.written c.args.sink.now) (g.K.Sink.written c.write_evidence.new.sink)) is c.in-Ok-write_evidence.ensures.whole

pub returns-clause-fault : goal.returns-clause-fault
returns-clause-fault g c =
    let session = c.session.view_is ∙ c.session-session.ensures.value in
    let is = found_evidence c.args.job.now c.args.tables.now c.args.s.0 c.session.inside.phase c.in-Ok.found.items c.deref.result.now c.deref-2.result.now c.range.ensures.all c.in-Ok.ensures
    c.deref.ensures.value (ap (λ (x : SessionView). x.phase) session) (c.deref-2.ensures.value ∙ ap (λ (x : SessionView). x.modules) session) in
    (subst (AppendsSome (g.K.Sink.written c.args.sink.now) (g.K.Sink.written c.write_evidence.new.sink)) is c.in-Err-write_evidence.ensures.some, c.in-Err-write_evidence.ensures.cause.failed)
