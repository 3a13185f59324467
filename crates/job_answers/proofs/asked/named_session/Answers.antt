use Rattle.std.proofs.Common.{◌≡◌, true, is_some, sym, rules, None, refl, ap}
use Rattle.session_book.specs.Meaning.{session_of}
use Rattle.job_answers.specs.Answers.{NoJob}
use Rattle.job_answers.proofs.StopLemmas.{is_controlled}
use Rattle.job_answers.specs.Meaning.{NoSession, session_number}
use Rattle.refusals.specs.Meaning.{refusal}
use Rattle.job_answers.proofs.asked.named_session.Goals as goal

pub returns-then-is_some-clause-stopped : goal.returns-then-is_some-clause-stopped
returns-then-is_some-clause-stopped c =
    let by : is_some (session_of c.args.job.now c.in-Some.session.0).by ≡ true = search rules in
    is_controlled c.args.wanted.now c.args.job.now c.in-Some.session.0 c.controlled.result c.if-wanted.true (sym c.in-Some.ensures.value) by c.controlled.ensures

pub returns-in_default-clause-stopped : goal.returns-in_default-clause-stopped
returns-in_default-clause-stopped c =
    let missing : session_number c.args.job.now c.args.wanted.now.name ≡ None = search rules in
    λ form s came. NoJob came.bytes came.came (NoSession c.args.job.now c.args.wanted.now came.has refl missing (ap (refusal 13) c.no_session_line.ensures))
