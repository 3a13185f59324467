use Rattle.std.proofs.Common.{◌∙◌}
use Rattle.s370_exec.specs.Solo.{state_of}
use Rattle.s370_exec.proofs.CallLemmas.{subject_call-refused, subject_call-unread, subject_call-read}
use Rattle.s370_exec.proofs.solo.subject_call.Goals as goal

pub returns-in-Err : goal.returns-in-Err
returns-in-Err g c = λ io d.
    subject_call-refused _ (state_of c.args.cpu.now (g.P.Space.bytes c.args.space.now) io d) c.args.ex.now c.subject_address-at.result _ c.subject_address-at.ensures c.in-Err.ensures.refused

pub returns-in-Ok-fetch_subject : goal.returns-in-Ok-fetch_subject
returns-in-Ok-fetch_subject g c = λ io d.
    subject_call-read (g.P.Space.memory c.args.space.now) (state_of c.args.cpu.now (g.P.Space.bytes c.args.space.now) io d) c.args.ex.now c.subject_address-at.result c.in-Ok.half c.in-Ok-fetch_subject.subject
    c.subject_address-at.ensures c.in-Ok.ensures.passed c.in-Ok.ensures.half c.in-Ok-fetch_subject.ensures.passed c.in-Ok-fetch_subject.ensures.code ∙ c.call_in.ensures

pub returns-in-Err-fetch_subject : goal.returns-in-Err-fetch_subject
returns-in-Err-fetch_subject g c = λ io d.
    subject_call-unread (g.P.Space.memory c.args.space.now) (state_of c.args.cpu.now (g.P.Space.bytes c.args.space.now) io d) c.args.ex.now c.subject_address-at.result c.in-Ok.half _
    c.subject_address-at.ensures c.in-Ok.ensures.passed c.in-Ok.ensures.half c.in-Err-fetch_subject.ensures.refused
