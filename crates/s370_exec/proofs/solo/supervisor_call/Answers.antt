use Rattle.std.proofs.Common.{true, false, ◌∙◌, sym}
use Rattle.s370_exec.specs.Solo.{state_of}
use Rattle.s370_exec.proofs.CallLemmas.{call_of-unread, call_of-read}
use Rattle.s370_exec.proofs.solo.supervisor_call.Goals as goal

pub returns-in-Err : goal.returns-in-Err
returns-in-Err g c = λ io d. call_of-unread _ (state_of c.args.cpu.now (g.P.Space.bytes c.args.space.now) io d) c.at.result _ c.at.ensures c.in-Err.ensures.refused

pub returns-then-is_ex : goal.returns-then-is_ex
returns-then-is_ex g c = λ io d.
    call_of-read _ (state_of c.args.cpu.now (g.P.Space.bytes c.args.space.now) io d) c.at.result c.in-Ok.code true c.at.ensures c.in-Ok.ensures.passed c.in-Ok.ensures.code
    (sym c.is_ex.ensures ∙ c.if-is_ex.true) ∙ c.subject_call.ensures io d

pub returns : goal.returns
returns g c = λ io d.
    call_of-read _ (state_of c.args.cpu.now (g.P.Space.bytes c.args.space.now) io d) c.at.result c.in-Ok.code false c.at.ensures c.in-Ok.ensures.passed c.in-Ok.ensures.code
    (sym c.is_ex.ensures ∙ c.if-is_ex.false) ∙ c.call_in.ensures
