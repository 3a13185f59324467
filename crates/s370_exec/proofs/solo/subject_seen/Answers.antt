use Rattle.std.proofs.Common.{true, false, ◌∙◌, sym}
use Rattle.s370_decode.specs.Meaning.{first_half, op_of}
use Rattle.s370_branch.specs.Meaning.{goes}
use Rattle.s370_exec.specs.Meaning.{visit}
use Rattle.s370_exec.specs.Solo.{state_of}
use Rattle.s370_exec.proofs.StepLemmas.{unread-subject, read-subject, ex-subject}
use Rattle.s370_exec.proofs.solo.subject_seen.Goals as goal

pub returns-in-Err : goal.returns-in-Err
returns-in-Err g c = λ io d. unread-subject _ (state_of c.args.cpu.now (g.P.Space.bytes c.args.space.now) io d) c.at.result _ c.at.ensures c.in-Err.ensures.refused

pub returns-then-is_ex : goal.returns-then-is_ex
returns-then-is_ex g c = λ io d.
    ex-subject _ (state_of c.args.cpu.now (g.P.Space.bytes c.args.space.now) io d) c.at.result c.in-Ok.code c.at.ensures c.in-Ok.ensures.passed c.in-Ok.ensures.code
    (sym c.is_ex.ensures ∙ c.if-is_ex.true) ∙ c.subject_visit.ensures (visit (state_of c.args.cpu.now (g.P.Space.bytes c.args.space.now) io d) c.at.result true (goes (op_of (first_half c.in-Ok.code)) c.args.cpu.now c.in-Ok.code) false) io d

pub returns : goal.returns
returns g c = λ io d.
    read-subject _ (state_of c.args.cpu.now (g.P.Space.bytes c.args.space.now) io d) c.at.result c.in-Ok.code c.at.ensures c.in-Ok.ensures.passed c.in-Ok.ensures.code
    (sym c.is_ex.ensures ∙ c.if-is_ex.false)
