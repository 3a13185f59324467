use Rattle.std.proofs.Common.{◌∙◌, sym}
use Rattle.s370_exec.specs.Solo.{state_of}
use Rattle.s370_exec.proofs.StepLemmas.{unread-went, read-went}
use Rattle.s370_exec.proofs.solo.instruction_went.Goals as goal

pub returns-in-Ok : goal.returns-in-Ok
returns-in-Ok g c = λ io d.
    read-went _ (state_of c.args.cpu.now (g.P.Space.bytes c.args.space.now) io d) c.at.result c.in-Ok.code c.at.ensures c.in-Ok.ensures.passed c.in-Ok.ensures.code ∙ sym c.outcome.ensures

pub returns-in-Err : goal.returns-in-Err
returns-in-Err g c = λ io d. unread-went _ (state_of c.args.cpu.now (g.P.Space.bytes c.args.space.now) io d) c.at.result _ c.at.ensures c.in-Err.ensures.refused
