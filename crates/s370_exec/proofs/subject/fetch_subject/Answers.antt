use Rattle.std.proofs.Common.{◌≡◌, ap, sym, ◌∙◌}
use Rattle.s370_decode.specs.Meaning.{first_half}
use Rattle.s370_decode.specs.declared.code.Code.{Code}
use Rattle.s370_exec.specs.Meaning.{is_execute, merged}
use Rattle.s370_exec.proofs.Subjects.{is_execute-merged}
use Rattle.s370_exec.proofs.subject.fetch_subject.Goals as goal

pub returns-in-Ok-clause-other : goal.returns-in-Ok-clause-other
returns-in-Ok-clause-other g c =
    let same : c.merge.result ≡ merged c.args.cpu.now c.args.ex.now c.in-Ok.subject = c.merge.ensures in
    ap (λ (k : Code). is_execute (first_half k)) (same ∙ ap (λ k. merged c.args.cpu.now c.args.ex.now k) c.in-Ok.ensures.code)
    ∙ (is_execute-merged _ _ c.args.at c.args.h0 c.args.cpu.now c.args.ex.now ∙ (sym c.is_execute.ensures ∙ c.if-is_execute.false))
