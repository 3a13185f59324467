use Rattle.std.proofs.Common.{◌≡◌, true, subst}
use Rattle.cov_base.specs.declared.facts.Kind.{Kind}
use Rattle.cov_base.specs.FactKind.{is_of_kind}
use Rattle.task_run.proofs.TrapLemmas.{can_mark}
use Rattle.task_run.proofs.trap.settle.Goals as goal

pub mark-found-requires : goal.mark-found-requires
mark-found-requires g c =
    record { can = can_mark _ _ _ _ c.args.cell c.session_of-s.result.0 c.args.fact c.requires.trap c.session_of-s.ensures.tag (subst (λ (k : Kind). is_of_kind k c.args.fact ≡ true) c.requires.plan c.requires.fact) }
