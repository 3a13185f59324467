use Rattle.std.proofs.Common.{◌∙◌, ap}
use Rattle.s370_state.specs.declared.endings.Next.TheVariants.{Ended}
use Rattle.task_run.proofs.Laws.{bad_svc-behind}
use Rattle.task_services.proofs.services.ServicesHook.behind.Goals as goal

pub call-requires : goal.call-requires
call-requires g c = bad_svc-behind _ c.requires.behind (c.in-Ended.is ∙ ap Ended c.in-BadSvc.is)
