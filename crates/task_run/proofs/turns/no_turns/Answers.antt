use Rattle.std.proofs.Common.{◌≤◌, arith}
use Rattle.std.proofs.lemmas.List.Elements.{All-replicate}
use Rattle.task_run.proofs.turns.no_turns.Goals as goal

pub returns : goal.returns
returns c = All-replicate (λ t. t ≤ c.args.none) 256 c.args.none (omega arith)
