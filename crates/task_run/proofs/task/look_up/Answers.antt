use Rattle.task_run.proofs.PlaceLemmas.{begins_at}
use Rattle.task_run.proofs.task.look_up.Goals as goal

pub returns-clause-placed : goal.returns-clause-placed
returns-clause-placed c = begins_at c.args.tables.now.places c.args.at c.in_ok-place.place.0 c.requires.places c.in_ok-place.ensures.exists c.in_ok-place.ensures.begins
