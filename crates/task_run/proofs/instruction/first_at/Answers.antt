use Rattle.task_run.proofs.PlaceLemmas.{begins_at}
use Rattle.task_run.proofs.instruction.first_at.Goals as goal

pub returns-in-Some-clause-placed : goal.returns-in-Some-clause-placed
returns-in-Some-clause-placed c = begins_at c.args.tables.now.places c.args.at c.in-Some.place.0 c.place.ensures.places c.in-Some.ensures.exists c.in-Some.ensures.begins
