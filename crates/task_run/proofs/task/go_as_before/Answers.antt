use Rattle.std.proofs.Common.{length, refl}
use Rattle.task_run.proofs.PlaceLemmas.{begins_at}
use Rattle.task_run.proofs.task.go_as_before.Goals as goal

pub kept_at-requires-clause-n : goal.kept_at-requires-clause-n
kept_at-requires-clause-n c = c.guess-guessed.ensures (length c.args.tables.now.places) c.requires.turns

pub returns-in-Some-clause-placed : goal.returns-in-Some-clause-placed
returns-in-Some-clause-placed c =
    let there = c.in-Some.ensures.there refl in
    record { placed = begins_at c.args.tables.now.places c.args.at c.guess-guessed.result c.in-Some.ensures.places there.exists there.begins; there = refl }
