use Rattle.std.proofs.Common.{rules, ◌≡◌, true, nat_eq, length, ◌∙◌, subst}
use Rattle.job_text.specs.Meaning.{lines_of}
use Rattle.interleave_core.specs.World.{IsWorld}
use Rattle.schedule_play.proofs.PlayLemmas.{begun}
use Rattle.schedule_play.proofs.RunLemmas.{play_is_run}
use Rattle.schedule_play.proofs.playing.replay.Goals as goal

pub returns-clause-run : goal.returns-clause-run
returns-clause-run c =
    let j = c.args.job.now in
    let places = c.args.tables.now.places in
    let lines = lines_of c.args.schedule.now in
    let core = c.in_ok-core.core in
    let one : nat_eq (length j.phases) 1 ≡ true = search rules in
    play_is_run j places c.args.count c.play.new.core.parts lines c.in_ok-played.played.items (subst IsWorld c.in_ok-core.ensures.world c.in_ok-core.ensures.is_world)
    (begun j places core.world c.args.count core.parts lines c.in_ok-core.ensures.world one c.in_ok-core.ensures.planted ∙ c.in_ok-played.ensures.whole)
