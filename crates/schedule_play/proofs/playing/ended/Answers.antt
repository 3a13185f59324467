use Rattle.std.proofs.Common.{refl}
use Rattle.schedule_play.proofs.PlayLemmas.{has_line}
use Rattle.schedule_play.proofs.playing.ended.Goals as goal

pub returns-else-is_empty-clause-bad : goal.returns-else-is_empty-clause-bad
returns-else-is_empty-clause-bad c = (refl, has_line c.args.rest.now c.if-is_empty.ensures)
