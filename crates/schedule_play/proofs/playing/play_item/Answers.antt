use Rattle.schedule_play.proofs.RunLemmas.{goes, stays}
use Rattle.schedule_play.proofs.playing.play_item.Goals as goal

pub returns-in-Ok-clause-possible : goal.returns-in-Ok-clause-possible
returns-in-Ok-clause-possible c = rw c.in-Go.is (goes c.args.core.now.world c.args.core.now.parts c.go.new.self.parts c.in-Go.t c.in-Ok.ensures.gone)

pub returns-in-Err-clause-refused : goal.returns-in-Err-clause-refused
returns-in-Err-clause-refused c = rw c.in-Go.is (stays c.args.core.now.world c.args.core.now.parts c.in-Go.t c.in-Err.ensures.refused)
