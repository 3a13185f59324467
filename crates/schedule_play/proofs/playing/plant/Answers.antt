use Rattle.std.proofs.Common.{arith}
use Rattle.schedule_play.proofs.PlantLemmas.{never_refused}
use Rattle.schedule_play.proofs.playing.plant.Goals as goal

pub unreachable-requires : goal.unreachable-requires
unreachable-requires c =
    never_refused c.args.core.now.world c.args.core.now.parts c.args.s c.args.p c.requires.is_world c.requires.place c.requires.window (omega (arith, c.if-s-eq0.false)) c.requires.fresh c.in_default.ensures.refused
