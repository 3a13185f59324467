use Rattle.interleave_core.proofs.Drained.{stay_quiet, drained_stay}
use Rattle.interleave_core.proofs.Follows.{follows, never}
use Rattle.interleave_core.proofs.interleaving.Core.apply.Goals as goal

pub returns-clause-follows : goal.returns-clause-follows
returns-clause-follows c = follows c.args.self.now.world c.args.self.now.parts c.step-answer.new.self.parts c.args.e c.step-answer.result c.fits.ensures.world c.step-answer.ensures.possible

pub returns-clause-never : goal.returns-clause-never
returns-clause-never c = never c.args.self.now.world c.args.self.now.parts c.args.e c.step-answer.result c.step-answer.ensures.refused

pub returns-clause-quiet : goal.returns-clause-quiet
returns-clause-quiet c = stay_quiet c.args.self.now c.step-answer.new.self c.args.e c.step-answer.result c.fits.ensures.steady c.step-answer.ensures.possible c.step-answer.ensures.kept

pub returns-clause-drained : goal.returns-clause-drained
returns-clause-drained c =
    drained_stay c.args.self.now.world c.args.self.now.parts c.step-answer.new.self.parts c.fits.ensures.world
    (stay_quiet c.args.self.now c.step-answer.new.self c.args.e c.step-answer.result c.fits.ensures.steady c.step-answer.ensures.possible c.step-answer.ensures.kept)
