use Rattle.std.proofs.Common.{refl}
use Rattle.s370_state.proofs.Lanes.{word_value, word_good}
use Rattle.s370_state.proofs.packed.number_in.Goals as goal

pub returns-clause-good : goal.returns-clause-good
returns-clause-good c = word_good c.args.x c.ranges.x.fits c.if-right-ne0.false c.if-left-ne0.false

pub returns-clause-value : goal.returns-clause-value
returns-clause-value c = word_value c.args.x _ _ _ c.ranges.x.fits refl refl refl
