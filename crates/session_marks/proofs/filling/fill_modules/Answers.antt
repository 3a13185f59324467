use Rattle.std.proofs.Common.{◌≤◌, length, min, arith}
use Rattle.session_marks.proofs.FillLemmas.{all_filled}
use Rattle.session_marks.proofs.filling.fill_modules.Goals as goal

pub returns : goal.returns
returns g c =
    let past : min (length c.loop-i.marked) (length c.args.modules.now) ≤ c.loop-i.i = omega (arith, c.loop-i.auto.marked, c.min-i-end.ensures, c.loop-i-test.false) in
    all_filled c.args.tables.now (g.R.FactSets.set_of c.args.sets.now c.args.s.0) c.loop-i.marked c.args.modules.now c.loop-i.i _ past c.loop-i.invariant.0
