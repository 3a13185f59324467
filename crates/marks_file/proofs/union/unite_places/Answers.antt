use Rattle.std.proofs.Common.{◌≤◌, length, min, arith}
use Rattle.marks_file.proofs.UnionLemmas.{places_united}
use Rattle.marks_file.proofs.union.unite_places.Goals as goal

pub returns : goal.returns
returns c =
    let past : min (length c.loop-i.a) (length c.args.b.now) ≤ c.loop-i.i = omega (arith, c.loop-i.auto.a, c.min-i-end.ensures, c.loop-i-test.false) in
    places_united c.loop-i.a c.args.b.now c.loop-i.i _ past c.loop-i.invariant
