use Rattle.std.proofs.Common.{◌≡◌, ◌≢◌, refl, ◌≤◌, ◌<◌, length, min, ap, subst, arith}
use Rattle.marks_file.specs.Meaning.{MarkedView, module_row}
use Rattle.marks_file.specs.Combine.{SamePlaces}
use Rattle.marks_file.proofs.DifferenceLemmas.{ModulesPassed, passed_step, passed_stop, modules_over}
use Rattle.marks_file.proofs.difference.first_difference.Goals as goal

pub returns-in-Some-clause-some : goal.returns-in-Some-clause-some
returns-in-Some-clause-some c =
    let la : c.loop-i.i < length c.args.a.now = omega (arith, c.loop-i-test.true, c.min-both.ensures) in
    let lb : c.loop-i.i < length c.args.b.now = omega (arith, c.loop-i-test.true, c.min-both.ensures) in
    passed_stop c.args.a.now c.args.b.now c.loop-i.i c.loop-i.row c.index-a-i.result c.index-b-i.result _ c.loop-i.invariant la lb c.index-a-i.is c.index-b-i.is c.in-Some.ensures.some

pub loop-i-preserved : goal.loop-i-preserved
loop-i-preserved c =
    let la : c.loop-i.i < length c.args.a.now = omega (arith, c.loop-i-test.true, c.min-both.ensures) in
    let lb : c.loop-i.i < length c.args.b.now = omega (arith, c.loop-i-test.true, c.min-both.ensures) in
    let many : c.len-places.result ≡ length c.index-a-i.result.places = omega (arith, c.len-places.ensures, c.left.inside.places.ok.0, ap (λ (m : MarkedView). length m.places) c.left.view_is) in
    let same : (module_row c.index-a-i.result ≡ module_row c.index-b-i.result) × SamePlaces c.index-a-i.result.places c.index-b-i.result.places = c.in_default.ensures.none refl in
    rw many (passed_step c.args.a.now c.args.b.now c.loop-i.i c.loop-i.row c.index-a-i.result c.index-b-i.result c.loop-i.invariant la lb c.index-a-i.is c.index-b-i.is same)

pub returns-clause-some : goal.returns-clause-some
returns-clause-some c =
    let e : c.loop-i.i ≡ c.min-both.result = omega (arith, c.loop-i-test.false, c.loop-i.auto.i-end) in
    let la : c.min-both.result ≤ length c.args.a.now = omega (arith, c.min-both.ensures) in
    let lb : c.min-both.result ≤ length c.args.b.now = omega (arith, c.min-both.ensures) in
    let past : min (length c.args.a.now) (length c.args.b.now) ≤ c.min-both.result = omega (arith, c.min-both.ensures) in
    let other : length c.args.a.now ≢ length c.args.b.now = c.if-a-b.false in
    rw (c.row_at.ensures, c.row_at-2.ensures) (modules_over c.args.a.now c.args.b.now c.min-both.result c.loop-i.row (subst (λ j. ModulesPassed c.args.a.now c.args.b.now j c.loop-i.row) e c.loop-i.invariant) other la lb past)
