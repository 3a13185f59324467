use Rattle.std.proofs.Common.{◌≡◌, ◌+◌, ◌<◌, ◌≤◌, Some, None, length, get_or, drop, min, ◌∙◌, ap, arith}
use Rattle.marks_file.specs.Meaning.{MarkedView}
use Rattle.brk_table.specs.Meaning.{first_place}
use Rattle.evidence_check.specs.Meaning.{past_places, places_claims, first_refuted}
use Rattle.evidence_check.specs.Found.{found_at}
use Rattle.evidence_check.proofs.CheckLemmas.{min_past, modules_step, modules_stop, modules_hold}
use Rattle.evidence_check.proofs.claims.check_modules.Goals as goal

pub returns-in-Err : goal.returns-in-Err
returns-in-Err c =
    let i = c.loop-i.i in
    let m = c.index-modules-i.result in
    let lm : i < length c.args.modules.now = omega (arith, c.loop-i-test.true, c.min-i-end.ensures) in
    let ln : i < length c.args.numbers.now = omega (arith, c.loop-i-test.true, c.min-i-end.ensures) in
    let same : c.deref.result.now ≡ m.places = c.deref.ensures.value ∙ ap (λ (x : MarkedView). x.places) c.marked.view_is in
    let some : first_refuted (places_claims (found_at c.args.found.now) (c.loop-i.row + 1) (first_place c.args.tables.now.tables (get_or c.args.numbers.now i 0)) m.places (drop c.loop-i.at c.args.bytes.now)) ≡ Some c.in-Err.refuted =
    rw (c.range-first.ensures.first, same) at c.in-Err.ensures.some in
    modules_stop c.args.bytes.now c.args.tables.now (found_at c.args.found.now) c.args.modules.now c.args.numbers.now c.loop-i.at c.loop-i.row i m c.in-Err.refuted c.loop-i.invariant lm ln c.index-modules-i.is some

pub loop-i-preserved : goal.loop-i-preserved
loop-i-preserved c =
    let i = c.loop-i.i in
    let m = c.index-modules-i.result in
    let lm : i < length c.args.modules.now = omega (arith, c.loop-i-test.true, c.min-i-end.ensures) in
    let ln : i < length c.args.numbers.now = omega (arith, c.loop-i-test.true, c.min-i-end.ensures) in
    let same : c.deref.result.now ≡ m.places = c.deref.ensures.value ∙ ap (λ (x : MarkedView). x.places) c.marked.view_is in
    let many : c.len.result ≡ length m.places = omega (arith, c.len.ensures, c.marked.inside.places.ok.0, ap (λ (x : MarkedView). length x.places) c.marked.view_is) in
    let none : first_refuted (places_claims (found_at c.args.found.now) (c.loop-i.row + 1) (first_place c.args.tables.now.tables (get_or c.args.numbers.now i 0)) m.places (drop c.loop-i.at c.args.bytes.now)) ≡ None =
    rw (c.range-first.ensures.first, same) at c.in-Ok.ensures.none in
    let past : drop c.in-Ok.past c.args.bytes.now ≡ past_places m.places (drop c.loop-i.at c.args.bytes.now) = rw same at c.in-Ok.ensures.rest in
    rw many (modules_step c.args.bytes.now c.args.tables.now (found_at c.args.found.now) c.args.modules.now c.args.numbers.now c.loop-i.at c.in-Ok.past c.loop-i.row i m c.loop-i.invariant lm ln c.index-modules-i.is
    none c.in-Ok.ensures.inside past)

pub returns : goal.returns
returns c =
    let past : min (length c.args.modules.now) (length c.args.numbers.now) ≤ c.loop-i.i = omega (arith, c.min-i-end.ensures, c.loop-i-test.false) in
    modules_hold c.args.bytes.now c.args.tables.now (found_at c.args.found.now) c.args.modules.now c.args.numbers.now c.loop-i.at c.loop-i.row c.loop-i.i c.loop-i.invariant
    (min_past (length c.args.modules.now) (length c.args.numbers.now) c.loop-i.i past)
