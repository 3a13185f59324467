use Rattle.std.proofs.Common.{◌≡◌, None, Some, drop, arith}
use Rattle.std.proofs.lemmas.Result.{err_from_is_err_and}
use Rattle.marks_file.specs.Meaning.{first_bad, place_fields, marked_place_at}
use Rattle.marks_file.proofs.LoopLemmas.{places_start, places_step, places_stop, places_good, places_all, place_end}
use Rattle.marks_file.proofs.reading.read_places.Goals as goal

pub loop-i-init : goal.loop-i-init
loop-i-init c = rw c.new-places.ensures.items (places_start _ _ _ _ c.requires)

pub rest_of-requires : goal.rest_of-requires
rest_of-requires c = c.loop-i.invariant.inside

pub read_place-requires : goal.read_place-requires
read_place-requires c = let inside = c.loop-i.invariant.inside in omega arith

pub returns-in_err-place-clause-bad : goal.returns-in_err-place-clause-bad
returns-in_err-place-clause-bad c =
    let p = err_from_is_err_and c.from_residual.result c.from_residual.ensures.1 in
    let bad : first_bad (place_fields c.loop-i.at c.args.size c.loop-i.end (drop c.loop-i.at c.args.input.now)) ≡ Some c.in_err-place.field-0.0.0 = rw c.rest_of.ensures at c.in_err-place.ensures.bad in
    rw (p.1, p.2) (places_stop _ _ _ _ _ _ _ _ _ c.loop-i.invariant c.loop-i-test.true bad)

pub overflow_add-end : goal.overflow_add-end
overflow_add-end c =
    let good : first_bad (place_fields c.loop-i.at c.args.size c.loop-i.end (drop c.loop-i.at c.args.input.now)) ≡ None = rw c.rest_of.ensures at c.in_ok-place.ensures.good in
    let is : c.in_ok-place.place ≡ marked_place_at (drop c.loop-i.at c.args.input.now) = rw c.rest_of.ensures at c.in_ok-place.ensures.place in
    let end = place_end c.loop-i.at c.args.size c.loop-i.end (drop c.loop-i.at c.args.input.now) c.in_ok-place.place good is in
    omega (arith, end, c.from.ensures)

pub overflow_add-at : goal.overflow_add-at
overflow_add-at c = let inside = c.loop-i.invariant.inside in omega arith

pub loop-i-preserved : goal.loop-i-preserved
loop-i-preserved c =
    let good : first_bad (place_fields c.loop-i.at c.args.size c.loop-i.end (drop c.loop-i.at c.args.input.now)) ≡ None = rw c.rest_of.ensures at c.in_ok-place.ensures.good in
    let is : c.in_ok-place.place ≡ marked_place_at (drop c.loop-i.at c.args.input.now) = rw c.rest_of.ensures at c.in_ok-place.ensures.place in
    let next = places_step c.args.input.now c.args.from c.args.size c.args.count c.loop-i.at c.loop-i.end c.loop-i._i _ c.in_ok-place.place c.loop-i.invariant c.loop-i-test.true good is in
    rw (c.in_ok-push.ensures.items, c.from.ensures) next

pub returns-clause-places : goal.returns-clause-places
returns-clause-places c = places_all c.args.input.now c.args.from c.args.size c.args.count c.loop-i.at c.loop-i.end c.loop-i._i _ c.loop-i.invariant c.loop-i-test.false

pub returns-clause-good : goal.returns-clause-good
returns-clause-good c = places_good c.args.input.now c.args.from c.args.size c.args.count c.loop-i.at c.loop-i.end c.loop-i._i _ c.loop-i.invariant c.loop-i-test.false
