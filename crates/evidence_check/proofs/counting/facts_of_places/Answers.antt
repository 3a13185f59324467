use Rattle.std.proofs.Common.{arith}
use Rattle.evidence_check.proofs.CountLemmas.{count_place, facts_of_places-most}
use Rattle.evidence_check.proofs.counting.facts_of_places.Goals as goal

pub overflow_add-count : goal.overflow_add-count
overflow_add-count c =
    let places = c.args.places.now in
    let next = count_place places c.loop-i.i c.loop-i.count c.fact_count-count.result c.index-places-i.result c.loop-i-test.true c.loop-i.invariant
    c.fact_count-count.ensures.value in
    omega (arith, next, facts_of_places-most places, c.requires)
