use Rattle.std.proofs.Common.{◌-◌, arith}
use Rattle.std.proofs.lemmas.Nat.{mul-le}
use Rattle.s370_decimal.proofs.Powers.{power_most}
use Rattle.s370_decimal.proofs.shifts.rounded.Goals as goal

pub overflow_mul-result : goal.overflow_mul-result
overflow_mul-result c =
    let p = power_most (63 - c.args.n) (omega arith) in
    let b = mul-le c.from.result c.power.result 9 10000000000000000000000000000000 (omega arith) (omega (arith, p, c.power.ensures.value)) in
    omega (arith, b)

pub overflow_add-result : goal.overflow_add-result
overflow_add-result c =
    let p = power_most (63 - c.args.n) (omega arith) in
    let b = mul-le c.from.result c.power.result 9 10000000000000000000000000000000 (omega arith) (omega (arith, p, c.power.ensures.value)) in
    omega (arith, b)
