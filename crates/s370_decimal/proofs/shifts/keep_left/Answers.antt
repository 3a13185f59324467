use Rattle.std.proofs.Common.{◌+◌, ◌*◌, arith}
use Rattle.s370_decimal.proofs.Shifting.{left_below}
use Rattle.s370_decimal.proofs.shifts.keep_left.Goals as goal

pub overflow_mul-result : goal.overflow_mul-result
overflow_mul-result c =
    let b = left_below (2 * c.args.l + 1) c.args.f.magnitude c.args.n (omega arith) in
    rw (c.power-room.ensures.value, c.power.ensures.value, c.saturating_sub.ensures) (omega (arith, b))
