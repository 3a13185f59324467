use Rattle.std.proofs.Common.{◌≡◌, ◌-◌, arith}
use Rattle.s370_logic.proofs.Masks.{store_none}
use Rattle.s370_logic.proofs.masked.put_number.Goals as goal

pub returns-clause-bytes : goal.returns-clause-bytes
returns-clause-bytes g c =
    let e : c.args.n - c.loop-i.i ≡ 0 = omega arith in
    rw (e, store_none) at c.loop-i.invariant.bytes
