use Rattle.std.proofs.Common.{arith}
use Rattle.s370_state.proofs.ShortFields.{long_good}
use Rattle.s370_state.proofs.packed.long_field.Goals as goal

pub returns-in-Some-short_field : goal.returns-in-Some-short_field
returns-in-Some-short_field g c =
    rw c.from-in-Some-short_field.ensures
    (long_good _ _ c.args.at c.args.l c.in-Some.x c.in-Some-number_in.high c.in-Some-short_field.low (omega arith) c.requires c.in-Some.ensures.bytes c.in-Some.ensures.number c.in-Some-number_in.ensures.good c.in-Some-number_in.ensures.value (rw (c.plus.ensures, c.from.ensures) at c.in-Some-short_field.ensures.field))
