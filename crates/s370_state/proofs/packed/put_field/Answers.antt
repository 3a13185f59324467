use Rattle.std.proofs.Common.{◌+◌, ◌*◌, ◌%◌, ◌∙◌, refl, arith}
use Rattle.s370_state.specs.Meaning.{sign_half}
use Rattle.s370_state.proofs.Digits.{field_row}
use Rattle.s370_state.proofs.packed.put_field.Goals as goal

pub returns-clause-bytes : goal.returns-clause-bytes
returns-clause-bytes g c =
    let n = c.from-n.ensures in
    let parts = c.digits_and_last-digits.ensures in
    c.put_slice.ensures.bytes ∙ rw (n, parts.last, c.sign_half.ensures.value)
    (field_row _ c.args.at c.args.l c.args.v (c.args.v % 10 * 16 + sign_half c.args.minus) c.args.minus c.put_digits.new.row (omega arith) (rw (n, parts.digits) at c.put_digits.ensures.digits) refl)
