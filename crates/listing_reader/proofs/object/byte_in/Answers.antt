use Rattle.std.proofs.Common.{Some, None, sym, ap, ◌∙◌, refl, arith}
use Rattle.hex.specs.Hex.{hex_digit_value}
use Rattle.listing_reader.proofs.Digits.{byte_in_two}
use Rattle.listing_reader.proofs.object.byte_in.Goals as goal

pub returns-in-None : goal.returns-in-None
returns-in-None c =
    sym (byte_in_two c.args.columns c.args.line.now c.args.shift c.args.i None _ (ap hex_digit_value (sym c.column.ensures) ∙ (sym c.digit.ensures.value ∙ c.in-None.is)) refl)

pub returns-in-None-digit : goal.returns-in-None-digit
returns-in-None-digit c =
    sym (byte_in_two c.args.columns c.args.line.now c.args.shift c.args.i (Some c.in-Some.high) None (ap hex_digit_value (sym c.column.ensures) ∙ (sym c.digit.ensures.value ∙ c.in-Some.is))
    (ap hex_digit_value (sym c.column-in-Some.ensures) ∙ (sym c.digit-in-Some.ensures.value ∙ c.in-None-digit.is)))

pub returns-in-Some-digit : goal.returns-in-Some-digit
returns-in-Some-digit c =
    let e = byte_in_two c.args.columns c.args.line.now c.args.shift c.args.i (Some c.in-Some.high) (Some c.in-Some-digit.low) (ap hex_digit_value (sym c.column.ensures) ∙ (sym c.digit.ensures.value ∙ c.in-Some.is))
    (ap hex_digit_value (sym c.column-in-Some.ensures) ∙ (sym c.digit-in-Some.ensures.value ∙ c.in-Some-digit.is)) in
    omega (arith, e)
