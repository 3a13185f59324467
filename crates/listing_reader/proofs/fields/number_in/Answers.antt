use Rattle.std.proofs.Common.{◌≡◌, ◌+◌, ◌*◌, ◌^◌, Some, None, sym, ◌∙◌, ap, refl, arith, add-one}
use Rattle.std.proofs.Math.Nat.{pow-suc}
use Rattle.hex.specs.Hex.{hex_digit_value}
use Rattle.listing_reader.specs.Meaning.{column, number_in}
use Rattle.listing_reader.proofs.Digits.{number_in_more, number_in_none, power_16}
use Rattle.listing_reader.proofs.fields.number_in.Goals as goal

pub loop-k-init : goal.loop-k-init
unfolding number_in
loop-k-init c = record { spelled = refl; below = omega arith }

pub returns-in-None : goal.returns-in-None
returns-in-None c =
    let e : hex_digit_value (column c.args.line.now c.args.shift (c.args.from + c.loop-k.k)) ≡ None =
    ap hex_digit_value (sym c.column.ensures) ∙ (sym c.digit.ensures.value ∙ c.in-None.is) in
    sym (number_in_none c.args.line.now c.args.shift c.args.from c.args.count c.loop-k.k e c.loop-k-test.true)

pub overflow_mul-number : goal.overflow_mul-number
overflow_mul-number c = omega (arith, power_16 c.loop-k.k (omega arith))

pub overflow_add-number : goal.overflow_add-number
overflow_add-number c = omega (arith, power_16 c.loop-k.k (omega arith), c.in-Some.ensures.below)

pub loop-k-preserved : goal.loop-k-preserved
loop-k-preserved c =
    let e : hex_digit_value (column c.args.line.now c.args.shift (c.args.from + c.loop-k.k)) ≡ Some c.in-Some.d =
    ap hex_digit_value (sym c.column.ensures) ∙ (sym c.digit.ensures.value ∙ c.in-Some.is) in
    let more : 16 ^ (c.loop-k.k + 1) ≡ 16 ^ c.loop-k.k * 16 = rw add-one (pow-suc 16 c.loop-k.k) in
    record {
      spelled = rw c.from.ensures (number_in_more _ _ _ _ _ _ c.loop-k.invariant.spelled e);
      below = omega (arith, more, c.in-Some.ensures.below);
    }
