use Rattle.std.proofs.Common.{refl, sym, ◌∙◌, arith}
use Rattle.s370_state.proofs.ShortFields.{short_good}
use Rattle.s370_state.proofs.packed.short_field.Goals as goal

pub returns-in-Some-number_in-clause-field : goal.returns-in-Some-number_in-clause-field
returns-in-Some-number_in-clause-field g c =
    rw (c.from.ensures, c.is_minus.ensures)
    (short_good _ _ c.args.at c.args.l c.in-Some.x c.in-Some-number_in.v _ (omega arith) c.in-Some.ensures.bytes c.in-Some.ensures.number refl (sym c.is_sign.ensures ∙ c.if-not-is_sign.false) c.in-Some-number_in.ensures.good c.in-Some-number_in.ensures.value)
