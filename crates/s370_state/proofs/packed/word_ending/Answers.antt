use Rattle.std.proofs.Common.{◌<◌, slice_index, subst, refl, zero-add}
use Rattle.s370_state.proofs.ShortFields.{word_number, word_small}
use Rattle.s370_state.proofs.packed.word_ending.Goals as goal

pub returns-in-Some-clause-number : goal.returns-in-Some-clause-number
returns-in-Some-clause-number g c = word_number _ _ c.args.at c.args.l _ c.in-Some.row.now c.requires (rw (c.plus.ensures, c.from.ensures) at c.in-Some.ensures) (λ i l. subst (λ k. slice_index c.in-Some.row.now k < 256) (zero-add i) (c.doubleword.ensures.bytes i l)) (rw c.doubleword.ensures.number refl)

pub returns-in-Some-clause-bytes : goal.returns-in-Some-clause-bytes
returns-in-Some-clause-bytes g c = word_small _ _ c.args.at c.args.l c.in-Some.row.now c.requires (rw (c.plus.ensures, c.from.ensures) at c.in-Some.ensures) (λ i l. subst (λ k. slice_index c.in-Some.row.now k < 256) (zero-add i) (c.doubleword.ensures.bytes i l))
