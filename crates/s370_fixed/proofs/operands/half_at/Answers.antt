use Rattle.std.proofs.Common.{rules, ◌≡◌, ◌∙◌, ap, FitsSigned}
use Rattle.std.specs.Int.{w16, w64, cast_signed}
use Rattle.std.proofs.lemmas.Int.{to_z-of_z}
use Rattle.s370_state.specs.Meaning.{number_at}
use Rattle.s370_fixed.specs.Meaning.{signed_half}
use Rattle.s370_fixed.proofs.Halves.{half_of_bytes, half_low, half_high}
use Rattle.s370_fixed.proofs.operands.half_at.Goals as goal

pub returns-in-Ok-clause-value : goal.returns-in-Ok-clause-value
unfolding signed_half
returns-in-Ok-clause-value g c =
    let f : FitsSigned w64 c.from.result = record { sfits = c.from.type_inv } in
    let h : FitsSigned w16 c.cast_signed.result = record { sfits = c.cast_signed.type_inv } in
    let half : c.from_be_bytes-half.result ≡ number_at (g.P.Space.memory c.args.space.now) (g.P.Space.bytes c.args.space.now) c.args.at 2 = search (rules, half_of_bytes) in
    to_z-of_z w64 _ f ∙ (c.from.ensures ∙ (to_z-of_z w16 _ h ∙ (c.cast_signed.ensures ∙ ap (cast_signed w16) half)))

pub returns-in-Ok-clause-low : goal.returns-in-Ok-clause-low
returns-in-Ok-clause-low g c =
    let f : FitsSigned w64 c.from.result = record { sfits = c.from.type_inv } in
    let h : FitsSigned w16 c.cast_signed.result = record { sfits = c.cast_signed.type_inv } in
    rw (to_z-of_z w64 _ f, c.from.ensures, to_z-of_z w16 _ h) (half_low c.cast_signed.result h)

pub returns-in-Ok-clause-high : goal.returns-in-Ok-clause-high
returns-in-Ok-clause-high g c =
    let f : FitsSigned w64 c.from.result = record { sfits = c.from.type_inv } in
    let h : FitsSigned w16 c.cast_signed.result = record { sfits = c.cast_signed.type_inv } in
    rw (to_z-of_z w64 _ f, c.from.ensures, to_z-of_z w16 _ h) (half_high c.cast_signed.result h)
