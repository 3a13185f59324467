use Rattle.std.proofs.Common.{◌≡◌, ◌∙◌, ap, ℕ, ℤ, FitsSigned}
use Rattle.std.specs.Prelude.{◌*ℤ◌}
use Rattle.std.specs.Int.{w64, cast_unsigned}
use Rattle.std.proofs.lemmas.Int.{to_z-of_z}
use Rattle.s370_state.specs.Meaning.{signed, with_pair}
use Rattle.s370_fixed.specs.Meaning.{product}
use Rattle.s370_fixed.proofs.Wide.{product_fits}
use Rattle.s370_fixed.proofs.products.multiply.Goals as goal

pub overflow_mul-product : goal.overflow_mul-product
overflow_mul-product c =
    let f : FitsSigned w64 c.signed.result = record { sfits = c.signed.type_inv } in
    rw (to_z-of_z w64 _ f, to_z-of_z w64 _ c.ranges.z) (product_fits _ _ c.signed.ensures.low c.signed.ensures.high c.requires.low c.requires.high)

pub returns-clause-cpu : goal.returns-clause-cpu
unfolding product
returns-clause-cpu c =
    let f : FitsSigned w64 c.signed.result = record { sfits = c.signed.type_inv } in
    let p : FitsSigned w64 (c.signed.result *ℤ c.args.z) = product_fits _ _ c.signed.ensures.low c.signed.ensures.high c.requires.low c.requires.high in
    let u : c.cast_unsigned.result ≡ cast_unsigned w64 (c.signed.result *ℤ c.args.z) = rw (to_z-of_z w64 _ f, to_z-of_z w64 _ c.ranges.z, to_z-of_z w64 _ p) at c.cast_unsigned.ensures in
    c.set_pair.ensures ∙ ap (λ (v : ℕ). record c.args.cpu.now { regs = with_pair c.args.cpu.now.regs c.args.r v })
    (u ∙ ap (λ (x : ℤ). cast_unsigned w64 (x *ℤ c.args.z)) (c.signed.ensures.value ∙ ap signed c.reg.ensures))
