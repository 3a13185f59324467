use Rattle.std.proofs.Common.{◌≡◌, ◌∙◌, ap, ℕ, ℤ, slice_set, FitsSigned}
use Rattle.std.specs.Prelude.{◌*ℤ◌}
use Rattle.std.specs.Int.{w64}
use Rattle.std.proofs.lemmas.Int.{to_z-of_z}
use Rattle.s370_state.specs.Meaning.{signed}
use Rattle.s370_fixed.specs.Meaning.{low_word}
use Rattle.s370_fixed.proofs.Wide.{product_fits}
use Rattle.s370_fixed.proofs.products.multiply_low.Goals as goal

pub overflow_mul-product : goal.overflow_mul-product
overflow_mul-product c =
    let f : FitsSigned w64 c.signed.result = record { sfits = c.signed.type_inv } in
    rw (to_z-of_z w64 _ f, to_z-of_z w64 _ c.ranges.z) (product_fits _ _ c.signed.ensures.low c.signed.ensures.high c.requires.low c.requires.high)

pub returns-clause-cpu : goal.returns-clause-cpu
returns-clause-cpu c =
    let f : FitsSigned w64 c.signed.result = record { sfits = c.signed.type_inv } in
    let p : FitsSigned w64 (c.signed.result *ℤ c.args.z) = product_fits _ _ c.signed.ensures.low c.signed.ensures.high c.requires.low c.requires.high in
    let u : c.low_word.result ≡ low_word (c.signed.result *ℤ c.args.z) = rw (to_z-of_z w64 _ f, to_z-of_z w64 _ c.ranges.z, to_z-of_z w64 _ p) at c.low_word.ensures in
    c.load.ensures.cpu ∙ ap (λ (v : ℕ). record c.args.cpu.now { regs = slice_set c.args.cpu.now.regs c.args.r v })
    (u ∙ ap (λ (x : ℤ). low_word (x *ℤ c.args.z)) (c.signed.ensures.value ∙ ap signed c.reg.ensures))
