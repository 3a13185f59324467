use Rattle.std.proofs.Common.{◌≡◌, ◌^◌, ◌∙◌, ap, pos, FitsSigned}
use Rattle.std.specs.Int.{w64, w128}
use Rattle.std.proofs.lemmas.Int.{to_z-of_z}
use Rattle.s370_fixed.specs.Meaning.{left_by}
use Rattle.s370_fixed.proofs.Powers.{power_is, left_fits}
use Rattle.s370_fixed.proofs.shifts.left_by.Goals as goal

pub overflow_mul-result : goal.overflow_mul-result
overflow_mul-result c =
    let f : FitsSigned w128 c.from.result = record { sfits = c.from.type_inv } in
    let g : FitsSigned w128 c.from-2.result = record { sfits = c.from-2.type_inv } in
    let x : c.from.result ≡ c.args.x = c.from.ensures ∙ to_z-of_z w64 _ c.ranges.x in
    let p : c.from-2.result ≡ pos (2 ^ c.args.n) = c.from-2.ensures ∙ ap pos (power_is c.args.n c.requires) in
    rw (to_z-of_z w128 _ f, to_z-of_z w128 _ g, x, p) (left_fits c.args.x c.args.n c.ranges.x c.requires)

pub returns : goal.returns
unfolding left_by
returns c =
    let f : FitsSigned w128 c.from.result = record { sfits = c.from.type_inv } in
    let g : FitsSigned w128 c.from-2.result = record { sfits = c.from-2.type_inv } in
    let x : c.from.result ≡ c.args.x = c.from.ensures ∙ to_z-of_z w64 _ c.ranges.x in
    let p : c.from-2.result ≡ pos (2 ^ c.args.n) = c.from-2.ensures ∙ ap pos (power_is c.args.n c.requires) in
    rw (to_z-of_z w128 _ f, to_z-of_z w128 _ g, x, p) (to_z-of_z w128 _ (left_fits c.args.x c.args.n c.ranges.x c.requires))
