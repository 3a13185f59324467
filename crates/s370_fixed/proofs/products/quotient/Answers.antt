use Rattle.std.proofs.Common.{rules, ◌≡◌, ◌∙◌, FitsSigned, to_z, of_z}
use Rattle.std.specs.Int.{w64, w128}
use Rattle.std.proofs.lemmas.Int.{to_z-of_z}
use Rattle.s370_fixed.proofs.Wide.{divides_told, divides_not}
use Rattle.s370_fixed.proofs.products.quotient.Goals as goal

pub returns-then-is_word-clause-divides : goal.returns-then-is_word-clause-divides
returns-then-is_word-clause-divides c =
    let f : FitsSigned w64 c.in-Some.q = search rules in
    let g : FitsSigned w128 c.from.result = search rules in
    let q : to_z w128 (of_z w128 c.from.result) ≡ c.in-Some.q = to_z-of_z w128 _ g ∙ (c.from.ensures ∙ to_z-of_z w64 _ f) in
    divides_told _ _ _ _ _ _ (to_z-of_z w64 _ c.ranges.p) (to_z-of_z w64 _ c.ranges.d) q c.in-Some.ensures c.if-is_word.ensures

pub returns-else-is_word-clause-none : goal.returns-else-is_word-clause-none
returns-else-is_word-clause-none c =
    let f : FitsSigned w64 c.in-Some.q = search rules in
    let g : FitsSigned w128 c.from.result = search rules in
    let q : to_z w128 (of_z w128 c.from.result) ≡ c.in-Some.q = to_z-of_z w128 _ g ∙ (c.from.ensures ∙ to_z-of_z w64 _ f) in
    divides_not _ _ _ _ _ _ (to_z-of_z w64 _ c.ranges.p) (to_z-of_z w64 _ c.ranges.d) q c.in-Some.ensures c.if-is_word.ensures
