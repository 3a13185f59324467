use Rattle.std.proofs.Common.{◌∷◌, [], ◌++◌, List, sym, ap, ◌∙◌, subst}
use Rattle.brk_table.specs.declared.kept.Kept.{Kept}
use Rattle.brk_table.specs.Decoded.{AreDecoded}
use Rattle.brk_table.proofs.DecodedLemmas.{decoded_all}
use Rattle.brk_table.proofs.decoding.decode_all.Goals as goal

pub returns : goal.returns
returns c =
    let items = c.in_ok-push-2.ensures.items ∙ ap (λ (xs : List Kept). xs ++ c.no_instruction-2.result ∷ []) c.in_ok-push.ensures.items in
    subst (AreDecoded c.args.codes.now) (sym items) (decoded_all c.args.codes.now c.in_ok-kept.kept.items _ _ c.in_ok-kept.ensures c.no_instruction.ensures c.no_instruction-2.ensures)
