use Rattle.std.proofs.Common.{◌∙◌, arith}
use Rattle.std.specs.Int.{w64}
use Rattle.std.proofs.lemmas.Int.{of_z-to_z}
use Rattle.s370_fixed.proofs.LowWords.{beyond}
use Rattle.s370_fixed.proofs.words.is_beyond_word.Goals as goal

pub returns : goal.returns
returns c = beyond _ _ c.ranges.z (c.cast_unsigned.ensures ∙ of_z-to_z w64 _ (omega arith))
