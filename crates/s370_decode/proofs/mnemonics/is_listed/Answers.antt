use Rattle.std.proofs.Common.{refl, ◌∙◌}
use Rattle.s370_decode.specs.Meaning.{mnemonics}
use Rattle.s370_decode.specs.Mnemonics.{mnemonic_numbers, backward}
use Rattle.s370_decode.proofs.Words.{found}
use Rattle.s370_decode.proofs.mnemonics.is_listed.Goals as goal

pub returns : goal.returns
unfolding mnemonic_numbers mnemonics backward
returns c = c.is_ok.ensures.value ∙ found mnemonic_numbers c.args.n c.binary_search.result refl c.binary_search.ensures.position
