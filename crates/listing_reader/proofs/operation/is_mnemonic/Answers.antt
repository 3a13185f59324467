use Rattle.std.proofs.Common.{map, sym}
use Rattle.std.proofs.lemmas.List.{length-map}
use Rattle.std.specs.Char.{to_ascii_uppercase}
use Rattle.s370_decode.specs.Meaning.{mnemonics, is_mnemonic}
use Rattle.s370_decode.proofs.Laws.{too_long, short_mnemonics}
use Rattle.listing_reader.proofs.operation.is_mnemonic.Goals as goal

pub returns-then-n-gt5 : goal.returns-then-n-gt5
unfolding is_mnemonic
returns-then-n-gt5 c = sym (too_long mnemonics (map to_ascii_uppercase c.args.word.now) short_mnemonics (rw (length-map c.args.word.now to_ascii_uppercase) c.if-n-gt5.true))
