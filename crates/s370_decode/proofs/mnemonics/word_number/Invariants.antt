use Rattle.std.proofs.Common.{◌≡◌, ◌*◌, ◌^◌, ◌<◌, take}
use Rattle.s370_decode.specs.Mnemonics.{word_number}
use Rattle.s370_decode.proofs.mnemonics.word_number.Given as goal

abbrev pub invariant-loop-b : goal.invariant-loop-b
invariant-loop-b l = record {
  number : l.n ≡ word_number (take l.b-index l.word);
  below : l.n < 2 * 256 ^ l.b-index;
}
