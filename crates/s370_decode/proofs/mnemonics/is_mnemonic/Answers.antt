use Rattle.std.proofs.Common.{◌≡◌, false, length, nat_le, refl, sym, arith}
use Rattle.std.proofs.lemmas.Bool.Decides.{nat_tests}
use Rattle.s370_decode.specs.Meaning.{mnemonics, is_mnemonic}
use Rattle.s370_decode.specs.Mnemonics.{mnemonic_numbers}
use Rattle.s370_decode.proofs.Words.{words_by_number, too_long, text_of, text_mnemonics, short_mnemonics}
use Rattle.s370_decode.proofs.mnemonics.is_mnemonic.Goals as goal

pub returns-then-text-le5 : goal.returns-then-text-le5
unfolding is_mnemonic mnemonic_numbers
returns-then-text-le5 c = rw (c.is_listed.ensures, c.word_number.ensures) (sym (words_by_number mnemonics c.args.text.now text_mnemonics (text_of c.args.text.now (λ k. (c.type_inv.text k).fits))))

pub returns-else-text-le5 : goal.returns-else-text-le5
unfolding is_mnemonic
returns-else-text-le5 c =
    let long : nat_le (length c.args.text.now) 5 ≡ false = grind (arith, nat_tests) in
    rw (long, too_long mnemonics c.args.text.now short_mnemonics c.if-text-le5.false) refl
