-- Mnemonics as numbers.
use Rattle.std.specs.Prelude.{ℕ, ◌+◌, ◌*◌, List, [], ◌∷◌, map, reverse}
use Rattle.s370_decode.specs.Meaning.{mnemonics}

-- the number of the letters from the last to the first, in base 256 after a leading 1
unfoldable pub backward : List ℕ → ℕ
backward [] = 1
backward (b ∷ bs) = backward bs * 256 + b

-- a word as a number, by which the words of the table are searched
abbrev pub word_number : List ℕ → ℕ
word_number word = backward (reverse word)

unfoldable pub mnemonic_numbers : List ℕ
mnemonic_numbers = map word_number mnemonics
