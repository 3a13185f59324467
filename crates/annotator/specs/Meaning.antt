-- What the claim of the program says by this crate's clauses.
use Rattle.std.specs.Prelude.{ℕ, List, ◌∷◌, zero, suc, ◌/◌, ◌%◌, true, [], ◌++◌}
use Rattle.cov_base.specs.declared.marks.Mark.{Mark}
use Rattle.cov_base.specs.declared.marks.Mark.TheVariants.{Text, Not, Done, Branched, Fell, Both}
use Rattle.std.specs.Fmt.{digit_glyph}

-- The listing line with its mark.

-- the blank, ^, :, >, V and &, in ASCII
abbrev pub mark_byte : Mark → ℕ
mark_byte Text = 32
mark_byte Not = 94
mark_byte Done = 58
mark_byte Branched = 62
mark_byte Fell = 86
mark_byte Both = 38

-- the mark, one blank, the line
abbrev pub annotated : Mark → List ℕ → List ℕ
annotated mark line = mark_byte mark ∷ 32 ∷ line

-- The digits of numbers in a report, in ASCII. In decimal they are std's `decimal`.

-- the last so many hexadecimal digits of a number, in upper case, with leading zeros
abbrev pub hex_digits : ℕ → ℕ → List ℕ
hex_digits zero n = []
hex_digits (suc k) n = hex_digits k (n / 16) ++ digit_glyph true (n % 16) ∷ []
