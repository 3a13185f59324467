-- What the lines of a listing say, where a text line takes a byte alone: the codes of the instruction lines, for each block
-- of 255 lines how many codes stand before it, and for each line its code's number in the block, from 1 on, or 0.
use Rattle.std.specs.Prelude.{ℕ, ◌+◌, ◌-◌, ◌/◌, ◌%◌, ◌<◌, ◌≤◌, nat_eq, if◌then◌else◌, List, length, get_or, map}
use Rattle.std.specs.List.{range_with_len}
use Rattle.listing_reader.specs.declared.lines.Line.{Line}
use Rattle.listing_reader.specs.declared.lines.Line.TheVariants.{Text}

-- what line i says
unfoldable pub line_in : List Line → List ℕ → List ℕ → ℕ → Line
line_in codes firsts ordinals i =
    if nat_eq (get_or ordinals i 0) 0 then Text else get_or codes (get_or firsts (i / 255) 0 + get_or ordinals i 0 - 1) Text

unfoldable pub lines_in : List Line → List ℕ → List ℕ → List Line
lines_in codes firsts ordinals = map (line_in codes firsts ordinals) (range_with_len 0 (length ordinals))

-- each number is one of a code, and each block that is open knows its first
pub record IsPacked (codes : List Line) (firsts ordinals : List ℕ) : Type 0 where
  pub started : (i : ℕ) → i < length ordinals → i / 255 < length firsts
  pub few : length firsts ≤ length ordinals / 255 + 1
  pub low : length ordinals / 255 < length firsts → get_or firsts (length ordinals / 255) 0 ≤ length codes
  pub near : length ordinals / 255 < length firsts → length codes ≤ get_or firsts (length ordinals / 255) 0 + length ordinals % 255
  pub within : (i : ℕ) → i < length ordinals → 0 < get_or ordinals i 0
      → get_or firsts (i / 255) 0 + get_or ordinals i 0 ≤ length codes
