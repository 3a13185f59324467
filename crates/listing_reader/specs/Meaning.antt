-- What the claim of the program says by this crate's clauses.
use Rattle.std.specs.Prelude.{ℕ, ◌+◌, ◌-◌, List, slice_index_or, Bool, ◌&&◌, ◌||◌, nat_le, if◌then◌else◌, Option, option_map, [], length, slice_range, position, codes, map, zero, suc, ◌*◌, ◌/◌, ◌%◌, ◌==◌, true, not, nat_lt, Some, None, is_some, take, drop, unwrap_or, is_none, ◌∷◌, ◌++◌, replicate}
use Rattle.listing_reader.specs.declared.columns.Columns.{Columns}
use Rattle.listing_reader.specs.declared.columns.Width.{Width}
use Rattle.listing_reader.specs.declared.columns.Width.TheVariants.{Narrow, Wide}
use Rattle.std.specs.Str.{bytes_eq}
use Rattle.std.specs.Char.{to_ascii_lowercase, to_ascii_uppercase}
use Rattle.std.specs.List.{position_or_len, range_with_len}
use Rattle.std.specs.Option.{option_and_then, option_or, option_map_or}
use Rattle.hex.specs.Hex.{hex_digit_value, is_hex_digit}
use Rattle.cov_base.specs.Meaning.{length_of}
use Rattle.s370_decode.specs.Meaning.{first_half, is_mnemonic}
use Rattle.s370_decode.specs.declared.code.Code.{Code}
use Rattle.listing_reader.specs.declared.lines.Line.{Line}
use Rattle.listing_reader.specs.declared.lines.Line.TheVariants.{Text}
use Rattle.listing_reader.specs.declared.lines.Line.TheVariants as says
use Rattle.listing_reader.specs.declared.lines.ListFault.{ListFault}
use Rattle.listing_reader.specs.declared.lines.ListFault.TheVariants.{NoHeading, BadObject}

-- The columns of a listing line, counted from 1 (High Level Assembler, the source and object section).

-- a listing of 121 columns, and one whose locations have eight digits
abbrev pub columns_of : Width → Columns
columns_of Narrow = record { location = 1; digits = 6; object = 8; room = 14; source = 41 }
columns_of Wide = record { location = 1; digits = 8; object = 10; room = 16; source = 51 }

-- the byte in column n behind the shift, in a line that is filled with blanks
unfoldable pub column : List ℕ → ℕ → ℕ → ℕ
column line shift n = slice_index_or line (shift + n - 1) 32

-- The heading line, and the shift and the width that it tells.

-- the heading's text
abbrev pub narrow_text : List ℕ
narrow_text = codes "Loc  Object Code    Addr1 Addr2  Stmt   Source Statement"

abbrev pub wide_text : List ℕ
wide_text = codes "Loc    Object Code      Address1 Address2  Stmt   Source Statement"

-- it stands behind so many columns, its letters in either case
unfoldable pub is_text_after : List ℕ → List ℕ → ℕ → Bool
is_text_after text line before =
    nat_le (before + length text) (length line)
    && bytes_eq (map to_ascii_lowercase (slice_range line before (before + length text))) (map to_ascii_lowercase text)

-- it begins at column 3 or at column 4
abbrev pub has_heading : List ℕ → List ℕ → Bool
has_heading text line = is_text_after text line 2 || is_text_after text line 3

abbrev pub is_heading : List ℕ → Bool
is_heading line = has_heading narrow_text line || has_heading wide_text line

-- of a heading line, its column less 3
abbrev pub shift_in : List ℕ → ℕ
shift_in line = if is_text_after narrow_text line 2 || is_text_after wide_text line 2 then 0 else 1

-- and the width whose text it has
abbrev pub width_in : List ℕ → Width
width_in line = if has_heading narrow_text line then Narrow else Wide

-- the index of the first heading line, its shift and its width
abbrev pub heading_of : List (List ℕ) → Option (ℕ × ℕ × Width)
heading_of lines =
    option_map (λ (i : ℕ). (i, shift_in (slice_index_or lines i []), width_in (slice_index_or lines i [])))
    (position is_heading lines)

-- The fields of a listing line by its columns (High Level Assembler, the source and object section).

-- the test holds below n
unfoldable pub all_below : (ℕ → Bool) → ℕ → Bool
all_below test zero = true
all_below test (suc n) = all_below test n && test n

abbrev pub is_blank : ℕ → Bool
is_blank b = b == 32

abbrev pub is_blank_at : List ℕ → ℕ → ℕ → Bool
is_blank_at line shift n = is_blank (column line shift n)

-- so many columns from one on
unfoldable pub are_blank : List ℕ → ℕ → ℕ → ℕ → Bool
are_blank line shift from count = all_below (λ k. is_blank_at line shift (from + k)) count

-- the number that so many hexadecimal digits spell from a column on
unfoldable pub number_in : List ℕ → ℕ → ℕ → ℕ → Option ℕ
number_in line shift from zero = Some 0
number_in line shift from (suc n) =
    option_and_then (λ v. option_map (λ d. 16 * v + d) (hex_digit_value (column line shift (from + n))))
    (number_in line shift from n)

-- the k-th column of so many groups of four hexadecimal digits, which are parted by one blank and followed by blanks
abbrev pub fits_groups : List ℕ → ℕ → ℕ → ℕ → ℕ → Bool
fits_groups line shift from groups k =
    if nat_lt (k % 5) 4 && nat_lt (k / 5) groups then is_hex_digit (column line shift (from + k))
    else is_blank_at line shift (from + k)

unfoldable pub are_groups : Columns → List ℕ → ℕ → ℕ → Bool
are_groups c line shift groups = all_below (fits_groups line shift c.object groups) c.room

-- the byte of the object code that its groups have at i
unfoldable pub byte_in : Columns → List ℕ → ℕ → ℕ → ℕ
byte_in c line shift i = unwrap_or (number_in line shift (c.object + 5 * (i / 2) + 2 * (i % 2)) 2) 0

abbrev pub byte_of : Columns → List ℕ → ℕ → ℕ → ℕ → ℕ
byte_of c line shift groups i = if nat_lt i (2 * groups) then byte_in c line shift i else 0

unfoldable pub code_in : Columns → List ℕ → ℕ → ℕ → Code
code_in c line shift groups = record { at = 0; bytes = map (byte_of c line shift groups) (range_with_len 0 6); len = 2 * groups }

-- the object code, where it has so many groups and its first byte gives this length
abbrev pub code_with : Columns → List ℕ → ℕ → ℕ → Option Code
code_with c line shift groups =
    if are_groups c line shift groups && length_of (first_half (code_in c line shift groups)) == 2 * groups
    then Some (code_in c line shift groups) else None

-- the object code of one to three groups
unfoldable pub object_of : Columns → List ℕ → ℕ → Option Code
object_of c line shift = option_or (code_with c line shift 1) (option_or (code_with c line shift 2) (code_with c line shift 3))

-- what follows the blanks in front, and the run of other bytes in front
abbrev pub skip_blanks : List ℕ → List ℕ
skip_blanks bytes = drop (position_or_len (λ b. not (is_blank b)) bytes) bytes

abbrev pub word_run : List ℕ → List ℕ
word_run bytes = take (position_or_len is_blank bytes) bytes

abbrev pub after_run : List ℕ → List ℕ
after_run bytes = drop (position_or_len is_blank bytes) bytes

-- the source statement
abbrev pub source_of : Columns → List ℕ → ℕ → List ℕ
source_of c line shift = drop (shift + c.source - 1) line

-- the second run of a statement that begins with a name, else the first
abbrev pub operation_of : Columns → List ℕ → ℕ → List ℕ
operation_of c line shift =
    if is_blank_at line shift c.source then word_run (skip_blanks (source_of c line shift))
    else word_run (skip_blanks (after_run (source_of c line shift)))

-- the operation, its letters in either case, is a mnemonic; a statement that begins with an asterisk has none
unfoldable pub has_mnemonic : Columns → List ℕ → ℕ → Bool
has_mnemonic c line shift =
    not (column line shift c.source == 42) && is_mnemonic (map to_ascii_uppercase (operation_of c line shift))

abbrev pub column_location : Columns → List ℕ → ℕ → Option ℕ
column_location c line shift = number_in line shift c.location c.digits

-- a line behind the heading is one of an instruction: a location, a blank, a mnemonic, and some object code
unfoldable pub is_instruction : Columns → List ℕ → ℕ → Bool
is_instruction c line shift =
    is_some (column_location c line shift) && is_blank_at line shift (c.location + c.digits) && has_mnemonic c line shift
    && not (are_blank line shift c.object c.room)

-- What a listing says, line by line, and its first fault.

-- a line behind the heading; none where it is an instruction's and its object code is no code
unfoldable pub line_of : Columns → ℕ → List ℕ → Option Line
line_of c shift line =
    if is_instruction c line shift
    then option_map (λ code. says.Code (unwrap_or (column_location c line shift) 0) code) (object_of c line shift)
    else Some Text

-- what the lines behind the heading say, behind what the earlier ones do; none where one is bad
abbrev pub lines_behind : List Line → Columns → ℕ → List (List ℕ) → Option (List Line)
lines_behind earlier c shift [] = Some earlier
lines_behind earlier c shift (line ∷ lines) =
    option_and_then (λ (says : Line). lines_behind (earlier ++ says ∷ []) c shift lines) (line_of c shift line)

-- The whole listing: the first heading line and all before it are text. None where there is no heading or a line is bad.
abbrev pub listing_of : List (List ℕ) → Option (List Line)
listing_of lines =
    option_and_then (λ (h : ℕ × ℕ × Width). lines_behind (replicate (h.0 + 1) Text) (columns_of h.2) h.1 (drop (h.0 + 1) lines))
    (heading_of lines)

-- the first bad one of the lines, of which the first has the number n
abbrev pub bad_from : Columns → ℕ → ℕ → List (List ℕ) → Option ListFault
bad_from c shift n lines = option_map (λ k. BadObject (n + k)) (position (λ line. is_none (line_of c shift line)) lines)

-- its first fault: no heading, or the first bad line, counted from 1
abbrev pub fault_of : List (List ℕ) → Option ListFault
fault_of lines =
    option_map_or (λ (h : ℕ × ℕ × Width). bad_from (columns_of h.2) h.1 (h.0 + 2) (drop (h.0 + 1) lines)) (heading_of lines)
    (Some NoHeading)
