-- The lines of a listing in one buffer: the bytes of all, one line behind the other, and where each begins.
use Rattle.std.specs.Prelude.{◌≡◌, ℕ, ◌+◌, ◌*◌, ◌/◌, ◌%◌, ◌<◌, ◌≤◌, nat_lt, if◌then◌else◌, List, length, get_or, map, slice_range}
use Rattle.std.specs.List.{range_with_len}
use Rattle.cov_base.specs.declared.limits.TheConstants.{LINE_LIMIT}

-- Where line i begins: so far behind the start of its block of 256 lines. The line past the last would begin at the end
-- of the bytes.
unfoldable pub begin_of : List ℕ → List ℕ → List ℕ → ℕ → ℕ
begin_of bytes starts begins i = if nat_lt i (length begins) then get_or starts (i / 256) 0 + get_or begins i 0 else length bytes

-- each line goes up to where the next begins
abbrev pub buffered_line : List ℕ → List ℕ → List ℕ → ℕ → List ℕ
buffered_line bytes starts begins i = slice_range bytes (begin_of bytes starts begins i) (begin_of bytes starts begins (i + 1))

unfoldable pub buffered_lines : List ℕ → List ℕ → List ℕ → List (List ℕ)
buffered_lines bytes starts begins = map (buffered_line bytes starts begins) (range_with_len 0 (length begins))

-- with these starts of blocks the lines are as with those
abbrev pub KeepsLines : List ℕ → List ℕ → List ℕ → List ℕ → Type 0
KeepsLines bytes begins old new = buffered_lines bytes new begins ≡ buffered_lines bytes old begins

-- the lines rise in the bytes, and each block that is open has its start
pub record IsBuffer (bytes starts begins : List ℕ) : Type 0 where
  pub started : (i : ℕ) → i < length begins → i / 256 < length starts
  pub few : length starts ≤ length begins / 256 + 1
  pub low : length begins / 256 < length starts → get_or starts (length begins / 256) 0 ≤ length bytes
  pub near : length begins / 256 < length starts
      → length bytes ≤ get_or starts (length begins / 256) 0 + length begins % 256 * LINE_LIMIT
  pub rising : (i : ℕ) → begin_of bytes starts begins i ≤ begin_of bytes starts begins (i + 1)
  pub inside : (i : ℕ) → begin_of bytes starts begins i ≤ length bytes
