-- Which line's instruction each byte of a module belongs to.
use Rattle.std.specs.Prelude.{◌≡◌, ℕ, zero, suc, ◌+◌, ◌<◌, ◌≤◌, Bool, true, false, ◌&&◌, ◌||◌, nat_le, nat_lt, Option, Some, None, is_some, List, length, get_or, count_by, Contains, AllPairs}
use Rattle.s370_decode.specs.declared.code.Code.{Code}
use Rattle.module_area.specs.Meaning.{place_of}
use Rattle.module_area.specs.declared.places.Place.{Place}
use Rattle.brk_table.specs.Meaning.{IsEntry}
use Rattle.listing_reader.specs.declared.lines.Line.{Line}
use Rattle.listing_reader.specs.declared.lines.Line.TheVariants.{Text}
use Rattle.listing_reader.specs.declared.lines.Line.TheVariants as says

-- the byte at k is one of the line's instruction
abbrev pub covers : ℕ → Line → Bool
covers k Text = false
covers k (says.Code loc code) = nat_le loc k && nat_lt k (loc + code.len)

-- one of the n bytes from a location on has a line
unfoldable pub is_covered : List (Option ℕ) → ℕ → ℕ → Bool
is_covered cover from zero = false
is_covered cover from (suc n) = is_covered cover from n || is_some (get_or cover (from + n) None)

-- each byte has the line whose instruction has it
pub record IsCover (lines : List Line) (cover : List (Option ℕ)) : Type 0 where
  pub of_line : (k i : ℕ) → k < length cover → get_or cover k None ≡ Some i
      → (i < length lines) × (covers k (get_or lines i Text) ≡ true)
  pub has_line : (k i : ℕ) → k < length cover → i < length lines → covers k (get_or lines i Text) ≡ true
      → get_or cover k None ≡ Some i

-- the instruction lies in a module of that size
abbrev pub is_inside : ℕ → Line → Bool
is_inside size Text = true
is_inside size (says.Code loc code) = nat_le (loc + code.len) size

-- what is entered for a line, once all that begin below a location have their places
abbrev pub IsEntryBelow : ℕ → ℕ → ℕ → List Place → Line → Option ℕ → Type 0
IsEntryBelow m base at places Text entry = entry ≡ None
IsEntryBelow m base at places (says.Code loc code) entry =
    (loc < at → IsEntry m base places (says.Code loc code) entry) × (at ≤ loc → entry ≡ None)

-- the places of the instructions that begin below a location, and the entries of their lines
pub record IsTabled (m base : ℕ) (lines : List Line) (at : ℕ) (places : List Place) (entries : List (Option ℕ)) : Type 0 where
  pub count : length entries ≡ length lines
  pub entered : (i : ℕ) → i < length lines → IsEntryBelow m base at places (get_or lines i Text) (get_or entries i None)
  pub of_lines : (k : ℕ) → k < length places → Contains entries (Some k)
  pub low : (k : ℕ) → k < length places → (place_of places k).at < base + at
  pub rising : AllPairs (λ p q. p.at < q.at) places
  pub few : length places ≤ at
  pub filled : count_by is_some entries ≡ length places

-- no line but perhaps line i begins at a location
abbrev pub OnlyAt : List Line → ℕ → ℕ → Type 0
OnlyAt lines at i = (j loc : ℕ) (code : Code) → j < length lines → get_or lines j Text ≡ says.Code loc code → loc ≡ at → j ≡ i
