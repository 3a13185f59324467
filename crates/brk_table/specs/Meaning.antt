-- What the claim of the program says by this crate's clauses.
use Rattle.std.specs.Prelude.{ℕ, ◌+◌, ◌-◌, Bool, ◌&&◌, ◌||◌, ◌==◌, nat_le, nat_lt, nat_eq, if◌then◌else◌, Option, None, option_map, List, [], ◌∷◌, ◌++◌, length, slice_index, get_or, ◌≡◌, ◌%◌, ◌<◌, true, false, Some, map, count_by, Contains, AllPairs}
use Rattle.std.specs.List.{list_any, range_with_len}
use Rattle.cov_base.specs.Meaning.{Memory, ImageView, breakpoint, kind_of}
use Rattle.module_area.specs.declared.places.Place.{Place}
use Rattle.s370_decode.specs.declared.code.Code.{Code}
use Rattle.std.specs.Option.{option_or}
use Rattle.std.specs.Str.{bytes_eq}
use Rattle.module_area.specs.Meaning.{place_of}
use Rattle.s370_decode.specs.Meaning.{first_half}
use Rattle.listing_reader.specs.declared.lines.Line.{Line}
use Rattle.listing_reader.specs.declared.lines.Line.TheVariants.{Text}
use Rattle.listing_reader.specs.declared.lines.Line.TheVariants as says
use Rattle.brk_table.specs.declared.faults.BuildFault.{BuildFault}
use Rattle.brk_table.specs.declared.faults.BuildFault.TheVariants.{Odd, Outside, Overlap, TooMany, OwnSvc, Mismatch}

-- The places of all modules, and the memory that a task sees over them.

-- a module's places in order of address, and for each line of its listing the index of its place
pub record TableView : Type 0 where
  pub «module» : ℕ
  pub places : List Place
  pub lines : List (Option ℕ)

-- the tables of the monitored modules, all their places one table after the other, and the instructions that are kept of
-- these, of which no claim says anything
pub record TablesView : Type 0 where
  pub tables : List TableView
  pub places : List Place
  pub codes : List Code

abbrev pub all_places : List TableView → List Place
all_places [] = []
all_places (t ∷ ts) = t.places ++ all_places ts

-- the number of the module's first place: past those of the tables before its own
abbrev pub first_place : List TableView → ℕ → ℕ
first_place [] m = 0
first_place (t ∷ ts) m = if nat_eq t.«module» m then 0 else length t.places + first_place ts m

-- how many places it has
abbrev pub place_count : List TableView → ℕ → ℕ
place_count [] m = 0
place_count (t ∷ ts) m = if nat_eq t.«module» m then length t.places else place_count ts m

-- what is entered for line k of a listing, counted from 1; there is no line 0
abbrev pub entry_of_line : List (Option ℕ) → ℕ → Option ℕ
entry_of_line entries k = if nat_eq k 0 then None else get_or entries (k - 1) None

-- the number of the place of its listing's line k, counted from 1; none for a text line, for line 0, and without a table
abbrev pub place_at_line : List TableView → ℕ → ℕ → Option ℕ
place_at_line [] m k = None
place_at_line (t ∷ ts) m k =
    if nat_eq t.«module» m then entry_of_line t.lines k else option_map (λ n. length t.places + n) (place_at_line ts m k)

-- the byte is one of the first two of a place
abbrev pub touches : List Place → ℕ → Bool
touches places a = list_any (λ (p : Place). a == p.at || a == p.at + 1) places

abbrev pub in_image : ImageView → ℕ → Bool
in_image i a = nat_le i.base a && nat_lt a (i.base + length i.bytes)

abbrev pub image_byte : List ImageView → ℕ → ℕ
image_byte [] a = 0
image_byte (i ∷ is) a = if in_image i a then slice_index i.bytes (a - i.base) else image_byte is a

-- what a task with so much private storage sees: touches are judged by the places alone
unfoldable pub memory_of : ℕ → List ImageView → List Place → Memory
memory_of size images places = record {
  private = size;
  is_image = λ a. list_any (λ i. in_image i a) images;
  image = λ a. image_byte images a;
  is_touch = λ a. touches places a;
}

-- The table of a listing over its module, and the first fault of a listing that has none.

abbrev pub is_code : Line → Bool
is_code Text = false
is_code (says.Code loc code) = true

-- the line's instruction shares a byte with the one at loc
abbrev pub shares : ℕ → Code → Line → Bool
shares loc code Text = false
shares loc code (says.Code other d) = nat_lt loc (other + d.len) && nat_lt other (loc + code.len)

abbrev pub module_byte : List ℕ → ℕ → ℕ → ℕ → ℕ
module_byte bytes loc len i = if nat_lt i len then slice_index bytes (loc + i) else 0

-- so many bytes of the module
unfoldable pub module_code : List ℕ → ℕ → ℕ → Code
module_code bytes loc len = record { at = 0; bytes = map (module_byte bytes loc len) (range_with_len 0 6); len = len }

-- The fault of line n at loc, where it shares a byte or not and so many instructions stand before it: an odd location,
-- bytes past the module, shared bytes, no room, the breakpoint's own halfword, other bytes than the module's.
unfoldable pub fault_by : List ℕ → ℕ → Bool → ℕ → ℕ → ℕ → Code → Option BuildFault
fault_by bytes room shared before n loc code =
    if loc % 2 == 1 then Some (Odd n) else (
    if nat_lt (length bytes) (loc + code.len) then Some (Outside n) else (
    if shared then Some (Overlap n) else (
    if nat_le room before then Some (TooMany n) else (
    if first_half code == breakpoint then Some (OwnSvc n) else (
    if bytes_eq code.bytes (module_code bytes loc code.len).bytes then None
    else Some (Mismatch n code (module_code bytes loc code.len)))))))

-- the fault of a line behind the earlier ones
abbrev pub fault_at : List ℕ → ℕ → List Line → Line → Option BuildFault
fault_at bytes room earlier Text = None
fault_at bytes room earlier (says.Code loc code) =
    fault_by bytes room (list_any (shares loc code) earlier) (count_by is_code earlier) (length earlier + 1) loc code

-- the first fault of the lines behind the earlier ones
abbrev pub first_fault : List ℕ → ℕ → List Line → List Line → Option BuildFault
first_fault bytes room earlier [] = None
first_fault bytes room earlier (line ∷ lines) =
    option_or (fault_at bytes room earlier line) (first_fault bytes room (earlier ++ line ∷ []) lines)

-- the place of an instruction of module m at loc
abbrev pub place_from : ℕ → ℕ → ℕ → Code → Place
place_from m base loc code =
    record { «module» = m; at = base + loc; len = code.len; original = first_half code; kind = kind_of (first_half code) }

-- what a table has for a line: nothing for text, else the index of its place
abbrev pub IsEntry : ℕ → ℕ → List Place → Line → Option ℕ → Type 0
IsEntry m base places Text entry = entry ≡ None
IsEntry m base places (says.Code loc code) None = ⊥
IsEntry m base places (says.Code loc code) (Some k) = (k < length places) × (place_of places k ≡ place_from m base loc code)

-- the table of module m at that base: the places of the instruction lines in order of address, and no others
pub record IsTable (m base : ℕ) (lines : List Line) (t : TableView) : Type 0 where
  pub of : t.«module» ≡ m
  pub count : length t.lines ≡ length lines
  pub entries : (i : ℕ) → i < length lines → IsEntry m base t.places (get_or lines i Text) (get_or t.lines i None)
  pub of_lines : (k : ℕ) → k < length t.places → Contains t.lines (Some k)
  pub rising : AllPairs (λ p q. p.at < q.at) t.places
