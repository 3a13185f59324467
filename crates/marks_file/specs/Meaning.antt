-- What the claim of the program says by this crate's clauses.
use Rattle.std.specs.Prelude.{ℕ, ◌+◌, ◌%◌, Bool, true, ◌&&◌, ◌||◌, not, nat_eq, nat_lt, nat_le, if◌then◌else◌, Option, option_map, unwrap_or, List, [], ◌∷◌, ◌++◌, length, ◌≡◌, Some, None, map, replicate, codes, zero, suc, ◌*◌, take, drop, slice_index, ◌≢◌, ◌⊎◌, min, fold, All}
use Rattle.std.specs.List.{list_any, list_all, flat_map, sum_by}
use Rattle.std.specs.Str.{bytes_eq}
use Rattle.cov_base.specs.Meaning.{length_of, kind_of, breakpoint, facts_of_number, number_of_facts, is_within, is_filled, blank, union}
use Rattle.cov_base.specs.declared.facts.Kind.{Kind}
use Rattle.cov_base.specs.declared.facts.Kind.TheVariants.{Straight, Conditional}
use Rattle.marks_file.specs.declared.marks.MarkedPlace.{MarkedPlace}
use Rattle.std.specs.Io.{StartsWith}
use Rattle.byteorder.specs.Endian.{big_bytes, big_number}
use Rattle.marks_file.specs.declared.version.Version.{Version}
use Rattle.marks_file.specs.declared.version.Version.TheVariants.{First, Second}

-- The values of a marks file, and the rule of each of its fields.

-- a module's name filled with blanks, its base, its size, and its places in order
pub record MarkedView : Type 0 where
  pub name : List ℕ
  pub base : ℕ
  pub size : ℕ
  pub places : List MarkedPlace

-- a session's name filled with blanks, where there is one; the runs that have shown the sets; its modules in order
pub record MarksView : Type 0 where
  pub name : Option (List ℕ)
  pub runs : ℕ
  pub modules : List MarkedView

abbrev pub kind_number : Kind → ℕ
kind_number Straight = 0
kind_number Conditional = 1

abbrev pub kind_of_number : ℕ → Kind
kind_of_number n = if nat_eq n 0 then Straight else Conditional

-- location: even, below the module's size, at or past the end of the place before
unfoldable pub is_location : ℕ → ℕ → ℕ → Bool
is_location size end at = nat_eq (at % 2) 0 && (nat_lt at size && nat_le end at)

-- length: 2, 4 or 6, and inside the module
unfoldable pub is_length : ℕ → ℕ → ℕ → Bool
is_length size at len = (nat_eq len 2 || (nat_eq len 4 || nat_eq len 6)) && nat_le (at + len) size

-- original: a halfword of this length and kind, and not the breakpoint
unfoldable pub is_original : ℕ → Kind → ℕ → Bool
is_original len kind half =
    nat_lt half 65536 && (nat_eq (length_of half) len
    && (nat_eq (kind_number (kind_of half)) (kind_number kind) && not (nat_eq half breakpoint)))

-- set: facts of the kind alone
unfoldable pub is_set : Kind → ℕ → Bool
is_set kind set = nat_lt set 8 && is_within kind (facts_of_number set)

abbrev pub end_location : MarkedPlace → ℕ
end_location p = p.location + p.len

-- the places of a module of this size, behind one that ends there
abbrev pub are_places : ℕ → ℕ → List MarkedPlace → Bool
are_places size end [] = true
are_places size end (p ∷ ps) =
    (is_location size end p.location
    && (is_length size p.location p.len && (is_original p.len p.kind p.original && is_set p.kind (number_of_facts p.set))))
    && are_places size (end_location p) ps

-- name: one filled with blanks, other than the earlier modules'
unfoldable pub is_new_name : List MarkedView → List ℕ → Bool
is_new_name earlier field = is_filled field && not (list_any (λ (m : MarkedView). bytes_eq m.name field) earlier)

-- base: a doubleword from X'100000' to X'FFEFF8'
unfoldable pub is_base : ℕ → Bool
is_base base = nat_eq (base % 8) 0 && (nat_le 1048576 base && nat_le base 16773112)

-- the module shares no byte with the one of this base and size
abbrev pub is_clear : ℕ → ℕ → MarkedView → Bool
is_clear base size m = nat_le (m.base + m.size) base || nat_le (base + size) m.base

-- size: even, 2 to 262,144, up to X'FFF000' at most, sharing no byte with an earlier module
unfoldable pub is_size : List MarkedView → ℕ → ℕ → Bool
is_size earlier base size =
    nat_eq (size % 2) 0 &&
    (nat_le 2 size && (nat_le size 262144 && (nat_le (base + size) 16773120 && list_all (is_clear base size) earlier)))

abbrev pub place_total : List MarkedView → ℕ
place_total [] = 0
place_total (m ∷ ms) = length m.places + place_total ms

-- count: the counts so far sum to at most 65,536
unfoldable pub is_count : List MarkedView → ℕ → Bool
is_count earlier count = nat_le (place_total earlier + count) 65536

-- the modules behind these
abbrev pub are_modules : List MarkedView → List MarkedView → Bool
are_modules earlier [] = true
are_modules earlier (m ∷ ms) =
    (is_new_name earlier m.name
    && (is_base m.base &&
    (is_size earlier m.base m.size && (is_count earlier (length m.places) && are_places m.size 0 m.places))))
    && are_modules (earlier ++ m ∷ []) ms

-- modules: 1 to 16
unfoldable pub is_module_count : ℕ → Bool
is_module_count n = nat_le 1 n && nat_le n 16

abbrev pub are_marks : List MarkedView → Bool
are_marks ms = is_module_count (length ms) && are_modules [] ms

-- the most runs that a file tells
abbrev pub most_runs : ℕ
most_runs = 4294967295

-- runs: 1 to 4,294,967,295
unfoldable pub is_runs : ℕ → Bool
is_runs n = nat_le 1 n && nat_le n most_runs

-- the rules of all of them; the name is one filled with blanks, or none
abbrev pub keeps_rules : MarksView → Bool
keeps_rules m = unwrap_or (option_map is_filled m.name) true && (is_runs m.runs && are_marks m.modules)

-- The bytes of a marks file in its two versions, and the rows of its table. All numbers are big-endian.

-- 8 bytes: location, length, kind (0 Straight, 1 Conditional), original halfword
abbrev pub place_row : MarkedPlace → List ℕ
place_row p = big_bytes 4 p.location ++ (p.len ∷ kind_number p.kind ∷ big_bytes 2 p.original)

-- the row and the set: Ran is 1, Went 2, Stayed 4
abbrev pub place_bytes : MarkedPlace → List ℕ
place_bytes p = place_row p ++ (number_of_facts p.set ∷ [])

-- 20 bytes: name filled with blanks, base, size, number of places
abbrev pub module_row : MarkedView → List ℕ
module_row m = m.name ++ (big_bytes 4 m.base ++ (big_bytes 4 m.size ++ big_bytes 4 (length m.places)))

abbrev pub module_bytes : MarkedView → List ℕ
module_bytes m = module_row m ++ flat_map place_bytes m.places

abbrev pub magic : Version → List ℕ
magic First = codes "S370COV1"
magic Second = codes "S370COV2"

-- the session's name filled with blanks; eight blanks where there is none
abbrev pub name_field : Option (List ℕ) → List ℕ
name_field None = replicate 8 blank
name_field (Some name) = name

-- what stands between magic and modules: name and runs, in version 2 alone
abbrev pub session_bytes : Version → MarksView → List ℕ
session_bytes First m = []
session_bytes Second m = name_field m.name ++ big_bytes 4 m.runs

-- the number of modules, and the modules
abbrev pub modules_bytes : List MarkedView → List ℕ
modules_bytes ms = big_bytes 2 (length ms) ++ flat_map module_bytes ms

-- the one spelling of these marks in a version
abbrev pub file_bytes : Version → MarksView → List ℕ
file_bytes v m = magic v ++ (session_bytes v m ++ modules_bytes m.modules)

-- the version tells all of these marks: version 1 has no name, and stands for one run
abbrev pub Tells : Version → MarksView → Type 0
Tells First m = (m.name ≡ None) × (m.runs ≡ 1)
Tells Second m = Unit {0}

-- the bytes, of which the first has this offset, begin with a file of these marks, which ends there
pub record HasFile (at : ℕ) (bs : List ℕ) (m : MarksView) (end : ℕ) : Type 0 where
  pub version : Version
  pub tells : Tells version m
  pub starts : StartsWith bs (file_bytes version m)
  pub ends : end ≡ at + length (file_bytes version m)

abbrev pub module_rows : MarkedView → List (List ℕ)
module_rows m = module_row m ∷ map place_row m.places

-- The table: what files must share to be combined. Rows are numbered from 0.
abbrev pub rows : List MarkedView → List (List ℕ)
rows ms = flat_map module_rows ms

-- What bytes say where a marks file is expected: its fields in their order, and the first of them that is bad.

-- the offset of a field, and whether the input has it whole and it keeps its rule
pub record FieldAt : Type 0 where
  pub at : ℕ
  pub good : Bool

-- so many bytes from k on, of the bytes that begin at this offset, under this rule
abbrev pub field : ℕ → List ℕ → ℕ → ℕ → Bool → FieldAt
field at bs k width rule = record { at = at + k; good = nat_le (k + width) (length bs) && rule }

-- the offset of the first bad field
abbrev pub first_bad : List FieldAt → Option ℕ
first_bad [] = None
first_bad (f ∷ fs) = if f.good then first_bad fs else Some f.at

-- the place that the first 9 bytes say
unfoldable pub marked_place_at : List ℕ → MarkedPlace
marked_place_at bs = record {
  location = big_number 4 bs;
  len = slice_index bs 4;
  kind = kind_of_number (slice_index bs 5);
  original = big_number 2 (drop 6 bs);
  set = facts_of_number (slice_index bs 8);
}

-- of a place in a module of this size, behind one that ends there
unfoldable pub place_fields : ℕ → ℕ → ℕ → List ℕ → List FieldAt
place_fields at size end bs =
    field at bs 0 4 (is_location size end (big_number 4 bs))
    ∷ field at bs 4 1 (is_length size (big_number 4 bs) (slice_index bs 4))
    ∷ field at bs 5 1 (nat_le (slice_index bs 5) 1)
    ∷ field at bs 6 2 (is_original (slice_index bs 4) (kind_of_number (slice_index bs 5)) (big_number 2 (drop 6 bs)))
    ∷ field at bs 8 1 (is_set (kind_of_number (slice_index bs 5)) (slice_index bs 8))
    ∷ []

abbrev pub places_at : ℕ → List ℕ → List MarkedPlace
places_at zero bs = []
places_at (suc n) bs = marked_place_at bs ∷ places_at n (drop 9 bs)

abbrev pub places_fields : ℕ → ℕ → ℕ → ℕ → List ℕ → List FieldAt
places_fields at size end zero bs = []
places_fields at size end (suc n) bs =
    place_fields at size end bs ++ places_fields (at + 9) size (end_location (marked_place_at bs)) n (drop 9 bs)

-- the number of places that a module's first 20 bytes say
abbrev pub place_count_at : List ℕ → ℕ
place_count_at bs = big_number 4 (drop 16 bs)

unfoldable pub module_at : List ℕ → MarkedView
module_at bs = record {
  name = take 8 bs;
  base = big_number 4 (drop 8 bs);
  size = big_number 4 (drop 12 bs);
  places = places_at (place_count_at bs) (drop 20 bs);
}

-- of a module without its places, behind these
unfoldable pub header_fields : ℕ → List MarkedView → List ℕ → List FieldAt
header_fields at earlier bs =
    field at bs 0 8 (is_new_name earlier (take 8 bs))
    ∷ field at bs 8 4 (is_base (big_number 4 (drop 8 bs)))
    ∷ field at bs 12 4 (is_size earlier (big_number 4 (drop 8 bs)) (big_number 4 (drop 12 bs)))
    ∷ field at bs 16 4 (is_count earlier (place_count_at bs))
    ∷ []

abbrev pub module_fields : ℕ → List MarkedView → List ℕ → List FieldAt
module_fields at earlier bs =
    header_fields at earlier bs ++ places_fields (at + 20) (big_number 4 (drop 12 bs)) 0 (place_count_at bs) (drop 20 bs)

abbrev pub modules_fields : ℕ → List MarkedView → ℕ → List ℕ → List FieldAt
modules_fields at earlier zero bs = []
modules_fields at earlier (suc n) bs =
    module_fields at earlier bs
    ++ modules_fields (at + (20 + 9 * place_count_at bs)) (earlier ++ module_at bs ∷ []) n (drop (20 + 9 * place_count_at bs) bs)

-- of the number of modules, and of the modules behind it
abbrev pub table_fields : ℕ → List ℕ → List FieldAt
table_fields at bs = field at bs 0 2 (is_module_count (big_number 2 bs)) ∷ modules_fields (at + 2) [] (big_number 2 bs) (drop 2 bs)

abbrev pub is_magic : List ℕ → Bool
is_magic bs = bytes_eq bs (magic First) || bytes_eq bs (magic Second)

-- the version of which the bytes have the magic, if they have one
abbrev pub version_of : List ℕ → Version
version_of bs = if bytes_eq (take 8 bs) (magic First) then First else Second

-- where the number of modules stands
abbrev pub table_from : Version → ℕ
table_from First = 8
table_from Second = 20

-- a name filled with blanks, or eight blanks
abbrev pub is_name_field : List ℕ → Bool
is_name_field bs = is_filled bs || bytes_eq bs (name_field None)

-- of name and runs
abbrev pub session_fields : Version → ℕ → List ℕ → List FieldAt
session_fields First at bs = []
session_fields Second at bs =
    field at bs 8 8 (is_name_field (take 8 (drop 8 bs)))
    ∷ field at bs 16 4 (nat_le 1 (big_number 4 (drop 16 bs)))
    ∷ []

-- of what stands before the number of modules
unfoldable pub heading_fields : ℕ → List ℕ → List FieldAt
heading_fields at bs = field at bs 0 8 (is_magic (take 8 bs)) ∷ session_fields (version_of bs) at bs

-- the fields of the file that the bytes begin with, where the first of them has this offset
abbrev pub file_fields : ℕ → List ℕ → List FieldAt
file_fields at bs = heading_fields at bs ++ table_fields (at + table_from (version_of bs)) (drop (table_from (version_of bs)) bs)

-- Whether two files have the same table, and the union of their sets.

-- a row's number, and what it is in each table; none where the table has no such row
pub record Difference : Type 0 where
  pub row : ℕ
  pub left : Option (List ℕ)
  pub right : Option (List ℕ)

-- the first row in which two tables differ, where these are their rows from this number on
abbrev pub first_difference : ℕ → List (List ℕ) → List (List ℕ) → Option Difference
first_difference n [] [] = None
first_difference n (x ∷ xs) [] = Some (record { row = n; left = Some x; right = None })
first_difference n [] (y ∷ ys) = Some (record { row = n; left = None; right = Some y })
first_difference n (x ∷ xs) (y ∷ ys) =
    if bytes_eq x y then first_difference (n + 1) xs ys else Some (record { row = n; left = Some x; right = Some y })

-- the facts of either file at the place
abbrev pub unite_place : MarkedPlace → MarkedPlace → MarkedPlace
unite_place p q = record p { set = union p.set q.set }

-- place by place
abbrev pub unite_places : List MarkedPlace → List MarkedPlace → List MarkedPlace
unite_places [] qs = []
unite_places (p ∷ ps) [] = p ∷ ps
unite_places (p ∷ ps) (q ∷ qs) = unite_place p q ∷ unite_places ps qs

abbrev pub unite_module : MarkedView → MarkedView → MarkedView
unite_module m n = record m { places = unite_places m.places n.places }

-- module by module
abbrev pub unite : List MarkedView → List MarkedView → List MarkedView
unite [] ns = []
unite (m ∷ ms) [] = m ∷ ms
unite (m ∷ ms) (n ∷ ns) = unite_module m n ∷ unite ms ns

-- Marks files one after another, and their union.

-- a file in one of the two versions
pub record File : Type 0 where
  pub version : Version
  pub marks : MarksView

-- it keeps the rules, and its version tells all of its marks
pub record IsFile (f : File) : Type 0 where
  pub rules : keeps_rules f.marks ≡ true
  pub tells : Tells f.version f.marks

abbrev pub file_text : File → List ℕ
file_text f = file_bytes f.version f.marks

-- its table and its sets
abbrev pub modules_of : File → List MarkedView
modules_of f = f.marks.modules

-- the bytes of these files, in succession
abbrev pub spelling : List File → List ℕ
spelling files = flat_map file_text files

-- files that keep the rules, all of the first one's table
pub record AreOfOneTable (first : File) (others : List File) : Type 0 where
  pub first_is : IsFile first
  pub are : All IsFile others
  pub same : All (λ f. rows (modules_of first) ≡ rows (modules_of f)) others

-- a sum of runs, held at the most that a file tells
abbrev pub held : ℕ → ℕ
held n = min n most_runs

-- Of several files: each set is the union of their sets, the name is the first file's, and the runs are the sum.
abbrev pub united : File → List File → MarksView
united first others = record {
  name = first.marks.name;
  runs = held (sum_by (λ f. f.marks.runs) (first ∷ others));
  modules = fold unite (modules_of first) (map modules_of others);
}

-- the bytes are files of one table, and this is their union
pub record IsCombined (bytes : List ℕ) (m : MarksView) : Type 0 where
  pub first : File
  pub others : List File
  pub table : AreOfOneTable first others
  pub spelled : bytes ≡ spelling (first ∷ others)
  pub is : m ≡ united first others

-- files of one table are followed by bytes that no file begins
pub record IsBadLater (bytes : List ℕ) (offset : ℕ) : Type 0 where
  pub first : File
  pub others : List File
  pub rest : List ℕ
  pub table : AreOfOneTable first others
  pub spelled : bytes ≡ spelling (first ∷ others) ++ rest
  pub some : rest ≢ []
  pub bad : first_bad (file_fields (length (spelling (first ∷ others))) rest) ≡ Some offset

-- files of one table are followed by a file of another
pub record IsOtherTable (bytes : List ℕ) (d : Difference) : Type 0 where
  pub first : File
  pub others : List File
  pub next : File
  pub rest : List ℕ
  pub table : AreOfOneTable first others
  pub next_is : IsFile next
  pub spelled : bytes ≡ spelling (first ∷ others) ++ (file_text next ++ rest)
  pub differs : first_difference 0 (rows (modules_of first)) (rows (modules_of next)) ≡ Some d

-- no file begins the bytes that are left, and this is the offset of their first bad field
abbrev pub IsBad : List ℕ → ℕ → Type 0
IsBad bytes offset = (first_bad (file_fields 0 bytes) ≡ Some offset) ⊎ IsBadLater bytes offset
