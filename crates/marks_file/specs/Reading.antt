-- The marks that bytes say, and what reading them tells.
use Rattle.std.specs.Prelude.{◌≡◌, ℕ, zero, suc, ◌+◌, ◌*◌, Bool, true, ◌&&◌, nat_le, if◌then◌else◌, Option, Some, None, List, [], ◌∷◌, length, take, drop}
use Rattle.std.specs.Io.{StartsWith}
use Rattle.byteorder.specs.Endian.{big_number}
use Rattle.cov_base.specs.Meaning.{is_filled}
use Rattle.marks_file.specs.Meaning.{MarkedView, MarksView, keeps_rules, file_bytes, HasFile, FieldAt, first_bad, place_count_at, module_at, version_of, table_from, is_name_field}
use Rattle.marks_file.specs.declared.fault.MarksFault.{MarksFault}
use Rattle.marks_file.specs.declared.fault.MarksFault.TheVariants.{BadMarks, NoMemory}
use Rattle.marks_file.specs.declared.version.Version.{Version}
use Rattle.marks_file.specs.declared.version.Version.TheVariants.{First, Second}

abbrev pub modules_at : ℕ → List ℕ → List MarkedView
modules_at zero bs = []
modules_at (suc n) bs = module_at bs ∷ modules_at n (drop (20 + 9 * place_count_at bs) bs)

abbrev pub table_at : List ℕ → List MarkedView
table_at bs = modules_at (big_number 2 bs) (drop 2 bs)

-- the name that the field is, none where it is blank
abbrev pub named : List ℕ → Option (List ℕ)
named bs = if is_filled bs then Some bs else None

abbrev pub name_at : Version → List ℕ → Option (List ℕ)
name_at First bs = None
name_at Second bs = named (take 8 (drop 8 bs))

abbrev pub runs_at : Version → List ℕ → ℕ
runs_at First bs = 1
runs_at Second bs = big_number 4 (drop 16 bs)

abbrev pub marks_of : Version → List ℕ → MarksView
marks_of v bs = record { name = name_at v bs; runs = runs_at v bs; modules = table_at (drop (table_from v) bs) }

-- whether the name's field is whole and keeps its rule, and the runs' one
abbrev pub has_name : List ℕ → Bool
has_name bs = nat_le 16 (length bs) && is_name_field (take 8 (drop 8 bs))

abbrev pub has_runs : List ℕ → Bool
has_runs bs = nat_le 20 (length bs) && nat_le 1 (big_number 4 (drop 16 bs))

unfoldable pub marks_at : List ℕ → MarksView
marks_at bs = marks_of (version_of bs) bs

-- a fault of these fields: the first bad one, or want of memory
abbrev pub IsFault : List FieldAt → MarksFault → Type 0
IsFault fields (BadMarks offset) = first_bad fields ≡ Some offset
IsFault fields NoMemory = Unit {0}

-- of marks that keep the rules, where the bytes, of which the first has this offset, begin with a file of them, and of its end
abbrev pub IfHasFile : ℕ → List ℕ → (MarksView → ℕ → Type 0) → Type 0
IfHasFile at bs P = (m : MarksView) (end : ℕ) → keeps_rules m ≡ true → HasFile at bs m end → P m end

-- of two marks that keep the rules, where the file of the ones in that version begins with the file of the others in this
abbrev pub IfBeginsWith : Version → Version → (MarksView → MarksView → Type 0) → Type 0
IfBeginsWith v w P =
    (m n : MarksView) → keeps_rules m ≡ true → keeps_rules n ≡ true → StartsWith (file_bytes v m) (file_bytes w n) → P m n
