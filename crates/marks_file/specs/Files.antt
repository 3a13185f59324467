-- Why files are not combined, that they have one answer, and what their union depends on.
use Rattle.std.specs.Prelude.{◌≡◌, ℕ, Option, None, List, [], ◌∷◌, map, All}
use Rattle.std.specs.List.{Contains, sum_by}
use Rattle.marks_file.specs.Meaning.{MarkedView, MarksView, Difference, File, IsFile, modules_of, spelling, held, IsCombined, IsOtherTable, IsBad}
use Rattle.marks_file.specs.Combine.{difference_of}
use Rattle.marks_file.specs.declared.files.CombineFault.{CombineFault}
use Rattle.marks_file.specs.declared.files.CombineFault.TheVariants.{BadMarks, NoMemory, Other}

-- why files are not combined
abbrev pub IsCombineFault : List ℕ → CombineFault → Type 0
IsCombineFault bytes (BadMarks offset) = IsBad bytes offset
IsCombineFault bytes (Other e) = IsOtherTable bytes (difference_of e)
IsCombineFault bytes NoMemory = Unit {0}

-- the bytes have one answer alone
pub record HasOneAnswer (bytes : List ℕ) : Type 0 where
  pub combined : (m n : MarksView) → IsCombined bytes m → IsCombined bytes n → m ≡ n
  pub bad : (o p : ℕ) → IsBad bytes o → IsBad bytes p → o ≡ p
  pub other : (d e : Difference) → IsOtherTable bytes d → IsOtherTable bytes e → d ≡ e
  pub combined_or_bad : (m : MarksView) (o : ℕ) → IsCombined bytes m → IsBad bytes o → ⊥
  pub combined_or_other : (m : MarksView) (d : Difference) → IsCombined bytes m → IsOtherTable bytes d → ⊥
  pub bad_or_other : (o : ℕ) (d : Difference) → IsBad bytes o → IsOtherTable bytes d → ⊥

-- the bytes are these files
pub record AreFilesOf (bytes : List ℕ) (files : List File) : Type 0 where
  pub are : All IsFile files
  pub spelled : bytes ≡ spelling files

-- the same tables and sets, in whichever order and however often each, of whatever names, runs and versions
pub record HaveSameSets (files others : List File) : Type 0 where
  pub there : (ms : List MarkedView) → Contains (map modules_of files) ms → Contains (map modules_of others) ms
  pub back : (ms : List MarkedView) → Contains (map modules_of others) ms → Contains (map modules_of files) ms

abbrev pub first_name : List File → Option (List ℕ)
first_name [] = None
first_name (f ∷ fs) = f.marks.name

-- The union of the files of these bytes has the sets that the same files have anyhow: of others with the same tables and
-- sets the name is that of the first of them, and the runs are their sum.
abbrev pub IsUnionAnyhow : List ℕ → MarksView → Type 0
IsUnionAnyhow bytes m = (files others : List File) → AreFilesOf bytes files → All IsFile others → HaveSameSets files others
    → IsCombined (spelling others)
    (record { name = first_name others; runs = held (sum_by (λ f. f.marks.runs) others); modules = m.modules })
