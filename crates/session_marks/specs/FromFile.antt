-- The sets that a marks file has for a session, and why a file is none of the session's: by its modules alone, whatever
-- name and runs it has.
use Rattle.std.specs.Prelude.{◌≡◌, ◌⊎◌, ℕ, ◌+◌, ◌<◌, ◌≤◌, true, None, List, length, get_or, All}
use Rattle.cov_base.specs.Meaning.{FactSet, no_facts}
use Rattle.marks_file.specs.Meaning.{MarkedView, are_marks, rows, first_difference}
use Rattle.marks_file.specs.declared.marks.MarkedPlace.{MarkedPlace}
use Rattle.marks_file.specs.Combine.{IsDifference}
use Rattle.brk_table.specs.Meaning.{TableView, TablesView, first_place, place_count}
use Rattle.session_book.specs.Meaning.{JobView, session_of}
use Rattle.session_marks.specs.Meaning.{session_marks, session_rows}
use Rattle.session_marks.specs.declared.from_file.SetsFault.{SetsFault}
use Rattle.session_marks.specs.declared.from_file.SetsFault.TheVariants.{Other, NoMemory}

-- a session, and the set of the place of each number
pub record FileSetsView : Type 0 where
  pub session : ℕ
  pub sets : List FactSet

abbrev pub set_at : List FactSet → ℕ → FactSet
set_at sets n = get_or sets n no_facts

-- there are sets of this one session alone
abbrev pub sets_of_one : FileSetsView → ℕ → ℕ → FactSet
sets_of_one f s n = set_at f.sets n

-- from number n on the sets of these places
abbrev pub HasSetsAt : (ℕ → FactSet) → ℕ → List MarkedPlace → Type 0
HasSetsAt sets n places = (k : ℕ) (d : MarkedPlace) → k < length places → sets (n + k) ≡ (get_or places k d).set

-- the sets of the first so many of a file's modules, which are these
abbrev pub HaveSetsAt : List TableView → (ℕ → FactSet) → ℕ → List ℕ → List MarkedView → Type 0
HaveSetsAt tables sets count modules file =
    (i m : ℕ) (d : MarkedView) → i < count → HasSetsAt sets (first_place tables (get_or modules i m)) (get_or file i d).places

-- the sets of all of them
abbrev pub HaveSets : List TableView → (ℕ → FactSet) → List ℕ → List MarkedView → Type 0
HaveSets tables sets modules file = HaveSetsAt tables sets (length modules) modules file

-- each of them has as many places as its table
abbrev pub HaveCounts : List TableView → List ℕ → List MarkedView → Type 0
HaveCounts tables modules file =
    (i m : ℕ) (d : MarkedView) → i < length modules → length (get_or file i d).places ≡ place_count tables (get_or modules i m)

-- the number is of no place of module m
abbrev pub IsOutside : List TableView → ℕ → ℕ → Type 0
IsOutside tables m n = (n < first_place tables m) ⊎ (first_place tables m + place_count tables m ≤ n)

-- where none of these modules has a place the set is empty
abbrev pub AreEmptyElsewhere : List TableView → (ℕ → FactSet) → List ℕ → Type 0
AreEmptyElsewhere tables sets modules = (n : ℕ) → All (λ m. IsOutside tables m n) modules → sets n ≡ no_facts

-- where no module of session s has one
abbrev pub AreOfSession : JobView → TablesView → ℕ → List FactSet → Type 0
AreOfSession j tables s sets = AreEmptyElsewhere tables.tables (set_at sets) (session_of j s).modules

-- why a file is none of the session's: the first row in which its table, on the right, differs from the session's
abbrev pub IsSetsFault : JobView → TablesView → ℕ → List MarkedView → SetsFault → Type 0
IsSetsFault j tables s file (Other e) = IsDifference 0 (session_rows j tables s) (rows file) e
IsSetsFault j tables s file NoMemory = Unit {0}

-- the sets with which a file is the session's marks
pub record IsOwn (j : JobView) (tables : TablesView) (s : ℕ) (file : List MarkedView) : Type 0 where
  pub sets : ℕ → FactSet
  pub is : file ≡ session_marks j tables sets s

-- at each place of module m the same set
abbrev pub AreSameAt : TablesView → (ℕ → FactSet) → (ℕ → FactSet) → ℕ → Type 0
AreSameAt tables sets others m =
    (n : ℕ) → first_place tables.tables m ≤ n → n < first_place tables.tables m + place_count tables.tables m → sets n ≡ others n

-- Of a file that keeps the rules of marks files, as the session's table does: it is the session's marks with some sets
-- exactly where no row differs, and its sets at the session's places are then the only ones.
pub record IsDecided (j : JobView) (tables : TablesView) (s : ℕ) (file : List MarkedView) : Type 0 where
  pub own : IsOwn j tables s file → first_difference 0 (session_rows j tables s) (rows file) ≡ None
  pub found : are_marks (session_marks j tables (λ n. no_facts) s) ≡ true → are_marks file ≡ true
      → first_difference 0 (session_rows j tables s) (rows file) ≡ None → IsOwn j tables s file
  pub one : (sets others : ℕ → FactSet) → file ≡ session_marks j tables sets s → file ≡ session_marks j tables others s
      → All (AreSameAt tables sets others) (session_of j s).modules
