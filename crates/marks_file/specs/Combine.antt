-- Tables of the same rows, and the first row in which tables differ.
use Rattle.std.specs.Prelude.{◌≡◌, ℕ, option_map, Option, Some, None, List, [], ◌∷◌, ◌++◌}
use Rattle.marks_file.specs.Meaning.{MarkedView, place_row, module_row, Difference, first_difference}
use Rattle.marks_file.specs.declared.marks.MarkedPlace.{MarkedPlace}
use Rattle.marks_file.specs.declared.difference.OtherTable.{OtherTable}

-- the same rows, place by place and module by module
abbrev pub SamePlaces : List MarkedPlace → List MarkedPlace → Type 0
SamePlaces [] [] = Unit {0}
SamePlaces (p ∷ ps) (q ∷ qs) = (place_row p ≡ place_row q) × SamePlaces ps qs
SamePlaces ps qs = ⊥

abbrev pub SameTables : List MarkedView → List MarkedView → Type 0
SameTables [] [] = Unit {0}
SameTables (m ∷ ms) (n ∷ ns) = ((module_row m ≡ module_row n) × SamePlaces m.places n.places) × SameTables ms ns
SameTables ms ns = ⊥

-- the row of the first of these modules
abbrev pub first_row : List MarkedView → Option (List ℕ)
first_row [] = None
first_row (m ∷ ms) = Some (module_row m)

-- what an answer says
abbrev pub difference_of : OtherTable → Difference
difference_of e = record { row = e.row; left = option_map (λ v. v.items) e.left; right = option_map (λ v. v.items) e.right }

-- it says the first row in which two tables differ, where these are their rows from this number on
abbrev pub IsDifference : ℕ → List (List ℕ) → List (List ℕ) → OtherTable → Type 0
IsDifference n xs ys e = first_difference n xs ys ≡ Some (difference_of e)

-- and does so whatever rows stand behind these
abbrev pub IsDifferenceWithin : ℕ → List (List ℕ) → List (List ℕ) → OtherTable → Type 0
IsDifferenceWithin n left right e = (xs ys : List (List ℕ)) → IsDifference n (left ++ xs) (right ++ ys) e
