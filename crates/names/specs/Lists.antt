-- Names in a list, filled with blanks.
use Rattle.std.specs.Prelude.{ℕ, Bool, if◌then◌else◌, Option, List, [], ◌∷◌, ◌++◌, position}
use Rattle.std.specs.List.{list_any}
use Rattle.std.specs.Str.{bytes_eq}

-- the index of the first that is this name
abbrev pub index_of : List (List ℕ) → List ℕ → Option ℕ
index_of names name = position (λ n. bytes_eq n name) names

abbrev pub has : List (List ℕ) → List ℕ → Bool
has names name = list_any (λ n. bytes_eq n name) names

-- with this name behind them, where they lack it
abbrev pub added : List (List ℕ) → List ℕ → List (List ℕ)
added names name = if has names name then names else names ++ name ∷ []
