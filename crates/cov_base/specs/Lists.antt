-- Lists of which no two are alike.
use Rattle.std.specs.Prelude.{◌≢◌, List, AllPairs}

abbrev pub Differ : {X : Type 0} → List X → Type 0
Differ xs = AllPairs (λ a b. a ≢ b) xs
