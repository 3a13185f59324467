-- A list of names by its fields.
use Rattle.std.specs.Prelude.{ℕ, List, [], ◌∷◌}
use Rattle.std.specs.HashSet.{HashSet}
use Rattle.std.specs.declared.hash.BuildHasherDefault.{BuildHasherDefault}
use Rattle.std.specs.declared.hash.FoldHasher.{FoldHasher}
use Rattle.names.specs.declared.list.NameList.TheInside.{Inside}

abbrev pub keys_in : List (HashSet (List ℕ) (BuildHasherDefault FoldHasher)) → List (List ℕ)
keys_in [] = []
keys_in (s ∷ ss) = s.keys

abbrev pub keys_of : Inside → List (List ℕ)
keys_of l = keys_in l.names
