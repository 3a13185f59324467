-- The numbers that stand for the places of a listing's lines.
use Rattle.std.proofs.Common.{◌≡◌, ℕ, zero, suc, ◌+◌, List, ◌∷◌, map, replicate, set, refl, ap, ◌∙◌, arith}
use Rattle.std.specs.Prelude.{Some, None}
use Rattle.std.proofs.lemmas.List.{map-set}
use Rattle.brk_table.specs.Places.{place_numbered}

pub no_places : (n : ℕ) → map place_numbered (replicate n 0) ≡ replicate n None
no_places zero = refl
no_places (suc n) = ap (λ l. None ∷ l) (no_places n)

one_more : (k : ℕ) → place_numbered (k + 1) ≡ Some k
one_more k = let e : k + 1 ≡ suc k = omega arith in ap place_numbered e

pub place_given : (numbers : List ℕ) (i k : ℕ) → map place_numbered (set numbers i (k + 1)) ≡ set (map place_numbered numbers) i (Some k)
place_given numbers i k = map-set place_numbered numbers i (k + 1) ∙ ap (set (map place_numbered numbers) i) (one_more k)
