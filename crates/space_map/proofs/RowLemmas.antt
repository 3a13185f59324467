-- A row of private storage, by its bounds.
use Rattle.std.proofs.Common.{◌≡◌, ◌⊎◌, inl, inr, ℕ, ◌+◌, ◌-◌, ◌*◌, ◌<◌, ◌≤◌, min, List, length, take, drop, slice_range, refl, sym, ◌∙◌, arith}
use Rattle.std.proofs.lemmas.Bool.{cases_lt}
use Rattle.std.proofs.lemmas.List.{length-drop, take_all}
use Rattle.space_map.specs.Space.{row_of}

row_at : (bytes : List ℕ) (from n : ℕ) → from ≤ length bytes → (length bytes < from + 16) ⊎ (from + 16 ≤ length bytes) → n ≡ min (from + 16) (length bytes) - from →
    take 16 (drop from bytes) ≡ take n (drop from bytes)
row_at bytes from n l (inl short) e =
    let size : length (drop from bytes) ≡ length bytes - from = length-drop from bytes in
    take_all 16 (drop from bytes) (omega (arith, size)) ∙ sym (take_all n (drop from bytes) (omega (arith, size)))
row_at bytes from n l (inr whole) e = let same : n ≡ 16 = omega arith in rw same refl

pub row_range : (bytes : List ℕ) (n : ℕ) → 16 * n ≤ length bytes → row_of bytes n ≡ slice_range bytes (16 * n) (min (16 * n + 16) (length bytes))
row_range bytes n l = row_at bytes (16 * n) _ l (cases_lt (length bytes) (16 * n + 16)) refl
