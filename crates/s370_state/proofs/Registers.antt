-- The general registers among the words of a processor.
use Rattle.std.proofs.Common.{◌≡◌, ℕ, ◌<◌, List, [], ◌∷◌, ◌++◌, length, take, slice_index, ap, sym, ◌∙◌}
use Rattle.std.proofs.Math.Seq.{take-append_seam}
use Rattle.std.proofs.lemmas.List.{get_or-take}

-- a register is the word of its number
pub register_word : (words : List ℕ) (r : ℕ) → r < 16 → slice_index (take 16 words) r ≡ slice_index words r
register_word words r p = get_or-take 16 words r 0 p

-- the registers that a word stands behind
pub registers_first : (regs : List ℕ) (word : ℕ) → length regs ≡ 16 → take 16 (regs ++ word ∷ []) ≡ regs
registers_first regs word p = ap (λ n. take n (regs ++ word ∷ [])) (sym p) ∙ take-append_seam regs (word ∷ [])
