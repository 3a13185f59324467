-- Bytes that the task calls move, one at a time.
use Rattle.std.proofs.Common.{◌≡◌, ℕ, ◌+◌, List, [], ◌∷◌, ◌++◌, sym, add-one}
use Rattle.std.proofs.lemmas.List.{append-nil, append_assoc}
use Rattle.cov_base.specs.Meaning.{Memory, byte_at, wrap}
use Rattle.s370_exec.specs.Meaning.{operand}

pub none_put : (out : List ℕ) (m : Memory) (b : List ℕ) (a : ℕ) → out ++ operand m b a 0 ≡ out
unfolding operand
none_put out m b a = append-nil out

-- the output with one byte more
pub one_put : (out : List ℕ) (m : Memory) (b : List ℕ) (a n : ℕ) → out ++ operand m b a (n + 1) ≡ (out ++ operand m b a n) ++ byte_at m b (wrap (a + n)) ∷ []
unfolding operand
one_put out m b a n = rw add-one (sym (append_assoc out (operand m b a n) (byte_at m b (wrap (a + n)) ∷ [])))
