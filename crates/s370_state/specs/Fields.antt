-- An operand's bytes as one list, and copies of them.
use Rattle.std.specs.Prelude.{◌≡◌, ℕ, zero, suc, ◌+◌, ◌*◌, ◌<◌, List, length, slice_index, slice_set}
use Rattle.cov_base.specs.Meaning.{Memory, byte_at, wrap}
use Rattle.s370_state.specs.Meaning.{store_number}

-- s is the n bytes from a on, in order
pub record AreBytes (m : Memory) (bytes : List ℕ) (a n : ℕ) (s : List ℕ) : Type 0 where
  pub size : length s ≡ n
  pub each : (i : ℕ) → i < n → slice_index s i ≡ byte_at m bytes (wrap (a + i))

-- the bytes after n bytes from b on were copied to those from a on, one at a time, left to right
unfoldable pub copied : Memory → List ℕ → ℕ → ℕ → ℕ → List ℕ
copied m bytes a b zero = bytes
copied m bytes a b (suc n) = let done = copied m bytes a b n in slice_set done (wrap (a + n)) (byte_at m done (wrap (b + n)))

-- the bytes after the first n of these words were stored from a on
unfoldable pub words_stored : List ℕ → ℕ → List ℕ → ℕ → List ℕ
words_stored bytes a ws zero = bytes
words_stored bytes a ws (suc n) = store_number (words_stored bytes a ws n) (a + 4 * n) 4 (slice_index ws n)
