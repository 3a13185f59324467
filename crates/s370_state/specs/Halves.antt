-- The half bytes of a number, and the number of bytes.
use Rattle.std.specs.Prelude.{ℕ, zero, suc, ◌+◌, ◌*◌, ◌/◌, ◌%◌, ◌<◌, List, [], ◌∷◌, ◌++◌, slice_index}
use Rattle.cov_base.specs.Meaning.{Memory, byte_at, wrap}

-- the k last half bytes, left to right
unfoldable pub halves_of : ℕ → ℕ → List ℕ
halves_of zero x = []
halves_of (suc k) x = halves_of k (x / 16) ++ x % 16 ∷ []

-- the number of n bytes of a row from the jth on
unfoldable pub number_from : List ℕ → ℕ → ℕ → ℕ
number_from row j zero = 0
number_from row j (suc n) = number_from row j n * 256 + slice_index row (j + n)

-- of the n bytes from a on each is below 256
abbrev pub AreSmall : Memory → List ℕ → ℕ → ℕ → Type 0
AreSmall m bytes a n = (i : ℕ) → i < n → byte_at m bytes (wrap (a + i)) < 256
