-- Private storage row by row.
use Rattle.std.specs.Prelude.{ℕ, ◌+◌, ◌*◌, List, length, slice_range, min}

-- row n of private storage: 16 bytes, or in the last row fewer
abbrev pub storage_row : List ℕ → ℕ → List ℕ
storage_row bytes n = slice_range bytes (16 * n) (min (16 * n + 16) (length bytes))
