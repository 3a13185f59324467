-- What the claim of the program says by this crate's clauses.
use Rattle.std.specs.Prelude.{ℕ, ◌+◌, ◌-◌, ◌^◌, ◌≤◌, min, ◌<◌, List, length, take, Option, None, Some}
use Rattle.std.specs.Io.KnownBytes.{Appends, Consumes, IsAtEnd}

-- When a fault may be told.

-- one more on a count of 64 bits, which stays at its end
abbrev pub raised : ℕ → ℕ
raised count = min (count + 1) (2 ^ 64 - 1)

-- the count rose, or stands at its end
abbrev pub Rose : ℕ → ℕ → Type 0
Rose before now = raised before ≤ now

-- A source that is read to its end, and a text that is written whole.

-- these are all the bytes that were left
pub record IsWhole (old new : Option (List ℕ)) (bytes : List ℕ) : Type 0 where
  pub taken : Consumes old new bytes
  pub end : IsAtEnd new

-- more bytes were left than so many, where that is known
abbrev pub HasMoreThan : Option (List ℕ) → ℕ → Type 0
HasMoreThan None n = Unit {0}
HasMoreThan (Some xs) n = n < length xs

-- the first bytes of the text were written
abbrev pub AppendsSome : Option (List ℕ) → Option (List ℕ) → List ℕ → Type 0
AppendsSome old new text = (n : ℕ) × (n ≤ length text) × Appends old new (take n text)
