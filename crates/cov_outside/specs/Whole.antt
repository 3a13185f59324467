-- A source that is read in part.
use Rattle.std.specs.Prelude.{ℕ, ◌≤◌, List, length, Option, None, Some}
use Rattle.std.specs.Io.KnownBytes.{Consumes}

-- no more bytes were left than so many, where that is known
abbrev pub HasAtMost : Option (List ℕ) → ℕ → Type 0
HasAtMost None n = Unit {0}
HasAtMost (Some xs) n = length xs ≤ n

-- the first bytes of those left were read
abbrev pub ConsumesSome : Option (List ℕ) → Option (List ℕ) → Type 0
ConsumesSome old new = (bytes : List ℕ) × Consumes old new bytes
