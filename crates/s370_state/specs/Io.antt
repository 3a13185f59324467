-- A task's input and output.
use Rattle.std.specs.Prelude.{ℕ, ◌+◌, [], ◌∷◌, ◌++◌, slice_index}
use Rattle.cov_base.specs.Meaning.{IoView}

abbrev pub next_byte : IoView → ℕ
next_byte io = slice_index io.input io.taken

abbrev pub after_take : IoView → IoView
after_take io = record io { taken = io.taken + 1 }

abbrev pub after_put : IoView → ℕ → IoView
after_put io b = record io { output = io.output ++ b ∷ [] }
