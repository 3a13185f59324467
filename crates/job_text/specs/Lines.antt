-- How many bytes a line takes, and which lines have come with their LFs.
use Rattle.std.specs.Prelude.{◌≡◌, ℕ, ◌+◌, if◌then◌else◌, List, [], ◌∷◌, length}
use Rattle.job_text.specs.Meaning.{LineView, lines_of}

-- how many bytes a line takes, with its LF
abbrev pub span : LineView → ℕ
span l = if l.ended then length l.bytes + 1 else length l.bytes

-- the lines whose LF has come: all but a last one that lacks it
abbrev pub ended_lines : List LineView → List LineView
ended_lines [] = []
ended_lines (l ∷ ls) = if l.ended then l ∷ ended_lines ls else []

-- no bytes, or bytes that an LF ends
abbrev pub IsClosed : List ℕ → Type 0
IsClosed bytes = ended_lines (lines_of bytes) ≡ lines_of bytes
