-- The session of a name.
use Rattle.std.specs.Prelude.{ℕ, ◌+◌, Option, List, option_map, position}
use Rattle.std.specs.Str.{bytes_eq}
use Rattle.cov_base.specs.declared.numbers.SessNo.{SessNo}
use Rattle.session_book.specs.Meaning.{JobView}

-- sessions number from 1
abbrev pub session_at : ℕ → SessNo
session_at i = record { 0 = i + 1 }

-- the session of this name; the names of a job's sessions differ
abbrev pub session_named : JobView → List ℕ → Option SessNo
session_named j name = option_map session_at (position (λ s. bytes_eq s.name name) j.sessions)
