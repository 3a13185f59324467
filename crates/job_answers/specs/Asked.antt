-- What a job has of the sessions that are asked for.
use Rattle.std.specs.Prelude.{◌≡◌, ℕ, ◌<◌, ◌≤◌, length, Some, List}
use Rattle.session_book.specs.Meaning.{JobView}
use Rattle.job_answers.specs.Meaning.{session_number}
use Rattle.job_answers.specs.declared.asked.Asked.{Asked}
use Rattle.job_answers.specs.declared.asked.Asked.TheVariants.{WithSession}

-- the session of the name has this number
pub record IsSessionOf (j : JobView) (name : List ℕ) (s : ℕ) : Type 0 where
  pub number : session_number j name ≡ Some s
  pub from : 0 < s
  pub to : s ≤ length j.sessions

-- so where one is asked for by its name; where none is the number is 0
abbrev pub HasSession : Asked → JobView → ℕ → Type 0
HasSession (WithSession wanted) j s = IsSessionOf j wanted.name s
HasSession asked j s = s ≡ 0
