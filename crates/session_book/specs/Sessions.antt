-- Jobs without controlled sessions.
use Rattle.std.specs.Prelude.{◌≡◌, true, All}
use Rattle.session_book.specs.Meaning.{JobView, is_whole}

abbrev pub AreWhole : JobView → Type 0
AreWhole j = All (λ s. is_whole s ≡ true) j.sessions
