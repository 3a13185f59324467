-- What has come of an input: a job that is read meanwhile, and the bytes behind it.
use Rattle.std.specs.Prelude.{◌≡◌, ℕ, ◌<◌, true, false, List, [], ◌++◌, length}
use Rattle.session_book.specs.Meaning.{JobView}
use Rattle.job_text.specs.Meaning.{Present, IsWithin, lines_of, Spells}
use Rattle.job_text.specs.declared.grammar.Grammar.{Grammar}
use Rattle.job_text.specs.Lines.{IsClosed}
use Rattle.job_text.specs.Taken.{IsFed, grammar_of, has_ended}
use Rattle.job_input.specs.Meaning.{SourceChange, CameWhole}
use Rattle.job_input.specs.declared.incoming.Incoming.{Incoming}

-- bytes that an LF ends, and they spell a job of this grammar
pub record SpellJob (g : Grammar) (bytes : List ℕ) : Type 0 where
  pub closed : IsClosed bytes
  pub job : JobView
  pub spells : Spells g Present (lines_of bytes) job
  pub within : IsWithin job

-- these bytes came: the reader was fed those up to the job's end, and of the others it is known whether there are any
pub record HasCome (bytes : List ℕ) (i : Incoming) : Type 0 where
  pub fed : List ℕ
  pub behind : List ℕ
  pub whole : bytes ≡ fed ++ behind
  pub is_fed : IsFed fed i.reader
  pub grammar : grammar_of i.reader ≡ i.form.grammar
  pub reading : has_ended i.reader ≡ false → behind ≡ []
  pub ended : has_ended i.reader ≡ true → SpellJob i.form.grammar fed
  pub over : i.over ≡ true → 0 < length behind
  pub none : i.over ≡ false → behind ≡ []
  pub kept : i.form.more ≡ true → i.rest.items ≡ behind

-- all of a source has come
pub record HasAll (s : SourceChange) (i : Incoming) : Type 0 where
  pub bytes : List ℕ
  pub came : CameWhole s bytes
  pub come : HasCome bytes i
