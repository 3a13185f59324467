-- What a source and a sink in memory hold, and what each call makes of it.
use Rattle.std.specs.Prelude.{ℕ, ◌+◌, ◌-◌, ◌^◌, min, Bool, ◌&&◌, ◌||◌, nat_lt, nat_eq, List, [], ◌++◌, length, drop}
use Rattle.std.specs.List.{list_any}
use Rattle.cov_outside.specs.Meaning.{raised}

-- bytes left, most bytes per call, calls that fail, calls made, faults
pub record SourceView : Type 0 where
  pub left : List ℕ
  pub piece : ℕ
  pub fail : List ℕ
  pub calls : ℕ
  pub faults : ℕ

-- bytes written, bytes that there is room for in all, and the rest as in a source
pub record SinkView : Type 0 where
  pub written : List ℕ
  pub room : ℕ
  pub piece : ℕ
  pub fail : List ℕ
  pub calls : ℕ
  pub faults : ℕ

-- bytes left and most bytes per call of a source that never fails
pub record SureView : Type 0 where
  pub left : List ℕ
  pub piece : ℕ

abbrev pub fresh_source : List ℕ → ℕ → List ℕ → SourceView
fresh_source bytes piece fail = record { left = bytes; piece = piece; fail = fail; calls = 0; faults = 0 }

abbrev pub fresh_sink : ℕ → ℕ → List ℕ → SinkView
fresh_sink room piece fail = record { written = []; room = room; piece = piece; fail = fail; calls = 0; faults = 0 }

-- whether the call after so many is listed; none past the 2^64 - 1st is
abbrev pub is_listed : ℕ → List ℕ → Bool
is_listed calls fail = nat_lt calls (2 ^ 64 - 1) && list_any (λ call. nat_eq call (calls + 1)) fail

-- of bytes left, by the most per call and the room of the buffer
abbrev pub given_count : List ℕ → ℕ → ℕ → ℕ
given_count left piece room = min (min room piece) (length left)

abbrev pub after_read : SourceView → ℕ → SourceView
after_read s n = record s { left = drop n s.left; calls = raised s.calls }

abbrev pub after_failed_read : SourceView → SourceView
after_failed_read s = record s { calls = raised s.calls; faults = raised s.faults }

-- the next call fails
abbrev pub is_refusing : SinkView → Bool
is_refusing s = is_listed s.calls s.fail || nat_eq (length s.written) s.room

abbrev pub taken_count : SinkView → ℕ → ℕ
taken_count s offered = min (min offered s.piece) (s.room - length s.written)

abbrev pub after_write : SinkView → List ℕ → SinkView
after_write s bytes = record s { written = s.written ++ bytes; calls = raised s.calls }

abbrev pub after_failed_write : SinkView → SinkView
after_failed_write s = record s { calls = raised s.calls; faults = raised s.faults }

abbrev pub after_sure_read : SureView → ℕ → SureView
after_sure_read s n = record s { left = drop n s.left }
