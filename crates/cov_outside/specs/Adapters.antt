-- What an adapter over a reader or a writer of std holds.
use Rattle.std.specs.Prelude.{ℕ, Option, List}
use Rattle.std.specs.Io.Buffered.{writer_contents}
use Rattle.std.specs.declared.io.buffered.BufWriter.{BufWriter}
use Rattle.cov_outside.specs.declared.adapters.StdSource.{StdSource}
use Rattle.cov_outside.specs.declared.adapters.StdSink.{StdSink}

abbrev pub reader_of : {R : Type 0} → StdSource R → R
reader_of s = s.inner

abbrev pub read_faults : {R : Type 0} → StdSource R → ℕ
read_faults s = s.faults

abbrev pub writer_of : {W : Type 0} → StdSink W → W
writer_of s = s.inner

abbrev pub write_faults : {W : Type 0} → StdSink W → ℕ
write_faults s = s.faults

-- what was written by way of a writer that holds bytes back, where the writer behind it tells that: what went on, and what is held
abbrev pub written_by : {W A : Type 0} → (W → Option (List ℕ)) → StdSink (BufWriter W A) → Option (List ℕ)
written_by contents s = writer_contents contents (writer_of s)
