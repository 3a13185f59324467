-- Words that are served to a sink over a writer that holds bytes back.
use Rattle.std.specs.Prelude.{◌≡◌, ◌≢◌, ℕ, List, [], String}
use Rattle.std.specs.Io.Buffered.{writer_buffer}
use Rattle.std.specs.declared.io.buffered.BufWriter.{BufWriter}
use Rattle.std.specs.declared.io.traits.Write as write
use Rattle.cov_outside.specs.Adapters.{writer_of, write_faults, written_by}
use Rattle.cov_outside.specs.declared.adapters.StdSink.{StdSink}
use Rattle.cov_outside.specs.declared.streams.Sink as sink
use Rattle.cov_outside.specs.declared.streams.Source as source
use Rattle.module_area.specs.declared.areas.Areas as areas
use Rattle.coverage_commands.specs.Meaning.{Serves}

-- a sink over this writer: written is what the writer has handed on, and what it holds
abbrev pub over : {W B : Type 0} → write.Ghosts W → sink.Ghosts (StdSink (BufWriter W B))
over w = record { written = written_by w.contents; faults = write_faults }

-- what `cover` promises; and where the status isn't 6, the writer holds nothing any more
abbrev pub Hands : {S A C P W B D : Type 0} → source.Ghosts S → areas.Ghosts A C P → write.Ghosts W → List (String D) → S → S → A
    → A → StdSink (BufWriter W B) → StdSink (BufWriter W B) → ℕ → Type 0
Hands s a w words source0 source1 areas0 areas1 sink0 sink1 answer =
    Serves s a (over w) words source0 source1 areas0 areas1 sink0 sink1 answer
    × (answer ≢ 6 → writer_buffer (writer_of sink1) ≡ [])
