-- What a function that tells its text answers.
use Rattle.std.specs.Prelude.{◌≡◌, ℕ, List}
use Rattle.cov_outside.specs.declared.streams.Sink as sink
use Rattle.refusals.specs.Meaning.{no_memory_line, IsWritten, SinkChange, sink_change}

-- a status and a text of which this is so were told, or want of memory
pub data IsTold (is : ℕ → List ℕ → Type 0) (k : SinkChange) (answer : ℕ) : Type 0 where
  Told : (status : ℕ) (text : List ℕ) → is status text → IsWritten status text k answer → IsTold is k answer
  Wanting : IsWritten 7 no_memory_line k answer → IsTold is k answer

abbrev pub Tells : {K : Type 0} → sink.Ghosts K → (ℕ → List ℕ → Type 0) → K → K → ℕ → Type 0
Tells k is sink0 sink1 answer = IsTold is (sink_change k.written k.faults sink0 sink1) answer

-- this text, whole
abbrev pub IsText : List ℕ → ℕ → List ℕ → Type 0
IsText all status text = (status ≡ 0) × (text ≡ all)
