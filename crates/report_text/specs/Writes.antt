-- Lines that were written to a sink, whole or in part.
use Rattle.std.specs.Prelude.{ℕ, Option, List, Result}
use Rattle.cov_outside.specs.Writes.{Writes}
use Rattle.cov_outside.specs.declared.streams.Sink as sink
use Rattle.report_text.specs.Meaning.{text_of}

-- the text of these lines was written
pub record WritesLines {K T E : Type 0} (written : K → Option (List ℕ)) (faults : K → ℕ) (old new : K) (result : Result T E)
    (lines : List (List ℕ)) : Type 0 where
  pub as_text : Writes written faults old new result (text_of lines)

-- the same, and a text, by what the sink tells of itself
abbrev pub Prints : {K T E : Type 0} → sink.Ghosts K → K → K → Result T E → List (List ℕ) → Type 0
Prints g old new result lines = WritesLines g.written g.faults old new result lines

abbrev pub PrintsText : {K T E : Type 0} → sink.Ghosts K → K → K → Result T E → List ℕ → Type 0
PrintsText g old new result text = Writes g.written g.faults old new result text
