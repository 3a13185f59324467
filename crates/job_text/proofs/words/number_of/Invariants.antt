use Rattle.std.proofs.Common.{◌≡◌, ◌<◌, ◌^◌, drop}
use Rattle.job_text.specs.Meaning as spell
use Rattle.job_text.proofs.words.number_of.Given as goal

abbrev pub invariant-loop-b : goal.invariant-loop-b
invariant-loop-b l = record { value : spell.decimal_value l.n (drop l.b-index l.word) ≡ spell.decimal_value 0 l.word; bound : l.n < 10 ^ l.b-index }
