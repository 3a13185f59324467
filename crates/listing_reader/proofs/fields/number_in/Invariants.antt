use Rattle.std.proofs.Common.{◌≡◌, ◌<◌, ◌^◌, Some}
use Rattle.listing_reader.specs.Meaning.{number_in}
use Rattle.listing_reader.proofs.fields.number_in.Given as goal

abbrev pub invariant-loop-k : goal.invariant-loop-k
invariant-loop-k l = record {
  spelled : number_in l.line l.shift l.from l.k ≡ Some l.number;
  below : l.number < 16 ^ l.k;
}
