use Rattle.std.proofs.Common.{◌-◌, ◌≡◌, ◌≤◌, ◌++◌, length, drop}
use Rattle.annotator.specs.Meaning.{hex_digits}
use Rattle.annotator.proofs.text.add_hex.Given as goal

abbrev pub invariant-loop-at : goal.invariant-loop-at
invariant-loop-at l = record {
  above : l.first ≤ l.at;
  within : l.at ≤ 8;
  size : length l.out ≡ 8;
  digits : hex_digits (l.at - l.first) l.rest ++ drop l.at l.out ≡ hex_digits (8 - l.first) l.value;
}

abbrev pub decreases-loop-at : goal.decreases-loop-at
decreases-loop-at l = l.at - l.first
