use Rattle.std.proofs.Common.{◌≡◌, ◌+◌, drop, length}
use Rattle.std.specs.List.{AllPass}
use Rattle.listing_reader.specs.Meaning.{lines_behind}
use Rattle.listing_reader.specs.Listing.{is_sound}
use Rattle.listing_reader.proofs.FaultLemmas.{bad_number}
use Rattle.listing_reader.proofs.reader.read_later.Given as goal

abbrev pub invariant-loop-i : goal.invariant-loop-i
invariant-loop-i l = record {
  length : length l.read + l.from ≡ length l.initial.read + l.i;
  sound : AllPass is_sound l.initial.read → AllPass is_sound l.read;
  read : lines_behind l.read l.columns l.shift (drop l.i l.lines) ≡ lines_behind l.initial.read l.columns l.shift (drop l.from l.lines);
  none : bad_number l.columns l.shift (l.i + 1) (drop l.i l.lines) ≡ bad_number l.columns l.shift (l.from + 1) (drop l.from l.lines);
}
