use Rattle.std.proofs.Common.{◌≡◌, ◌+◌, ◌*◌, ◌≤◌, ◌++◌, drop}
use Rattle.job_gen.specs.Meaning.{statement_lines, made_listing}
use Rattle.job_gen.proofs.listing.listing_of.Given as goal

abbrev pub invariant-loop-i : goal.invariant-loop-i
invariant-loop-i l = record {
  lines : l.lines ++ statement_lines l.at (l.i + 1) (drop l.i l.code) ≡ made_listing l.code;
  at : l.at ≤ 4 * l.i;
}
