use Rattle.std.proofs.Common.{◌≡◌, ℕ, ◌<◌, length, get_or}
use Rattle.cov_base.specs.Meaning.{no_facts}
use Rattle.session_marks.specs.FromFile.{set_at, HaveSetsAt, IsOutside}
use Rattle.session_marks.proofs.from_file.sets_of.Given as goal

abbrev pub invariant-loop-i : goal.invariant-loop-i
invariant-loop-i l = record {
  size : length l.sets.items ≡ length l.tables.places;
  have : HaveSetsAt l.tables.tables (set_at l.sets.items) l.i l.modules l.file;
  elsewhere : (n : ℕ) → ((k m : ℕ) → k < l.i → IsOutside l.tables.tables (get_or l.modules k m) n) → set_at l.sets.items n ≡ no_facts;
}
