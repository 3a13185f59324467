use Rattle.std.proofs.Common.{refl}
use Rattle.job_gen.specs.Meaning.{object_text, groups}
use Rattle.job_gen.proofs.listing.object_text.Goals as goal
use Rattle.job_gen.proofs.listing.object_text.Goals.{in-Some, in_default}

pub returns-clause-items : goal.returns-clause-items
unfolding object_text groups
returns-clause-items c = elim c.match-instruction.branch [
  | in-Some w ↦ rw (c.fill.ensures.items, w.text-is, w.add_hex-in-Some.ensures.items, w.add_text.ensures.items, c.add_hex.ensures.items, c.new-text.ensures, c.from.ensures, w.from-in-Some.ensures, w.in-Some.is) refl
  | in_default w ↦ rw (c.fill.ensures.items, w.text-is, c.add_hex.ensures.items, c.new-text.ensures, c.from.ensures, w.in_default.is) refl
]
