use Rattle.std.proofs.Common.{refl, arith}
use Rattle.listing_reader.proofs.BufferLemmas.{opened, opened_lines}
use Rattle.listing_reader.proofs.buffer.start_of_next.Goals as goal
use Rattle.listing_reader.proofs.buffer.start_of_next.Goals.{then-len-block+in_ok-push, else-len-block}

pub returns-clause-buffer : goal.returns-clause-buffer
returns-clause-buffer c = elim c.if-len-block.branch [
  | then-len-block+in_ok-push w ↦ rw (w.starts-is, w.in_ok-push.ensures.items) (opened _ _ _ c.requires (omega arith))
  | else-len-block w ↦ rw w.starts-is c.requires
]

pub returns-clause-same : goal.returns-clause-same
returns-clause-same c = elim c.if-len-block.branch [
  | then-len-block+in_ok-push w ↦ rw (w.starts-is, w.in_ok-push.ensures.items) (opened_lines _ _ _ c.requires)
  | else-len-block w ↦ rw w.starts-is refl
]
