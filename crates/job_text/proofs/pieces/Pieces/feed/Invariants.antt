use Rattle.std.proofs.Common.{◌≡◌, ◌≤◌, ◌-◌, ◌++◌, ℕ, List, length, take, false}
use Rattle.job_text.specs.Steps.{is_done}
use Rattle.job_text.specs.Taken.{HasTaken}
use Rattle.job_text.proofs.pieces.Pieces.feed.Given as goal

abbrev pub invariant-loop-size : goal.invariant-loop-size
invariant-loop-size l = record {
  inside : l.used ≤ length l.piece;
  taken : (before : List ℕ) → HasTaken before l.fn.self → HasTaken (before ++ take l.used l.piece) l.self;
  grammar : l.self.taken.grammar ≡ l.fn.self.taken.grammar;
  reading : is_done l.self.taken.reader.part ≡ false;
}

abbrev pub decreases-loop-size : goal.decreases-loop-size
decreases-loop-size l = length l.piece - l.used
