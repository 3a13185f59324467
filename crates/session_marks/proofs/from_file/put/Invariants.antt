use Rattle.std.proofs.Common.{◌≡◌, ◌⊎◌, ℕ, ◌+◌, ◌<◌, ◌≤◌, get_or}
use Rattle.cov_base.specs.Meaning.{no_facts}
use Rattle.marks_file.specs.declared.marks.MarkedPlace.{MarkedPlace}
use Rattle.session_marks.proofs.from_file.put.Given as goal

abbrev pub invariant-loop-k : goal.invariant-loop-k
invariant-loop-k l = record {
  there : (k : ℕ) (d : MarkedPlace) → k < l.k → get_or l.sets (l.first + k) no_facts ≡ (get_or l.places k d).set;
  others : (n : ℕ) → (n < l.first) ⊎ (l.first + l.k ≤ n) → get_or l.sets n no_facts ≡ get_or l.initial.sets n no_facts;
}
