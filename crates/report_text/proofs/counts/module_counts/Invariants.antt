use Rattle.std.proofs.Common.{ℕ, ◌-◌, List, [], ◌∷◌}
use Rattle.module_area.specs.Meaning.{place_of}
use Rattle.report_text.specs.Meaning.{count_line, location_of, lines_from}
use Rattle.report_text.proofs.WriteLemmas.{Progress}
use Rattle.report_text.proofs.counts.module_counts.Given as goal

abbrev pub invariant-loop-n : goal.invariant-loop-n
invariant-loop-n g l =
    let counts = g.R.FactCounts.count_of l.counts l.s.0 in
    let line : ℕ → List (List ℕ) = λ n. count_line (location_of l.job (place_of l.tables.places n)) (place_of l.tables.places n).kind (counts n) ∷ [] in
    Progress g.K.Sink.written g.K.Sink.faults l.initial.sink l.sink (lines_from line l.n (l.past - l.n)) (lines_from line l.first (l.past - l.first))
