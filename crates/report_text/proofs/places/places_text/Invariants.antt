use Rattle.std.proofs.Common.{ℕ, ◌-◌, List, [], ◌∷◌}
use Rattle.module_area.specs.Meaning.{place_of}
use Rattle.report_text.specs.Meaning.{location_of, place_line, lines_from}
use Rattle.report_text.proofs.WriteLemmas.{Progress}
use Rattle.report_text.proofs.places.places_text.Given as goal

abbrev pub invariant-loop-n : goal.invariant-loop-n
invariant-loop-n g l =
    let line : ℕ → List (List ℕ) = λ n. place_line (location_of l.job (place_of l.tables.places n)) (place_of l.tables.places n) ∷ [] in
    Progress g.K.Sink.written g.K.Sink.faults l.initial.sink l.sink (lines_from line l.n (l.past - l.n)) (lines_from line l.first (l.past - l.first))
