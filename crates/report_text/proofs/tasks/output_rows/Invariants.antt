use Rattle.std.proofs.Common.{ℕ, ◌-◌, List, [], ◌∷◌}
use Rattle.report_text.specs.Meaning.{hex_bytes, lines_from, hexadecimal_row, row_count}
use Rattle.report_text.proofs.WriteLemmas.{Progress}
use Rattle.report_text.proofs.tasks.output_rows.Given as goal

abbrev pub invariant-loop-n : goal.invariant-loop-n
invariant-loop-n g l =
    let row : ℕ → List (List ℕ) = λ n. hex_bytes (hexadecimal_row 32 l.output n) ∷ [] in
    Progress g.K.Sink.written g.K.Sink.faults l.initial.sink l.sink (lines_from row l.n (row_count 32 l.output - l.n)) (lines_from row 0 (row_count 32 l.output))
