use Rattle.std.proofs.Common.{ℕ, ◌+◌, ◌-◌, List, [], ◌∷◌, length, get_or}
use Rattle.annotator.specs.Meaning.{annotated}
use Rattle.report_text.specs.Meaning.{line_mark, marked_lines, lines_from}
use Rattle.report_text.proofs.WriteLemmas.{Progress}
use Rattle.report_text.proofs.sessions.listing_part.Given as goal

abbrev pub invariant-loop-i : goal.invariant-loop-i
invariant-loop-i g l =
    let sets = g.R.FactSets.set_of l.sets l.s.0 in
    let line : ℕ → List (List ℕ) = λ i. annotated (line_mark l.tables sets l.m (i + 1)) (get_or l.lines i []) ∷ [] in
    Progress g.K.Sink.written g.K.Sink.faults l.initial.sink l.sink (lines_from line l.i (length l.lines - l.i)) (marked_lines l.tables sets l.m l.lines)
