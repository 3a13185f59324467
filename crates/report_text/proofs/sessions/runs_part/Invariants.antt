use Rattle.std.proofs.Common.{◌-◌, ◌<◌, IfSome, false}
use Rattle.report_text.specs.Meaning.{run_lines}
use Rattle.report_text.proofs.RunLemmas.{runs_left}
use Rattle.report_text.proofs.WriteLemmas.{Progress}
use Rattle.report_text.proofs.sessions.runs_part.Given as goal

abbrev pub invariant-loop-n : goal.invariant-loop-n
invariant-loop-n g l =
    let sets = g.R.FactSets.set_of l.sets l.s.0 in
    record {
      from : IfSome l.run (λ r. r.from < 16777216);
      last : IfSome l.run (λ r. r.last < 16777216);
      lines : Progress g.K.Sink.written g.K.Sink.faults l.initial.sink l.sink (runs_left l.job l.tables.places sets l.run l.n (l.past - l.n)) (run_lines l.job l.tables.places sets false l.first (l.past - l.first));
    }
