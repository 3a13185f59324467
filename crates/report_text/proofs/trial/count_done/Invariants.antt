use Rattle.std.proofs.Common.{◌≡◌, ◌+◌, ◌-◌, ◌*◌, ◌≤◌}
use Rattle.report_text.specs.Meaning.{sum_from}
use Rattle.report_text.proofs.PlaceFacts.{done_at}
use Rattle.report_text.proofs.trial.count_done.Given as goal

abbrev pub invariant-loop-t : goal.invariant-loop-t
invariant-loop-t g l =
    let results = g.R.Results.result_of l.results in
    record {
      total : l.total + sum_from (done_at results) l.t (l.tasks - l.t) ≡ sum_from (done_at results) 0 l.tasks;
      fits : l.total ≤ l.t * 4294967295;
    }
