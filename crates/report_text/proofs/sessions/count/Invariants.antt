use Rattle.std.proofs.Common.{◌≡◌, ◌+◌, ◌-◌, ◌*◌, ◌≤◌}
use Rattle.report_text.proofs.PlaceFacts.{executed_at, facts_at, possible_at}
use Rattle.report_text.specs.Meaning.{sum_from}
use Rattle.report_text.proofs.sessions.count.Given as goal

abbrev pub invariant-loop-n : goal.invariant-loop-n
invariant-loop-n g l =
    let sets = g.R.FactSets.set_of l.sets l.s.0 in
    record {
      executed : l.counts.executed + sum_from (executed_at sets) l.n (l.past - l.n) ≡ sum_from (executed_at sets) l.first (l.past - l.first);
      facts : l.counts.facts + sum_from (facts_at sets) l.n (l.past - l.n) ≡ sum_from (facts_at sets) l.first (l.past - l.first);
      possible : l.counts.possible + sum_from (possible_at l.tables.places) l.n (l.past - l.n) ≡ sum_from (possible_at l.tables.places) l.first (l.past - l.first);
      few_executed : l.counts.executed ≤ l.n;
      few_facts : l.counts.facts ≤ 3 * l.n;
      few_possible : l.counts.possible ≤ 3 * l.n;
    }
