use Rattle.std.proofs.Common.{◌≡◌, ◌+◌, ◌-◌, ◌≤◌, length}
use Rattle.cov_base.specs.declared.marks.Mark.TheVariants.{Not, Done, Branched, Fell, Both}
use Rattle.report_text.specs.Meaning.{sum_from, mark_count}
use Rattle.report_text.proofs.PlaceFacts.{marked_at}
use Rattle.report_text.proofs.trial.count_marks.Given as goal

abbrev pub invariant-loop-n : goal.invariant-loop-n
invariant-loop-n g l =
    let places = l.tables.places in
    let sets = g.R.FactSets.set_of l.sets 1 in
    let left = length places - l.n in
    record {
      not : l.counts.not + sum_from (marked_at Not places sets) l.n left ≡ mark_count Not places sets;
      executed : l.counts.executed + sum_from (marked_at Done places sets) l.n left ≡ mark_count Done places sets;
      branched : l.counts.branched + sum_from (marked_at Branched places sets) l.n left ≡ mark_count Branched places sets;
      fell : l.counts.fell + sum_from (marked_at Fell places sets) l.n left ≡ mark_count Fell places sets;
      both : l.counts.both + sum_from (marked_at Both places sets) l.n left ≡ mark_count Both places sets;
      few_not : l.counts.not ≤ l.n;
      few_executed : l.counts.executed ≤ l.n;
      few_branched : l.counts.branched ≤ l.n;
      few_fell : l.counts.fell ≤ l.n;
      few_both : l.counts.both ≤ l.n;
    }
