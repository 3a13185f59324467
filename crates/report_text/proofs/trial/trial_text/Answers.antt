use Rattle.std.proofs.Common.{◌≡◌, [], ◌∷◌, ◌++◌, length}
use Rattle.cov_base.specs.declared.marks.Mark.TheVariants.{Not, Done, Branched, Fell, Both}
use Rattle.report_text.specs.Meaning.{sum_from, mark_count, trial_line, amount_line, mark_line}
use Rattle.report_text.specs.Writes.{WritesLines}
use Rattle.report_text.proofs.PlaceFacts.{done_at}
use Rattle.report_text.proofs.WriteLemmas.{progress_start, progress_more, progress_exit, progress_last}
use Rattle.report_text.proofs.trial.trial_text.Goals as goal

pub returns-in_err-put : goal.returns-in_err-put
returns-in_err-put g c =
    let places = c.args.tables.now.places in
    let sets = g.R.FactSets.set_of c.args.results.now 1 in
    let one = trial_line c.args.number c.args.tasks in
    let two = amount_line (length places) (sum_from (done_at (g.R.Results.result_of c.args.results.now)) 0 c.args.tasks) in
    let three = mark_line (mark_count Not places sets) (mark_count Done places sets) (mark_count Branched places sets) (mark_count Fell places sets) (mark_count Both places sets) in
    let w : WritesLines _ _ _ _ c.from_residual.result (one ∷ two ∷ three ∷ []) = progress_exit _ c.from_residual.ensures.0 (c.in_err-put.ensures _ c.trial_line.ensures) progress_start in
    w.as_text

pub returns-in_err-put-2 : goal.returns-in_err-put-2
returns-in_err-put-2 g c =
    let places = c.args.tables.now.places in
    let sets = g.R.FactSets.set_of c.args.results.now 1 in
    let one = trial_line c.args.number c.args.tasks in
    let two = amount_line (length places) (sum_from (done_at (g.R.Results.result_of c.args.results.now)) 0 c.args.tasks) in
    let three = mark_line (mark_count Not places sets) (mark_count Done places sets) (mark_count Branched places sets) (mark_count Fell places sets) (mark_count Both places sets) in
    let amounts : c.amount_line.result.items ≡ two ++ 10 ∷ [] = rw (c.len.ensures.value, c.count_done-done.ensures) at c.amount_line.ensures in
    let first = progress_more (c.in_ok-put.ensures one c.trial_line.ensures) progress_start in
    let w : WritesLines _ _ _ _ c.from_residual-in_err-put-2.result (one ∷ two ∷ three ∷ []) = progress_exit _ c.from_residual-in_err-put-2.ensures.0 (c.in_err-put-2.ensures two amounts) first in
    w.as_text

pub returns : goal.returns
returns g c =
    let places = c.args.tables.now.places in
    let sets = g.R.FactSets.set_of c.args.results.now 1 in
    let one = trial_line c.args.number c.args.tasks in
    let two = amount_line (length places) (sum_from (done_at (g.R.Results.result_of c.args.results.now)) 0 c.args.tasks) in
    let three = mark_line (mark_count Not places sets) (mark_count Done places sets) (mark_count Branched places sets) (mark_count Fell places sets) (mark_count Both places sets) in
    let counts = c.count_marks-counts.ensures in
    let amounts : c.amount_line.result.items ≡ two ++ 10 ∷ [] = rw (c.len.ensures.value, c.count_done-done.ensures) at c.amount_line.ensures in
    let marks : c.mark_line.result.items ≡ three ++ 10 ∷ [] = rw (counts.not, counts.executed, counts.branched, counts.fell, counts.both) at c.mark_line.ensures in
    let first = progress_more (c.in_ok-put.ensures one c.trial_line.ensures) progress_start in
    let second = progress_more (c.in_ok-put-2.ensures two amounts) first in
    let w : WritesLines _ _ _ _ c.put-3.result (one ∷ two ∷ three ∷ []) = progress_last (c.put-3.ensures three marks) second in
    w.as_text
