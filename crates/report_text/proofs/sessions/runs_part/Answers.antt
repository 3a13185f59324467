use Rattle.std.proofs.Common.{◌≡◌, ◌∙◌, sym, true, false, ap}
use Rattle.report_text.specs.Meaning.{lacks}
use Rattle.report_text.proofs.RunLemmas.{runs-closed, runs-more, runs-end}
use Rattle.report_text.proofs.WriteLemmas.{progress_at, progress_more, progress_exit, progress_last}
use Rattle.report_text.proofs.sessions.runs_part.Goals as goal
use Rattle.report_text.proofs.sessions.runs_part.Goals.{then-lacks, else-lacks+in_ok-run_part}

pub returns-in_err-run_part : goal.returns-in_err-run_part
returns-in_err-run_part g c =
    let sets = g.R.FactSets.set_of c.args.sets.now c.args.s.0 in
    let n = c.loop-n.n in
    let has : lacks (sets n) ≡ false = ap lacks (sym c.set.ensures) ∙ sym c.lacks.ensures ∙ c.if-lacks.false in
    progress_exit _ c.from_residual.ensures.0 c.in_err-run_part.ensures (progress_at (runs-closed c.args.job.now c.args.tables.now.places sets c.loop-n.run n c.args.past c.loop-n-test.true has) c.loop-n.invariant.lines)

pub loop-n-preserved : goal.loop-n-preserved
loop-n-preserved g c =
    let sets = g.R.FactSets.set_of c.args.sets.now c.args.s.0 in
    let places = c.args.tables.now.places in
    let n = c.loop-n.n in
    elim c.if-lacks.branch [
      | then-lacks w ↦ (let none : lacks (sets n) ≡ true = ap lacks (sym c.set.ensures) ∙ sym c.lacks.ensures ∙ w.if-lacks.true in
          let more = runs-more c.args.job.now places sets c.loop-n.run w.with_place.result n c.args.past c.loop-n-test.true none (rw w.place.ensures.value at w.with_place.ensures.from) (rw w.place.ensures.value at w.with_place.ensures.last) in
          rw (w.run-is, w.sink-is) (record {
            from = w.with_place.ensures.low;
            last = w.with_place.ensures.high;
            lines = progress_at more c.loop-n.invariant.lines;
          }))
      | else-lacks+in_ok-run_part w ↦ (let has : lacks (sets n) ≡ false = ap lacks (sym c.set.ensures) ∙ sym c.lacks.ensures ∙ w.if-lacks.false in
          let closed = runs-closed c.args.job.now places sets c.loop-n.run n c.args.past c.loop-n-test.true has in
          rw (w.run-is, w.sink-is) (record {
            from = tt;
            last = tt;
            lines = progress_more w.in_ok-run_part.ensures (progress_at closed c.loop-n.invariant.lines);
          }))
    ]

pub returns : goal.returns
returns g c =
    let sets = g.R.FactSets.set_of c.args.sets.now c.args.s.0 in
    progress_last c.run_part-2.ensures (progress_at (runs-end c.args.job.now c.args.tables.now.places sets c.loop-n.run c.loop-n.n c.args.past c.loop-n-test.false) c.loop-n.invariant.lines)
