use Rattle.std.proofs.Common.{◌+◌, ◌<◌, length, rules}
use Rattle.report_text.proofs.Laws.{lines_from-next, progress_at, progress_more, progress_exit}
use Rattle.schedule_play.proofs.TextLemmas.{line_of, told_line}
use Rattle.schedule_play.proofs.text.events_text.Goals as goal

pub returns-in_err-put : goal.returns-in_err-put
returns-in_err-put g c =
    let lines = line_of c.args.job.now c.args.tables.now.places c.args.played.now in
    let i = c.loop-i.i in
    let here : i < length c.args.played.now = search rules in
    let told = told_line c.args.job.now c.args.tables.now.places c.args.played.now i c.index-played-i.result _ here c.index-played-i.is c.event_line.ensures in
    progress_exit _ c.from_residual.ensures.0 (c.in_err-put.ensures _ told) (progress_at (lines_from-next lines (i + 1) i (length c.args.played.now) here) c.loop-i.invariant)

pub loop-i-preserved : goal.loop-i-preserved
loop-i-preserved g c =
    let lines = line_of c.args.job.now c.args.tables.now.places c.args.played.now in
    let i = c.loop-i.i in
    let here : i < length c.args.played.now = search rules in
    let told = told_line c.args.job.now c.args.tables.now.places c.args.played.now i c.index-played-i.result _ here c.index-played-i.is c.event_line.ensures in
    progress_more (c.in_ok-put.ensures _ told) (progress_at (lines_from-next lines (i + 1) i (length c.args.played.now) here) c.loop-i.invariant)
