use Rattle.std.proofs.Common.{◌≡◌, [], ◌∷◌, ◌++◌, codes}
use Rattle.report_text.proofs.Laws.{progress_start, progress_more, progress_exit, progress_last}
use Rattle.schedule_play.proofs.TextLemmas.{core_results, core_sets, told_core}
use Rattle.schedule_play.proofs.text.replay_text.Goals as goal

pub returns-in_err-put : goal.returns-in_err-put
returns-in_err-put g c =
    let head : c.words_line.result.items ≡ codes "COVERAGE REPLAY" ++ 10 ∷ [] = c.words_line.ensures in
    progress_exit _ c.from_residual.ensures.0 (c.in_err-put.ensures _ head) progress_start

pub returns-in_err-events_text : goal.returns-in_err-events_text
returns-in_err-events_text g c =
    let head : c.words_line.result.items ≡ codes "COVERAGE REPLAY" ++ 10 ∷ [] = c.words_line.ensures in
    let first = progress_more (c.in_ok-put.ensures _ head) progress_start in
    progress_exit _ c.from_residual-in_err-events_text.ensures.0 c.in_err-events_text.ensures first

pub returns : goal.returns
returns g c =
    let head : c.words_line.result.items ≡ codes "COVERAGE REPLAY" ++ 10 ∷ [] = c.words_line.ensures in
    let first = progress_more (c.in_ok-put.ensures _ head) progress_start in
    let second = progress_more c.in_ok-events_text.ensures first in
    told_core c.args.job.now c.args.tables.now c.args.core.now.world c.args.core.now.parts c.args.played.now c.requires.core (progress_last c.results_part.ensures second)

pub results_part-requires-clause-results : goal.results_part-requires-clause-results
results_part-requires-clause-results g c = core_results c.args.job.now c.args.tables.now c.args.core.now.world c.args.core.now.parts c.requires.core c.requires.fits

pub results_part-requires-clause-sets : goal.results_part-requires-clause-sets
results_part-requires-clause-sets g c = core_sets c.args.job.now c.args.tables.now c.args.core.now.world c.args.core.now.parts c.requires.core c.requires.numbered c.requires.fits
