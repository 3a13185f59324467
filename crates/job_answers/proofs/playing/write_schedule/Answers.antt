use Rattle.std.proofs.Common.{◌≡◌, refl, sym, ap, ◌∙◌, rules}
use Rattle.schedule_play.specs.Meaning.{Whole, Bad}
use Rattle.schedule_play.specs.Play.{play_behind}
use Rattle.refusals.specs.Meaning.{refusal, bad_schedule_line}
use Rattle.job_answers.specs.Calls.{AtLine, ToEnd}
use Rattle.refusals.specs.Told.{Told, Wanting}
use Rattle.refusals.proofs.Laws.{written_as, told_as}
use Rattle.job_answers.proofs.playing.write_schedule.Goals as goal

pub returns : goal.returns
returns g c =
    let same : c.deref-2.result.now ≡ c.in-Ok.replayed.played.items = search rules in
    Told 0 _
    (ToEnd c.in-Ok.replayed.core.parts c.deref-2.result.now (c.in-Ok.ensures.whole ∙ ap (Whole c.in-Ok.replayed.core.parts) (sym same)) c.in-Ok.ensures.run (refl, refl))
    (written_as _ _ _ c.replay_text.ensures.as_text c.status_of.ensures.whole c.status_of.ensures.failed)

pub returns-in-Err-NoMemory : goal.returns-in-Err-NoMemory
returns-in-Err-NoMemory g c = Wanting c.told_no_memory.ensures

pub returns-in-Err-Bad : goal.returns-in-Err-Bad
returns-in-Err-Bad g c =
    let line = c.in-Err-Bad.line in
    let bad : play_behind c.args.job.now c.args.tables.now c.args.lines c.args.schedule.now ≡ Bad line = search rules in
    Told 9 (bad_schedule_line line) (AtLine line bad refl refl)
    (told_as 9 c.bad_schedule_line.result.items c.deref.result.now (refusal 9 (bad_schedule_line line)) _ _ (ap (refusal 9) c.bad_schedule_line.ensures) c.deref.ensures.0 c.told.ensures)
