use Rattle.std.proofs.Common.{rules, ◌≡◌, ◌+◌, [], ◌∷◌, ◌++◌, ap, sym, ◌∙◌, length, length-append, arith}
use Rattle.std.proofs.lemmas.Result.{IfOk-weaker, IfErr-weaker}
use Rattle.job_text.specs.Meaning.{lines_of}
use Rattle.interleave_core.specs.Meaning.{World}
use Rattle.schedule_play.specs.Meaning.{play}
use Rattle.schedule_play.proofs.PlayLemmas.{with_items, no_line, line_none, line_some, unplayed, line_bad, line_played, line_ends, ends_whole, ends_bad, no_more}
use Rattle.schedule_play.proofs.playing.play.Goals as goal

pub returns-in-Ok-None-clause-whole : goal.returns-in-Ok-None-clause-whole
returns-in-Ok-None-clause-whole c =
    let l = c.loop-rest in
    let o = c.in-Ok-None in
    let ends = line_ends _ l.played.items l.core.world l.n l.core.parts c.play_line.new.core.parts _ _ _ c.args.job.now l.invariant.plays c.first_line-line.ensures.line (ap (λ (w : World). w.job) l.invariant.stays.world ∙ c.requires.job)
    (λ more m r. line_none o.field-0 _ _ _ o.field-0-is (o.ensures.played more m r)) in
    let rest = lines_of c.first_line-line.result.rest.now in
    IfOk-weaker c.ended.result _ _ (λ v (h : (v.items ≡ l.played.items) × (rest ≡ [])). rw h.0 (ends_whole _ l.played.items l.n _ _ ends h.1)) c.ended.ensures.whole

pub returns-in-Ok-None-clause-bad : goal.returns-in-Ok-None-clause-bad
returns-in-Ok-None-clause-bad c =
    let l = c.loop-rest in
    let o = c.in-Ok-None in
    let ends = line_ends _ l.played.items l.core.world l.n l.core.parts c.play_line.new.core.parts _ _ _ c.args.job.now l.invariant.plays c.first_line-line.ensures.line (ap (λ (w : World). w.job) l.invariant.stays.world ∙ c.requires.job)
    (λ more m r. line_none o.field-0 _ _ _ o.field-0-is (o.ensures.played more m r)) in
    IfErr-weaker _ _ _ (λ e h. unplayed _ (l.n + 1) e (ends_bad _ l.played.items l.n _ _ ends h.1) h.0) c.ended.ensures.bad

pub returns-in-Err-clause-bad : goal.returns-in-Err-clause-bad
returns-in-Err-clause-bad c =
    let l = c.loop-rest in
    line_bad _ l.played.items l.core.world l.n l.core.parts _ _ _ c.args.job.now l.invariant.plays c.first_line-line.ensures.line (ap (λ (w : World). w.job) l.invariant.stays.world ∙ c.requires.job) c.in-Err.ensures.refused

pub loop-rest-preserved : goal.loop-rest-preserved
loop-rest-preserved c =
    let l = c.loop-rest in
    let o = c.in-Ok-Some in
    let items : c.push.new.self.items ≡ l.played.items ++ o.item ∷ [] = c.in_ok-push-in-Ok-Some.ensures.items in
    let whole = play c.args.core.now.world c.args.first c.args.core.now.parts (lines_of c.args.lines.now) in
    let rest = lines_of c.first_line-line.result.rest.now in
    let plays : whole ≡ with_items (l.played.items ++ o.item ∷ []) (play l.core.world (l.n + 1) c.play_line.new.core.parts rest) =
    line_played _ l.played.items l.core.world l.n l.core.parts c.play_line.new.core.parts _ _ _ c.args.job.now o.item l.invariant.plays c.first_line-line.ensures.line (ap (λ (w : World). w.job) l.invariant.stays.world ∙ c.requires.job)
    (λ more m r. line_some o.field-0 o.item _ _ _ o.field-0-is (o.ensures.played more m r)) in
    record {
      stays = record {
        world = o.ensures.stays.world ∙ l.invariant.stays.world;
        fits = λ f. o.ensures.stays.fits (l.invariant.stays.fits f);
      };
      plays = plays ∙ (ap (λ ps. with_items ps (play l.core.world (l.n + 1) c.play_line.new.core.parts rest)) (sym items) ∙ ap (λ (w : World). with_items c.push.new.self.items (play w (l.n + 1) c.play_line.new.core.parts rest)) (sym o.ensures.stays.world));
      numbers = omega (arith, l.invariant.numbers, ap length items, length-append l.played.items (o.item ∷ []));
      room = omega (arith, l.invariant.room, c.first_line-line.ensures.less);
    }

pub returns-clause-bad : goal.returns-clause-bad
returns-clause-bad c =
    let l = c.loop-rest in
    let none : length l.rest.now ≡ 0 = search rules in
    no_more _ l.played.items l.core.world l.n l.core.parts _ l.invariant.plays (no_line l.rest.now none)
