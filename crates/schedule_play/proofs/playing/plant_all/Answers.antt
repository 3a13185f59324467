use Rattle.std.proofs.Common.{◌≡◌, ◌<◌, ℕ, length, get_or, sym, ap, ◌∙◌, subst, arith}
use Rattle.module_area.specs.Meaning.{window_at}
use Rattle.module_area.specs.declared.cells.Cell.{Cell}
use Rattle.interleave_core.specs.Meaning.{World, plan_in, run_on}
use Rattle.interleave_core.specs.World.{IsWorld}
use Rattle.schedule_play.proofs.PlantLemmas.{plants_from, planted_next, planted_end}
use Rattle.schedule_play.proofs.playing.plant_all.Goals as goal

pub plant-requires-clause-window : goal.plant-requires-clause-window
plant-requires-clause-window c = ap (λ ws. get_or ws c.loop-p.p 0) c.requires.windows ∙ ap (λ (w : World). window_at (plan_in w) c.loop-p.p) (sym c.loop-p.invariant.stays.world)

pub plant-requires-clause-place : goal.plant-requires-clause-place
plant-requires-clause-place c =
    let here : c.loop-p.p < length c.args.windows.now = c.loop-p-test.true in
    subst (λ (w : World). c.loop-p.p < length w.places) (sym c.loop-p.invariant.stays.world) (omega (arith, here, ap length c.requires.windows, c.requires.is_world.is_plan.windows))

pub plant-requires-clause-is_world : goal.plant-requires-clause-is_world
plant-requires-clause-is_world c = subst IsWorld (sym c.loop-p.invariant.stays.world) c.requires.is_world

pub plant-requires-clause-fresh : goal.plant-requires-clause-fresh
plant-requires-clause-fresh c = c.loop-p.invariant.fresh c.loop-p.p (omega arith)

pub loop-p-preserved : goal.loop-p-preserved
loop-p-preserved c = record {
  stays = record {
    world = c.plant.ensures.stays.world ∙ c.loop-p.invariant.stays.world;
    fits = λ f. c.plant.ensures.stays.fits (c.loop-p.invariant.stays.fits f);
  };
  fresh = λ q le. ap (λ (x : Cell). x.tag) (c.plant.ensures.others q (omega (arith, le))) ∙ c.loop-p.invariant.fresh q (omega (arith, le));
  planted = rw c.plant.ensures.stays.world (c.loop-p.invariant.planted ∙ planted_next c.loop-p.core.world c.loop-p.p (length c.args.windows.now) c.loop-p.core.parts c.plant.new.core.parts c.loop-p-test.true c.plant.ensures.planted);
}

pub returns-clause-planted : goal.returns-clause-planted
returns-clause-planted c =
    let all : length c.args.windows.now ≡ length c.args.core.now.world.places = ap length c.requires.windows ∙ c.requires.is_world.is_plan.windows in
    ap (λ (n : ℕ). run_on c.args.core.now.world c.args.core.now.parts (plants_from c.args.core.now.world 0 n)) (sym all)
    ∙ (c.loop-p.invariant.planted ∙ planted_end c.loop-p.core.world c.loop-p.p (length c.args.windows.now) c.loop-p.core.parts c.loop-p-test.false)
