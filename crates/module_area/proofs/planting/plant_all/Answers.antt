use Rattle.std.proofs.Common.{◌≡◌, ◌≢◌, ◌<◌, ◌∙◌, sym, rules, length, get_or, refl}
use Rattle.module_area.specs.Meaning.{window_at}
use Rattle.module_area.proofs.PlantLemmas.{planted_more, planted_skip}
use Rattle.module_area.proofs.planting.plant_all.Goals as goal
use Rattle.module_area.proofs.planting.plant_all.Goals.{then-window-ne0, else-window-ne0}

pub loop-i-preserved : goal.loop-i-preserved
loop-i-preserved g c =
    let items : c.deref-window-items.result.now ≡ c.args.plan.now.windows = search rules in
    let lt : c.loop-i.i < length c.args.plan.now.windows = rw items at c.loop-i-test.true in
    let at : get_or c.deref-window-items.result.now c.loop-i.i 0 ≡ window_at c.args.plan.now c.loop-i.i = rw items refl in
    elim c.if-window-ne0.branch [
      | then-window-ne0 w ↦
          let ne : window_at c.args.plan.now c.loop-i.i ≢ 0 = λ z. w.if-window-ne0.true (at ∙ z) in
          let step = planted_more c.args.plan.now (g.C.Cells.notes c.args.pass.now) c.loop-i.i lt ne in
          record { area = rw w.pass-is w.plant.ensures.area; notes = rw (w.pass-is, w.plant.ensures.notes, at, c.loop-i.invariant.notes) (sym step) }
      | else-window-ne0 w ↦
          let none : window_at c.args.plan.now c.loop-i.i ≡ 0 = sym at ∙ w.if-window-ne0.false in
          let step = planted_skip c.args.plan.now (g.C.Cells.notes c.args.pass.now) c.loop-i.i lt none in
          record { area = rw w.pass-is c.loop-i.invariant.area; notes = rw w.pass-is (c.loop-i.invariant.notes ∙ sym step) }
    ]
