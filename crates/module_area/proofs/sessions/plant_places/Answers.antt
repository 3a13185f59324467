use Rattle.std.proofs.Common.{◌≡◌, ◌+◌, ◌-◌, ◌*◌, ◌<◌, Bool, if◌then◌else◌, get_or, take, sym, ap, ◌∙◌, subst, arith}
use Rattle.std.proofs.lemmas.List.{length-take-le, take_all}
use Rattle.module_area.specs.Notes.{Notes, calls, keeps, after_plant}
use Rattle.module_area.specs.Control.{after_plants}
use Rattle.module_area.proofs.ControlLemmas.{more_planted, none_planted, not_before}
use Rattle.module_area.proofs.sessions.plant_places.Goals as goal

pub loop-place-init : goal.loop-place-init
loop-place-init g c = record { area = c.requires.area; notes = none_planted (g.C.Cells.notes c.args.pass.now) c.args.s.0 }

pub plant-requires-clause-can : goal.plant-requires-clause-can
plant-requires-clause-can g c =
    let i = c.loop-place.place-index in let l = c.loop-place-test.true in let p = get_or c.args.places.now i (record { 0 = 0 }) in
    let e = ap calls {y = after_plants (g.C.Cells.notes c.args.pass.now) c.args.s.0 (take c.loop-place.place-index c.args.places.now)} c.loop-place.invariant.notes in let k = length-take-le i c.args.places.now (omega arith) in let r = c.requires.room in record {
      area = c.loop-place.invariant.area;
      place = c.requires.each.of_plan i (record { 0 = 0 }) l;
      room = omega (arith, e, l, k, r);
      session = c.requires.session;
      keeper = ap (λ (n : Notes). keeps (g.C.Cells.plan c.args.cells.now) n p.0) c.loop-place.invariant.notes ∙ c.requires.each.keeper i (record { 0 = 0 }) l;
    }

pub plant-requires-clause-later : goal.plant-requires-clause-later
plant-requires-clause-later g c = let i = c.loop-place.place-index in let ps = c.args.places.now in let p = get_or ps i (record { 0 = 0 }) in let n0 = g.C.Cells.notes c.args.pass.now in
    let e : (g.C.Cells.notes c.loop-place.pass).last p.0 ≡ n0.last p.0 = ap (λ (n : Notes). n.last p.0) c.loop-place.invariant.notes ∙ ap (λ (b : Bool). if b then 2 * c.args.s.0 - 1 else n0.last p.0) (not_before ps i (record { 0 = 0 }) c.requires.each.rising c.loop-place-test.true) in
    subst (λ k. k + 1 < 2 * c.args.s.0) (sym e) (c.requires.each.later i (record { 0 = 0 }) c.loop-place-test.true)

pub loop-place-preserved : goal.loop-place-preserved
loop-place-preserved g c = let i = c.loop-place.place-index in let ps = c.args.places.now in let p = get_or ps i (record { 0 = 0 }) in record {
  area = c.plant.ensures.area;
  notes = c.plant.ensures.notes ∙ (ap (λ (n : Notes). after_plant n c.args.s.0 p.0) c.loop-place.invariant.notes ∙ sym (more_planted (g.C.Cells.notes c.args.pass.now) c.args.s.0 ps i (record { 0 = 0 }) c.loop-place-test.true));
}

pub returns-clause-area : goal.returns-clause-area
returns-clause-area g c = c.loop-place.invariant.area

pub returns-clause-notes : goal.returns-clause-notes
returns-clause-notes g c = let i = c.loop-place.place-index in let ps = c.args.places.now in c.loop-place.invariant.notes ∙ ap (after_plants (g.C.Cells.notes c.args.pass.now) c.args.s.0) (take_all i ps (let x = c.loop-place-test.false in omega arith))
