use Rattle.std.proofs.Common.{◌≡◌, Some, length, List, sym, ap, subst, ◌∙◌, arith}
use Rattle.cov_base.specs.declared.numbers.PlaceNo.{PlaceNo}
use Rattle.module_area.specs.Notes.{Notes, calls}
use Rattle.module_area.specs.Meaning.{ControlView, to_open, opening, places_under}
use Rattle.module_area.specs.Control.{after_plants}
use Rattle.module_area.specs.Tied.{IsTied}
use Rattle.module_area.proofs.TieLemmas.{next_kept, next_later, next_small, from_one, few_places, may_plant, tied_open}
use Rattle.module_area.proofs.sessions.open_next.Goals as goal

pub plant_places-requires-clause-room : goal.plant_places-requires-clause-room
plant_places-requires-clause-room g c =
    let n = g.C.Cells.notes c.args.pass.now in
    let is : to_open c.args.control.now ≡ Some c.in-Some.s = sym c.to_open.ensures ∙ c.in-Some.is in
    let kept = next_kept c.args.plan.now n c.args.control.now c.requires.can.tied c.in-Some.s is in
    let few = few_places c.args.plan.now n c.places_under.ensures.plan c.in-Some.s.0 kept in
    let size = ap (λ (ps : List PlaceNo). length ps) c.places_under.ensures.value in
    let room = c.requires.can.room in
    omega (arith, few, size, room)

pub plant_places-requires-clause-session : goal.plant_places-requires-clause-session
plant_places-requires-clause-session g c =
    let n = g.C.Cells.notes c.args.pass.now in
    let is : to_open c.args.control.now ≡ Some c.in-Some.s = sym c.to_open.ensures ∙ c.in-Some.is in
    from_one c.args.plan.now n c.places_under.ensures.plan c.in-Some.s.0 (next_kept c.args.plan.now n c.args.control.now c.requires.can.tied c.in-Some.s is)

pub plant_places-requires-clause-each : goal.plant_places-requires-clause-each
plant_places-requires-clause-each g c =
    let n = g.C.Cells.notes c.args.pass.now in
    let is : to_open c.args.control.now ≡ Some c.in-Some.s = sym c.to_open.ensures ∙ c.in-Some.is in
    let kept = next_kept c.args.plan.now n c.args.control.now c.requires.can.tied c.in-Some.s is in
    rw (c.requires.can.plan, c.places_under.ensures.value) (may_plant c.args.plan.now n c.places_under.ensures.plan c.in-Some.s.0 kept (next_later c.args.plan.now n c.args.control.now c.requires.can.tied c.in-Some.s is))

pub overflow_add-control : goal.overflow_add-control
overflow_add-control g c =
    let n = g.C.Cells.notes c.args.pass.now in
    let is : to_open c.args.control.now ≡ Some c.in-Some.s = sym c.to_open.ensures ∙ c.in-Some.is in
    let small = next_small c.args.plan.now n c.args.control.now c.in-Some.s c.places_under.ensures.plan c.requires.can.tied is in
    let same = ap (λ (d : ControlView). d.next) c.control.view_is in
    omega (arith, small, same)

pub returns-in-Some-clause-tied : goal.returns-in-Some-clause-tied
returns-in-Some-clause-tied g c =
    let n = g.C.Cells.notes c.args.pass.now in
    let is : to_open c.args.control.now ≡ Some c.in-Some.s = sym c.to_open.ensures ∙ c.in-Some.is in
    let kept = next_kept c.args.plan.now n c.args.control.now c.requires.can.tied c.in-Some.s is in
    let pos = from_one c.args.plan.now n c.places_under.ensures.plan c.in-Some.s.0 kept in
    let notes : g.C.Cells.notes c.plant_places.new.pass ≡ after_plants n c.in-Some.s.0 (places_under c.args.plan.now c.in-Some.s.0) = c.plant_places.ensures.notes ∙ ap (after_plants n c.in-Some.s.0) c.places_under.ensures.value in
    subst (λ (d : ControlView). IsTied c.args.plan.now (g.C.Cells.notes c.plant_places.new.pass) (opening d (Some c.in-Some.s))) (sym c.control.view_is)
    (subst (λ (m : Notes). IsTied c.args.plan.now m (opening c.args.control.now (Some c.in-Some.s))) (sym notes) (tied_open c.args.plan.now n c.args.control.now c.requires.can.tied c.in-Some.s is pos))

pub returns-in-Some-clause-calls : goal.returns-in-Some-clause-calls
returns-in-Some-clause-calls g c =
    let n = g.C.Cells.notes c.args.pass.now in
    let is : to_open c.args.control.now ≡ Some c.in-Some.s = sym c.to_open.ensures ∙ c.in-Some.is in
    let kept = next_kept c.args.plan.now n c.args.control.now c.requires.can.tied c.in-Some.s is in
    let few = few_places c.args.plan.now n c.places_under.ensures.plan c.in-Some.s.0 kept in
    let size = ap (λ (ps : List PlaceNo). length ps) c.places_under.ensures.value in
    let sum = ap calls c.plant_places.ensures.notes in
    omega (arith, few, size, sum)
