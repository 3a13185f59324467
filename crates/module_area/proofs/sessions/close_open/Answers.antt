use Rattle.std.proofs.Common.{◌≡◌, Some, List, length, sym, ap, subst, ◌∙◌, arith}
use Rattle.cov_base.specs.declared.numbers.PlaceNo.{PlaceNo}
use Rattle.module_area.specs.Notes.{Notes, calls}
use Rattle.module_area.specs.Meaning.{ControlView, closing, places_under}
use Rattle.module_area.specs.Control.{after_closes}
use Rattle.module_area.specs.Tied.{IsTied}
use Rattle.module_area.proofs.TieLemmas.{open_kept, from_one, few_places, may_close, tied_close}
use Rattle.module_area.proofs.sessions.close_open.Goals as goal

pub close_places-requires-clause-room : goal.close_places-requires-clause-room
close_places-requires-clause-room g c =
    let n = g.C.Cells.notes c.args.pass.now in
    let is : c.args.control.now.opened ≡ Some c.in-Some.s = sym (ap (λ (d : ControlView). d.opened) c.control.view_is) ∙ c.in-Some.is in
    let kept = open_kept c.args.plan.now n c.args.control.now c.in-Some.s c.requires.can.tied is in
    let few = few_places c.args.plan.now n c.places_under.ensures.plan c.in-Some.s.0 kept in
    let size = ap (λ (ps : List PlaceNo). length ps) c.places_under.ensures.value in
    let room = c.requires.can.room in
    omega (arith, few, size, room)

pub close_places-requires-clause-session : goal.close_places-requires-clause-session
close_places-requires-clause-session g c =
    let is : c.args.control.now.opened ≡ Some c.in-Some.s = sym (ap (λ (d : ControlView). d.opened) c.control.view_is) ∙ c.in-Some.is in
    from_one c.args.plan.now (g.C.Cells.notes c.args.pass.now) c.places_under.ensures.plan c.in-Some.s.0 (open_kept c.args.plan.now (g.C.Cells.notes c.args.pass.now) c.args.control.now c.in-Some.s c.requires.can.tied is)

pub close_places-requires-clause-each : goal.close_places-requires-clause-each
close_places-requires-clause-each g c =
    let is : c.args.control.now.opened ≡ Some c.in-Some.s = sym (ap (λ (d : ControlView). d.opened) c.control.view_is) ∙ c.in-Some.is in
    let n = g.C.Cells.notes c.args.pass.now in
    rw (c.requires.can.plan, c.places_under.ensures.value) (may_close c.args.plan.now n c.places_under.ensures.plan c.in-Some.s.0 (open_kept c.args.plan.now n c.args.control.now c.in-Some.s c.requires.can.tied is) (c.requires.can.tied.planted c.in-Some.s is))

pub returns-in-Some-clause-tied : goal.returns-in-Some-clause-tied
returns-in-Some-clause-tied g c =
    let is : c.args.control.now.opened ≡ Some c.in-Some.s = sym (ap (λ (d : ControlView). d.opened) c.control.view_is) ∙ c.in-Some.is in
    let n = g.C.Cells.notes c.args.pass.now in
    let notes : g.C.Cells.notes c.close_places.new.pass ≡ after_closes n c.in-Some.s.0 (places_under c.args.plan.now c.in-Some.s.0) = c.close_places.ensures.notes ∙ ap (after_closes n c.in-Some.s.0) c.places_under.ensures.value in
    subst (λ (d : ControlView). IsTied c.args.plan.now (g.C.Cells.notes c.close_places.new.pass) (closing d)) (sym c.control.view_is)
    (subst (λ (m : Notes). IsTied c.args.plan.now m (closing c.args.control.now)) (sym notes) (tied_close c.args.plan.now n c.args.control.now c.in-Some.s c.requires.can.tied is))

pub returns-in-Some-clause-calls : goal.returns-in-Some-clause-calls
returns-in-Some-clause-calls g c =
    let is : c.args.control.now.opened ≡ Some c.in-Some.s = sym (ap (λ (d : ControlView). d.opened) c.control.view_is) ∙ c.in-Some.is in
    let n = g.C.Cells.notes c.args.pass.now in
    let kept = open_kept c.args.plan.now n c.args.control.now c.in-Some.s c.requires.can.tied is in
    let few = few_places c.args.plan.now n c.places_under.ensures.plan c.in-Some.s.0 kept in
    let size = ap (λ (ps : List PlaceNo). length ps) c.places_under.ensures.value in
    let sum = ap calls c.close_places.ensures.notes in
    omega (arith, few, size, sum)
