use Rattle.std.proofs.Common.{◌≡◌, ◌<◌, length, set, Some, true, is_some, sym, ◌∙◌, ap, subst}
use Rattle.std.proofs.lemmas.List.{length-map}
use Rattle.interleave_core.specs.Meaning.{World, controller_of, Stepped, of_existing, change_step, changed_cell}
use Rattle.interleave_core.specs.Views.{RunningView, CoreView, IsPlaced, parts_of}
use Rattle.interleave_core.specs.declared.events.Shown.{Shown}
use Rattle.interleave_core.proofs.Placing.{change_possible, changed_core}
use Rattle.interleave_core.proofs.interleaving.Core.change_by.Goals as goal

pub invariant_of-self : goal.invariant_of-self
invariant_of-self c =
    let w : World = record { job = c.self.inside.job.now; places = c.self.inside.tables.now.places } in
    let by = subst (λ (v : CoreView). controller_of v.world c.args.s.0 ≡ Some c.args.t.0) (sym c.self.view_is) c.requires in
    let here = subst (λ (v : CoreView). IsPlaced v.world v.parts c.args.t.0 c.args.s.0 c.args.p.0) (sym c.self.view_is) (c.may_change.ensures.placed c.if-not-may_change.false) in
    let lt : c.args.t.0 < length c.self.inside.tasks.items = subst (λ n. c.args.t.0 < n) (length-map c.self.inside.tasks.items (λ (r : RunningView). r.part)) here.task in
    let some = subst (λ (v : CoreView). is_some (of_existing v.parts c.args.t.0 (change_step v.world v.parts c.args.closes c.args.s.0 c.args.p.0 c.args.t.0)) ≡ true) (sym c.self.view_is) (sym c.may_change.ensures.value ∙ c.if-not-may_change.false) in
    let cell = subst (λ (v : CoreView). c.changed_cell.result ≡ changed_cell v.world (record { closes = c.args.closes; session = c.args.s.0; place = c.args.p })) (sym c.self.view_is) c.changed_cell.ensures in
    changed_core w c.self.inside.cells.items c.self.inside.sets.items c.self.inside.plan c.self.inside.tasks.items c.args.closes c.args.s c.args.p c.args.t.0 c.index_mut-2.result.now c.changed.new.self c.changed_cell.result c.self.invariant
    by lt c.index_mut-2.ensures.value some cell c.changed.ensures

pub returns : goal.returns
returns c =
    let w : World = record { job = c.self.inside.job.now; places = c.self.inside.tables.now.places } in
    let here = subst (λ (v : CoreView). IsPlaced v.world v.parts c.args.t.0 c.args.s.0 c.args.p.0) (sym c.self.view_is) (c.may_change.ensures.placed c.if-not-may_change.false) in
    let lt : c.args.t.0 < length c.self.inside.tasks.items = subst (λ n. c.args.t.0 < n) (length-map c.self.inside.tasks.items (λ (r : RunningView). r.part)) here.task in
    let some = subst (λ (v : CoreView). is_some (of_existing v.parts c.args.t.0 (change_step v.world v.parts c.args.closes c.args.s.0 c.args.p.0 c.args.t.0)) ≡ true) (sym c.self.view_is) (sym c.may_change.ensures.value ∙ c.if-not-may_change.false) in
    let cell = subst (λ (v : CoreView). c.changed_cell.result ≡ changed_cell v.world (record { closes = c.args.closes; session = c.args.s.0; place = c.args.p })) (sym c.self.view_is) c.changed_cell.ensures in
    let target : Shown → Stepped = λ shown. record { parts = record { cells = set c.self.inside.cells.items c.args.p.0 c.changed_cell.result; sets = c.self.inside.sets.items; tasks = parts_of (set c.self.inside.tasks.items c.args.t.0 c.changed.new.self) }; shown = shown } in
    let possible =
    subst (λ (v : CoreView). of_existing v.parts c.args.t.0 (change_step v.world v.parts c.args.closes c.args.s.0 c.args.p.0 c.args.t.0) ≡ Some (target c.shown_of.result)) c.self.view_is
    (change_possible w c.self.inside.cells.items c.self.inside.sets.items c.self.inside.tasks.items c.args.closes c.args.s.0 c.args.p c.args.t.0 c.index_mut-2.result.now c.changed.new.self c.changed_cell.result lt c.index_mut-2.ensures.value some cell c.changed.ensures
    ∙ ap (λ (x : Shown). Some (target x)) (sym c.shown_of.ensures)) in
    record { possible = possible; refused = tt; kept = tt; world = ap (λ (v : CoreView). v.world) c.self.view_is }
