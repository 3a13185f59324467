use Rattle.std.proofs.Common.{◌≡◌, ◌<◌, length, set, Some, ap, sym, subst, arith, option_map, ◌≤◌, refl}
use Rattle.interleave_core.specs.Meaning.{World, Parts, Stepped, of_existing, TaskPart, lifted, in_hand}
use Rattle.interleave_core.specs.Views.{CoreView, parts_of}
use Rattle.interleave_core.specs.declared.events.Event.TheVariants.{Lift}
use Rattle.interleave_core.specs.declared.events.Shown.TheVariants.{Lifted}
use Rattle.interleave_core.specs.declared.stage.Due.TheVariants.{Lifting}
use Rattle.interleave_core.proofs.Kept.{hand_due, lifted_core, lift_possible, none_missing, none_due, tied_by}
use Rattle.interleave_core.proofs.interleaving.Core.lift.Goals as goal

pub invariant_of-self : goal.invariant_of-self
invariant_of-self c =
    let w : World = record { job = c.self.inside.job.now; places = c.self.inside.tables.now.places } in
    let lt : c.args.t.0 < length c.self.inside.tasks.items = omega (arith, c.if-n-len.false, c.len.ensures) in
    let due = hand_due w c.self.inside.cells.items c.self.inside.sets.items c.self.inside.plan c.self.inside.tasks.items c.args.t.0 c.index.result.now Lifting c.in-Some.hand c.self.invariant lt c.index.ensures (sym c.in-Some.ensures) (λ e. absurd cc) in
    lifted_core w c.self.inside.cells.items c.exchange-taken.new.cells.items _ _ _ c.args.t.0 c.index.result.now c.index_mut.result.now c.hold.new.self c.in-Some.hand c.with_due.result c.exchange-taken.result c.place.result.now.original
    c.self.invariant lt c.index.ensures c.index_mut.ensures.value due (ap (λ x. x.original) c.place.ensures.value) c.exchange-taken.ensures.cells c.with_due.ensures c.hold.ensures
    (tied_by w c.self.inside.cells.items c.exchange-taken.new.cells.items c.self.inside.sets.items c.self.inside.sets.items c.self.inside.plan c.self.inside.tasks.items (set c.self.inside.tasks.items c.args.t.0 c.hold.new.self) (Lift c.args.t) (Lifted c.exchange-taken.result) c.self.invariant
    (lift_possible w c.self.inside.cells.items c.exchange-taken.new.cells.items c.self.inside.sets.items c.self.inside.tasks.items c.args.t.0 c.index.result.now c.index_mut.result.now c.hold.new.self c.in-Some.hand c.with_due.result c.exchange-taken.result
    c.place.result.now.original lt c.index.ensures c.index_mut.ensures.value (sym c.in-Some.ensures) (ap (λ x. x.original) c.place.ensures.value) c.exchange-taken.ensures.taken c.exchange-taken.ensures.cells c.with_due.ensures c.hold.ensures))

pub returns : goal.returns
returns c =
    let w : World = record { job = c.self.inside.job.now; places = c.self.inside.tables.now.places } in
    let lt : c.args.t.0 < length c.self.inside.tasks.items = omega (arith, c.if-n-len.false, c.len.ensures) in
    let target : Stepped = record { parts = record { cells = c.exchange-taken.new.cells.items; sets = c.self.inside.sets.items; tasks = parts_of (set c.self.inside.tasks.items c.args.t.0 c.hold.new.self) }; shown = Lifted c.exchange-taken.result } in
    let possible =
    subst (λ (v : CoreView). of_existing v.parts c.args.t.0 (λ (u : TaskPart). option_map (lifted v.world v.parts c.args.t.0 u) (in_hand Lifting u.stage)) ≡ Some target) c.self.view_is
    (lift_possible w c.self.inside.cells.items c.exchange-taken.new.cells.items c.self.inside.sets.items c.self.inside.tasks.items c.args.t.0 c.index.result.now c.index_mut.result.now c.hold.new.self c.in-Some.hand c.with_due.result c.exchange-taken.result
    c.place.result.now.original lt c.index.ensures c.index_mut.ensures.value (sym c.in-Some.ensures) (ap (λ x. x.original) c.place.ensures.value) c.exchange-taken.ensures.taken c.exchange-taken.ensures.cells c.with_due.ensures c.hold.ensures) in
    record { possible = possible; refused = tt; kept = tt; world = ap (λ (v : CoreView). v.world) c.self.view_is }

pub returns-then-n-len : goal.returns-then-n-len
returns-then-n-len c =
    let most : length c.self.inside.tasks.items ≤ c.args.t.0 = omega (arith, c.if-n-len.true, c.len.ensures) in
    record {
      possible = tt;
      refused = none_missing c.args.self.now _ c.self.inside.cells.items c.self.inside.sets.items c.self.inside.tasks.items c.args.t.0 (λ (w : World) (p : Parts) (u : TaskPart). option_map (lifted w p c.args.t.0 u) (in_hand Lifting u.stage)) c.self.view_is most;
      kept = refl;
      world = refl;
    }

pub returns-in_default : goal.returns-in_default
returns-in_default c =
    let w : World = record { job = c.self.inside.job.now; places = c.self.inside.tables.now.places } in
    let P : Parts = record { cells = c.self.inside.cells.items; sets = c.self.inside.sets.items; tasks = parts_of c.self.inside.tasks.items } in
    let lt : c.args.t.0 < length c.self.inside.tasks.items = omega (arith, c.if-n-len.false, c.len.ensures) in
    record {
      possible = tt;
      refused = none_due c.args.self.now w c.self.inside.cells.items c.self.inside.sets.items c.self.inside.tasks.items c.args.t.0 c.index.result.now (λ (w : World) (p : Parts) (u : TaskPart). option_map (lifted w p c.args.t.0 u) (in_hand Lifting u.stage)) c.self.view_is lt c.index.ensures (ap (option_map (lifted w P c.args.t.0 c.index.result.now.part)) (sym c.in_default.ensures));
      kept = refl;
      world = refl;
    }
