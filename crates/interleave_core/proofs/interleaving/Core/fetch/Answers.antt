use Rattle.std.proofs.Common.{◌≡◌, ◌<◌, false, length, set, Some, sym, refl, ap, subst, arith, option_map, ◌≤◌}
use Rattle.interleave_core.specs.Meaning.{World, Parts, Stepped, of_existing, place_due, is_spent, TaskPart, cell_fetched}
use Rattle.interleave_core.specs.Views.{RunningView, CoreView, parts_of}
use Rattle.interleave_core.specs.declared.events.Event.TheVariants.{Fetch}
use Rattle.interleave_core.specs.declared.events.Shown.TheVariants.{Fetched}
use Rattle.interleave_core.proofs.Kept.{held_core, read_running, read_stage, same_read, due_unspent, fetched_hand, fetch_possible, none_missing, none_due, tied_by}
use Rattle.interleave_core.proofs.interleaving.Core.fetch.Goals as goal

pub invariant_of-self : goal.invariant_of-self
invariant_of-self c =
    let w : World = record { job = c.self.inside.job.now; places = c.self.inside.tables.now.places } in
    let lt : c.args.t.0 < length c.self.inside.tasks.items = omega (arith, c.if-n-len.false, c.len.ensures) in
    let runs = read_running _ _ _ _ _ c.args.t.0 c.index-task.result.now c.self.invariant lt c.index-task.ensures in
    let at : place_due w c.args.t.0 c.index-task.result.now.part c.index-task.result.now.part.stage ≡ Some c.in-Some.place.0 = sym (c.in-Some.ensures.value w c.args.t.0 refl runs) in
    let unspent = due_unspent w c.args.t.0 c.index-task.result.now.part c.index-task.result.now.part.stage c.in-Some.place.0 (read_stage _ _ _ _ _ c.args.t.0 c.index-task.result.now c.self.invariant lt c.index-task.ensures) at in
    let p_in : c.in-Some.place.0 < length c.self.inside.cells.items = subst (λ n. c.in-Some.place.0 < n) (sym c.self.invariant.cell_count) c.in-Some.ensures.exists in
    held_core w _ _ _ _ c.args.t.0 c.index_mut.result.now c.hold.new.self _ c.self.invariant lt c.index_mut.ensures.value c.hold.ensures
    (subst (λ (x : RunningView). is_spent w c.args.t.0 x.part.state ≡ false) (same_read _ _ _ _ lt c.index-task.ensures c.index_mut.ensures.value) unspent)
    (fetched_hand w _ _ _ _ c.is_awaiting-subject.result c.in-Some.place c.index-cell.result.now c.due_after_fetch-due.result c.self.invariant c.in-Some.ensures.exists c.index-cell.ensures (c.due_after_fetch-due.ensures w refl))
    (tied_by w c.self.inside.cells.items c.self.inside.cells.items c.self.inside.sets.items c.self.inside.sets.items c.self.inside.plan c.self.inside.tasks.items (set c.self.inside.tasks.items c.args.t.0 c.hold.new.self) (Fetch c.args.t) (Fetched c.index-cell.result.now) c.self.invariant
    (fetch_possible w c.self.inside.cells.items c.self.inside.sets.items c.self.inside.tasks.items c.args.t.0 c.index-task.result.now c.index_mut.result.now c.index-task.result.now c.hold.new.self c.is_awaiting-subject.result c.in-Some.place
    c.index-cell.result.now c.due_after_fetch-due.result lt c.index-task.ensures c.index_mut.ensures.value c.index-task.ensures at c.is_awaiting-subject.ensures p_in c.index-cell.ensures
    (c.due_after_fetch-due.ensures w refl) c.hold.ensures))

pub returns : goal.returns
returns c =
    let w : World = record { job = c.self.inside.job.now; places = c.self.inside.tables.now.places } in
    let lt : c.args.t.0 < length c.self.inside.tasks.items = omega (arith, c.if-n-len.false, c.len.ensures) in
    let runs = read_running w c.self.inside.cells.items c.self.inside.sets.items c.self.inside.plan c.self.inside.tasks.items c.args.t.0 c.index-task.result.now c.self.invariant lt c.index-task.ensures in
    let at : place_due w c.args.t.0 c.index-task.result.now.part c.index-task.result.now.part.stage ≡ Some c.in-Some.place.0 = sym (c.in-Some.ensures.value w c.args.t.0 refl runs) in
    let p_in : c.in-Some.place.0 < length c.self.inside.cells.items = subst (λ n. c.in-Some.place.0 < n) (sym c.self.invariant.cell_count) c.in-Some.ensures.exists in
    let target : Stepped = record { parts = record { cells = c.self.inside.cells.items; sets = c.self.inside.sets.items; tasks = parts_of (set c.self.inside.tasks.items c.args.t.0 c.hold.new.self) }; shown = Fetched c.index-cell.result.now } in
    let possible =
    subst (λ (v : CoreView). of_existing v.parts c.args.t.0 (λ (u : TaskPart). option_map (cell_fetched v.world v.parts c.args.t.0 u) (place_due v.world c.args.t.0 u u.stage)) ≡ Some target) c.self.view_is
    (fetch_possible w c.self.inside.cells.items c.self.inside.sets.items c.self.inside.tasks.items c.args.t.0 c.index-task.result.now c.index_mut.result.now c.index-task.result.now c.hold.new.self c.is_awaiting-subject.result c.in-Some.place
    c.index-cell.result.now c.due_after_fetch-due.result lt c.index-task.ensures c.index_mut.ensures.value c.index-task.ensures at c.is_awaiting-subject.ensures p_in c.index-cell.ensures
    (c.due_after_fetch-due.ensures w refl) c.hold.ensures) in
    record { possible = possible; refused = tt; kept = tt; world = ap (λ (v : CoreView). v.world) c.self.view_is }

pub returns-then-n-len : goal.returns-then-n-len
returns-then-n-len c =
    let most : length c.self.inside.tasks.items ≤ c.args.t.0 = omega (arith, c.if-n-len.true, c.len.ensures) in
    record {
      possible = tt;
      refused = none_missing c.args.self.now _ c.self.inside.cells.items c.self.inside.sets.items c.self.inside.tasks.items c.args.t.0 (λ (w : World) (p : Parts) (u : TaskPart). option_map (cell_fetched w p c.args.t.0 u) (place_due w c.args.t.0 u u.stage)) c.self.view_is most;
      kept = refl;
      world = refl;
    }

pub returns-in_default : goal.returns-in_default
returns-in_default c =
    let w : World = record { job = c.self.inside.job.now; places = c.self.inside.tables.now.places } in
    let P : Parts = record { cells = c.self.inside.cells.items; sets = c.self.inside.sets.items; tasks = parts_of c.self.inside.tasks.items } in
    let lt : c.args.t.0 < length c.self.inside.tasks.items = omega (arith, c.if-n-len.false, c.len.ensures) in
    let runs = read_running w c.self.inside.cells.items c.self.inside.sets.items c.self.inside.plan c.self.inside.tasks.items c.args.t.0 c.index-task.result.now c.self.invariant lt c.index-task.ensures in
    record {
      possible = tt;
      refused = none_due c.args.self.now w c.self.inside.cells.items c.self.inside.sets.items c.self.inside.tasks.items c.args.t.0 c.index-task.result.now (λ (w : World) (p : Parts) (u : TaskPart). option_map (cell_fetched w p c.args.t.0 u) (place_due w c.args.t.0 u u.stage)) c.self.view_is lt c.index-task.ensures (ap (option_map (cell_fetched w P c.args.t.0 c.index-task.result.now.part)) (sym (c.in_default.ensures.value w c.args.t.0 refl runs)));
      kept = refl;
      world = refl;
    }
