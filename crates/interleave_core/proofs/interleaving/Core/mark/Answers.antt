use Rattle.std.proofs.Common.{◌≡◌, ℕ, ◌+◌, ◌*◌, ◌/◌, ◌<◌, length, set, Some, ap, sym, ◌∙◌, subst, arith, option_map, ◌≤◌, refl}
use Rattle.cov_base.specs.Meaning.{with_fact}
use Rattle.interleave_core.specs.Meaning.{World, Parts, Stepped, of_existing, TaskPart, fact_marked, in_hand}
use Rattle.interleave_core.specs.Views.{CoreView, parts_of}
use Rattle.interleave_core.specs.declared.events.Event.TheVariants.{Mark}
use Rattle.interleave_core.specs.declared.events.Shown.TheVariants.{Marked}
use Rattle.interleave_core.specs.declared.stage.Due.TheVariants.{Marking}
use Rattle.interleave_core.proofs.Kept.{read_running, hand_due, mark_index, mark_fits, marked_core, mark_possible, none_missing, none_due, tied_by}
use Rattle.interleave_core.proofs.interleaving.Core.mark.Goals as goal

pub index-found-requires : goal.index-found-requires
index-found-requires c =
    let w : World = record { job = c.self.inside.job.now; places = c.self.inside.tables.now.places } in
    let lt : c.args.t.0 < length c.self.inside.tasks.items = omega (arith, c.if-n-len.false, c.len.ensures) in
    let due = hand_due w c.self.inside.cells.items c.self.inside.sets.items c.self.inside.plan c.self.inside.tasks.items c.args.t.0 c.index-task.result.now Marking c.in-Some.hand c.self.invariant lt c.index-task.ensures (sym c.in-Some.ensures) (λ e. absurd cc) in
    let at = mark_index w c.self.inside.cells.items c.self.inside.sets.items c.self.inside.plan c.self.inside.tasks.items c.args.t.0 c.index-task.result.now.part c.in-Some.hand c.len-2.result c.self.invariant due (c.len-2.ensures ∙ c.self.inside.cells.ok.0) in
    subst (λ (n : ℕ). c.in-Some.hand.cell.tag / 2 * c.len-2.result + c.in-Some.hand.place.0 < n) (sym c.self.inside.sets.ok.0)
    (subst (λ (i : ℕ). i < length c.self.inside.sets.items) (sym at) (mark_fits w c.self.inside.cells.items c.self.inside.sets.items c.self.inside.plan c.self.inside.tasks.items c.args.t.0 c.index-task.result.now.part c.in-Some.hand c.self.invariant due))

pub index_mut-requires : goal.index_mut-requires
index_mut-requires c =
    let w : World = record { job = c.self.inside.job.now; places = c.self.inside.tables.now.places } in
    let lt : c.args.t.0 < length c.self.inside.tasks.items = omega (arith, c.if-n-len.false, c.len.ensures) in
    let due = hand_due w c.self.inside.cells.items c.self.inside.sets.items c.self.inside.plan c.self.inside.tasks.items c.args.t.0 c.index-task.result.now Marking c.in-Some.hand c.self.invariant lt c.index-task.ensures (sym c.in-Some.ensures) (λ e. absurd cc) in
    let at = mark_index w c.self.inside.cells.items c.self.inside.sets.items c.self.inside.plan c.self.inside.tasks.items c.args.t.0 c.index-task.result.now.part c.in-Some.hand c.len-2.result c.self.invariant due (c.len-2.ensures ∙ c.self.inside.cells.ok.0) in
    subst (λ (n : ℕ). c.in-Some.hand.cell.tag / 2 * c.len-2.result + c.in-Some.hand.place.0 < n) (sym c.self.inside.sets.ok.0)
    (subst (λ (i : ℕ). i < length c.self.inside.sets.items) (sym at) (mark_fits w c.self.inside.cells.items c.self.inside.sets.items c.self.inside.plan c.self.inside.tasks.items c.args.t.0 c.index-task.result.now.part c.in-Some.hand c.self.invariant due))

pub invariant_of-self : goal.invariant_of-self
invariant_of-self c =
    let w : World = record { job = c.self.inside.job.now; places = c.self.inside.tables.now.places } in
    let lt : c.args.t.0 < length c.self.inside.tasks.items = omega (arith, c.if-n-len.false, c.len.ensures) in
    let due = hand_due w c.self.inside.cells.items c.self.inside.sets.items c.self.inside.plan c.self.inside.tasks.items c.args.t.0 c.index-task.result.now Marking c.in-Some.hand c.self.invariant lt c.index-task.ensures (sym c.in-Some.ensures) (λ e. absurd cc) in
    let at = mark_index w c.self.inside.cells.items c.self.inside.sets.items c.self.inside.plan c.self.inside.tasks.items c.args.t.0 c.index-task.result.now.part c.in-Some.hand c.len-2.result c.self.invariant due (c.len-2.ensures ∙ c.self.inside.cells.ok.0) in
    let runs = read_running w c.self.inside.cells.items c.self.inside.sets.items c.self.inside.plan c.self.inside.tasks.items c.args.t.0 c.index-task.result.now c.self.invariant lt c.index-task.ensures in
    marked_core w _ _ _ _ c.args.t.0 c.index-task.result.now c.index_mut-2.result.now c.hold.new.self c.in-Some.hand c.with_due.result c.due_after_mark.result _ c.index-found.result.now c.with-facts.result
    c.place.result.now.kind c.went-went.result c.self.invariant lt c.index-task.ensures c.index_mut-2.ensures.value due at c.index-found.ensures (ap (λ x. x.kind) c.place.ensures.value)
    (c.with-facts.ensures ∙ ap (with_fact c.index-found.result.now) c.fact.ensures) c.with_due.ensures c.hold.ensures
    (tied_by w c.self.inside.cells.items c.self.inside.cells.items c.self.inside.sets.items (set c.self.inside.sets.items (c.in-Some.hand.cell.tag / 2 * c.len-2.result + c.in-Some.hand.place.0) c.with-facts.result) c.self.inside.plan c.self.inside.tasks.items (set c.self.inside.tasks.items c.args.t.0 c.hold.new.self) (Mark c.args.t) (Marked c.index-found.result.now) c.self.invariant
    (mark_possible w c.self.inside.cells.items c.self.inside.sets.items c.self.inside.plan c.self.inside.tasks.items c.args.t.0 c.index-task.result.now c.index_mut-2.result.now c.index-task.result.now c.hold.new.self c.in-Some.hand c.with_due.result c.due_after_mark.result (c.in-Some.hand.cell.tag / 2 * c.len-2.result + c.in-Some.hand.place.0)
    c.index-found.result.now c.with-facts.result c.place.result.now.kind c.went-went.result c.self.invariant lt c.index-task.ensures c.index_mut-2.ensures.value c.index-task.ensures (sym c.in-Some.ensures) due at c.index-found.ensures
    (ap (λ x. x.kind) c.place.ensures.value) (c.with-facts.ensures ∙ ap (with_fact c.index-found.result.now) c.fact.ensures) (c.went-went.ensures w c.args.t.0 runs) c.due_after_mark.ensures c.with_due.ensures c.hold.ensures))

pub returns : goal.returns
returns c =
    let w : World = record { job = c.self.inside.job.now; places = c.self.inside.tables.now.places } in
    let lt : c.args.t.0 < length c.self.inside.tasks.items = omega (arith, c.if-n-len.false, c.len.ensures) in
    let due = hand_due w c.self.inside.cells.items c.self.inside.sets.items c.self.inside.plan c.self.inside.tasks.items c.args.t.0 c.index-task.result.now Marking c.in-Some.hand c.self.invariant lt c.index-task.ensures (sym c.in-Some.ensures) (λ e. absurd cc) in
    let at = mark_index w c.self.inside.cells.items c.self.inside.sets.items c.self.inside.plan c.self.inside.tasks.items c.args.t.0 c.index-task.result.now.part c.in-Some.hand c.len-2.result c.self.invariant due (c.len-2.ensures ∙ c.self.inside.cells.ok.0) in
    let runs = read_running w c.self.inside.cells.items c.self.inside.sets.items c.self.inside.plan c.self.inside.tasks.items c.args.t.0 c.index-task.result.now c.self.invariant lt c.index-task.ensures in
    let target : Stepped = record { parts = record { cells = c.self.inside.cells.items; sets = set c.self.inside.sets.items (c.in-Some.hand.cell.tag / 2 * c.len-2.result + c.in-Some.hand.place.0) c.with-facts.result; tasks = parts_of (set c.self.inside.tasks.items c.args.t.0 c.hold.new.self) }; shown = Marked c.index-found.result.now } in
    let possible =
    subst (λ (v : CoreView). of_existing v.parts c.args.t.0 (λ (u : TaskPart). option_map (fact_marked v.world v.parts c.args.t.0 u) (in_hand Marking u.stage)) ≡ Some target) c.self.view_is
    (mark_possible w c.self.inside.cells.items c.self.inside.sets.items c.self.inside.plan c.self.inside.tasks.items c.args.t.0 c.index-task.result.now c.index_mut-2.result.now c.index-task.result.now c.hold.new.self c.in-Some.hand c.with_due.result c.due_after_mark.result (c.in-Some.hand.cell.tag / 2 * c.len-2.result + c.in-Some.hand.place.0)
    c.index-found.result.now c.with-facts.result c.place.result.now.kind c.went-went.result c.self.invariant lt c.index-task.ensures c.index_mut-2.ensures.value c.index-task.ensures (sym c.in-Some.ensures) due at c.index-found.ensures
    (ap (λ x. x.kind) c.place.ensures.value) (c.with-facts.ensures ∙ ap (with_fact c.index-found.result.now) c.fact.ensures) (c.went-went.ensures w c.args.t.0 runs) c.due_after_mark.ensures c.with_due.ensures c.hold.ensures) in
    record { possible = possible; refused = tt; kept = tt; world = ap (λ (v : CoreView). v.world) c.self.view_is }

pub returns-then-n-len : goal.returns-then-n-len
returns-then-n-len c =
    let most : length c.self.inside.tasks.items ≤ c.args.t.0 = omega (arith, c.if-n-len.true, c.len.ensures) in
    record {
      possible = tt;
      refused = none_missing c.args.self.now _ c.self.inside.cells.items c.self.inside.sets.items c.self.inside.tasks.items c.args.t.0 (λ (w : World) (p : Parts) (u : TaskPart). option_map (fact_marked w p c.args.t.0 u) (in_hand Marking u.stage)) c.self.view_is most;
      kept = refl;
      world = refl;
    }

pub returns-in_default : goal.returns-in_default
returns-in_default c =
    let w : World = record { job = c.self.inside.job.now; places = c.self.inside.tables.now.places } in
    let P : Parts = record { cells = c.self.inside.cells.items; sets = c.self.inside.sets.items; tasks = parts_of c.self.inside.tasks.items } in
    let lt : c.args.t.0 < length c.self.inside.tasks.items = omega (arith, c.if-n-len.false, c.len.ensures) in
    record {
      possible = tt;
      refused = none_due c.args.self.now w c.self.inside.cells.items c.self.inside.sets.items c.self.inside.tasks.items c.args.t.0 c.index-task.result.now (λ (w : World) (p : Parts) (u : TaskPart). option_map (fact_marked w p c.args.t.0 u) (in_hand Marking u.stage)) c.self.view_is lt c.index-task.ensures (ap (option_map (fact_marked w P c.args.t.0 c.index-task.result.now.part)) (sym c.in_default.ensures));
      kept = refl;
      world = refl;
    }
