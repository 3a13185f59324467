use Rattle.std.proofs.Common.{◌≡◌, ◌<◌, length, set, Some, refl, ap, subst, arith, option_map}
use Rattle.interleave_core.specs.Meaning.{World, Stepped, of_existing, TaskPart, done_by, task_done}
use Rattle.interleave_core.specs.Views.{CoreView, parts_of}
use Rattle.interleave_core.specs.declared.events.Event.TheVariants.{Do}
use Rattle.interleave_core.specs.declared.events.Shown.TheVariants.{Done}
use Rattle.interleave_core.proofs.Kept.{read_running, run_possible, ran_core, tied_by}
use Rattle.interleave_core.proofs.interleaving.Core.run.Goals as goal

pub invariant_of-self-2 : goal.invariant_of-self-2
invariant_of-self-2 c =
    let w : World = record { job = c.self.inside.job.now; places = c.self.inside.tables.now.places } in
    let lt : c.args.t.0 < length c.self.inside.tasks.items = omega (arith, c.if-n-len.false, c.len.ensures) in
    let runs = read_running w c.self.inside.cells.items c.self.inside.sets.items c.self.inside.plan c.self.inside.tasks.items c.args.t.0 c.index_mut.result.now c.self.invariant lt c.index_mut.ensures.value in
    ran_core w _ _ _ _ c.args.t.0 c.index_mut.result.now c.run.new.self c.self.invariant lt c.index_mut.ensures.value (c.in-Ok.ensures.done w c.self.invariant.same_plan refl runs) (c.run.ensures.running w runs)
    (tied_by w c.self.inside.cells.items c.self.inside.cells.items c.self.inside.sets.items c.self.inside.sets.items c.self.inside.plan c.self.inside.tasks.items (set c.self.inside.tasks.items c.args.t.0 c.run.new.self) (Do c.args.t) Done c.self.invariant
    (run_possible w c.self.inside.cells.items c.self.inside.sets.items c.self.inside.tasks.items c.args.t.0 c.index_mut.result.now c.run.new.self lt c.index_mut.ensures.value (c.in-Ok.ensures.done w c.self.invariant.same_plan refl runs)))

pub returns : goal.returns
returns c =
    let w : World = record { job = c.self.inside.job.now; places = c.self.inside.tables.now.places } in
    let lt : c.args.t.0 < length c.self.inside.tasks.items = omega (arith, c.if-n-len.false, c.len.ensures) in
    let runs = read_running w c.self.inside.cells.items c.self.inside.sets.items c.self.inside.plan c.self.inside.tasks.items c.args.t.0 c.index_mut.result.now c.self.invariant lt c.index_mut.ensures.value in
    let target : Stepped = record { parts = record { cells = c.self.inside.cells.items; sets = c.self.inside.sets.items; tasks = parts_of (set c.self.inside.tasks.items c.args.t.0 c.run.new.self) }; shown = Done } in
    let possible =
    subst (λ (v : CoreView). of_existing v.parts c.args.t.0 (λ (u : TaskPart). option_map (done_by v.parts c.args.t.0) (task_done v.world c.args.t.0 u u.stage)) ≡ Some target) c.self.view_is
    (run_possible w c.self.inside.cells.items c.self.inside.sets.items c.self.inside.tasks.items c.args.t.0 c.index_mut.result.now c.run.new.self lt c.index_mut.ensures.value (c.in-Ok.ensures.done w c.self.invariant.same_plan refl runs)) in
    record { possible = possible; refused = tt; kept = tt; world = ap (λ (v : CoreView). v.world) c.self.view_is }
