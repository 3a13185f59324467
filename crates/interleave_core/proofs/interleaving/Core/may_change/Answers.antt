use Rattle.std.proofs.Common.{◌<◌, length, refl, sym, subst, arith}
use Rattle.interleave_core.specs.Meaning.{World}
use Rattle.interleave_core.specs.Views.{CoreView, IsPlaced}
use Rattle.interleave_core.proofs.Kept.{read_running}
use Rattle.interleave_core.proofs.Placing.{placed}
use Rattle.interleave_core.proofs.interleaving.Core.may_change.Goals as goal

pub may_follow-requires : goal.may_follow-requires
may_follow-requires c =
    let w : World = record { job = c.self.inside.job.now; places = c.self.inside.tables.now.places } in
    let lt : c.args.t.0 < length c.self.inside.tasks.items = omega (arith, c.if-n-len.false, c.len.ensures) in
    let runs = read_running w c.self.inside.cells.items c.self.inside.sets.items c.self.inside.plan c.self.inside.tasks.items c.args.t.0 c.index.result.now c.self.invariant lt c.index.ensures in
    let here = placed w c.self.inside.cells.items c.self.inside.sets.items c.self.inside.plan c.self.inside.tasks.items c.args.t.0 c.args.s.0 c.args.p.0 c.index.result.now _ c.self.invariant lt c.index.ensures
    (sym (c.in-Some.ensures w c.self.invariant.same_plan refl runs)) c.if-x-s.false c.if-x-p.false in
    (subst (λ (v : CoreView). IsPlaced v.world v.parts c.args.t.0 c.args.s.0 c.args.p.0) c.self.view_is here).inside

pub returns-clause-placed : goal.returns-clause-placed
returns-clause-placed c = λ _.
    let w : World = record { job = c.self.inside.job.now; places = c.self.inside.tables.now.places } in
    let lt : c.args.t.0 < length c.self.inside.tasks.items = omega (arith, c.if-n-len.false, c.len.ensures) in
    let runs = read_running w c.self.inside.cells.items c.self.inside.sets.items c.self.inside.plan c.self.inside.tasks.items c.args.t.0 c.index.result.now c.self.invariant lt c.index.ensures in
    let here = placed w c.self.inside.cells.items c.self.inside.sets.items c.self.inside.plan c.self.inside.tasks.items c.args.t.0 c.args.s.0 c.args.p.0 c.index.result.now _ c.self.invariant lt c.index.ensures
    (sym (c.in-Some.ensures w c.self.invariant.same_plan refl runs)) c.if-x-s.false c.if-x-p.false in
    subst (λ (v : CoreView). IsPlaced v.world v.parts c.args.t.0 c.args.s.0 c.args.p.0) c.self.view_is here
