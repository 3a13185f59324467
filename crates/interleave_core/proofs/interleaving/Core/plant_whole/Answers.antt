use Rattle.std.proofs.Common.{◌<◌, length, sym, ◌∙◌, arith}
use Rattle.interleave_core.specs.Meaning.{World}
use Rattle.interleave_core.proofs.Placing.{window_core}
use Rattle.interleave_core.proofs.interleaving.Core.plant_whole.Goals as goal

pub invariant_of-self : goal.invariant_of-self
invariant_of-self c =
    let w : World = record { job = c.self.inside.job.now; places = c.self.inside.tables.now.places } in
    let lt : c.args.p.0 < length c.self.inside.cells.items = omega (arith, c.if-n-len.false, c.len.ensures) in
    let some : 0 < c.args.s.0 = omega (arith, c.if-s-eq0.false) in
    window_core w c.self.inside.cells.items c.self.inside.sets.items c.self.inside.plan c.self.inside.tasks.items c.args.s.0 c.args.p.0 c.breakpoint_of.result c.self.invariant lt some
    (sym c.window.ensures.value ∙ c.if-window-s.false) c.breakpoint_of.ensures
