use Rattle.std.proofs.Common.{◌≡◌, ◌<◌, ℕ, List, length, sym, ◌∙◌, ap, subst, arith}
use Rattle.space_map.proofs.Laws.{row_range}
use Rattle.interleave_core.specs.Meaning.{results_of, Parts}
use Rattle.interleave_core.specs.Views.{CoreView, RunningView, parts_of}
use Rattle.interleave_core.proofs.Starts.{bytes_read}
use Rattle.interleave_core.proofs.interleaving.CoreResults.row.Goals as goal

pub returns : goal.returns
returns c =
    let P : Parts = record { cells = c.self.inside.cells.items; sets = c.self.inside.sets.items; tasks = parts_of c.self.inside.tasks.items } in
    let tasks : length c.args.self.now.world.job.tasks ≡ length c.self.inside.tasks.items = sym (subst (λ (v : CoreView). length c.self.inside.tasks.items ≡ length v.world.job.tasks) c.self.view_is c.self.invariant.count) in
    let lt : c.args.t.0 < length c.self.inside.tasks.items = subst (λ (n : ℕ). c.args.t.0 < n) tasks c.requires.task in
    let found : (results_of P c.args.t.0).bytes ≡ c.index.result.now.part.state.machine.bytes =
    bytes_read c.self.inside.cells.items c.self.inside.sets.items c.self.inside.tasks.items c.args.t.0 c.index.result.now lt c.index.ensures in
    let same : (results_of c.args.self.now.parts c.args.t.0).bytes ≡ c.index.result.now.part.state.machine.bytes =
    subst (λ (v : CoreView). (results_of v.parts c.args.t.0).bytes ≡ c.index.result.now.part.state.machine.bytes) c.self.view_is found in
    let own : c.index.result.now.part.state.machine.bytes ≡ c.behind-self.inside.space.bytes = ap (λ (r : RunningView). r.part.state.machine.bytes) (sym c.behind-self.view_is) in
    rw (same ∙ own) (c.row.ensures ∙ row_range c.behind-self.inside.space.bytes c.args.n (omega (arith, c.requires.exists, ap (λ (b : List ℕ). length b) (same ∙ own))))
