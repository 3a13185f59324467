use Rattle.std.proofs.Common.{rules, ◌≡◌, Some, true, refl}
use Rattle.interleave_core.specs.Meaning.{controller_of}
use Rattle.interleave_core.proofs.Placing.{step_by}
use Rattle.interleave_core.proofs.interleaving.Core.close.Goals as goal

pub returns-in-Some : goal.returns-in-Some
returns-in-Some c =
    let by : controller_of c.args.self.now.world c.args.s.0 ≡ Some c.in-Some.t.0 = search rules in
    rw (step_by c.args.self.now.world c.args.self.now.parts true c.args.s c.args.p c.in-Some.t.0 _ by refl) c.change_by.ensures
