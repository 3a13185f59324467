use Rattle.std.proofs.Common.{rules, ◌≡◌, Some, None, false, refl}
use Rattle.interleave_core.specs.Meaning.{controller_of}
use Rattle.interleave_core.proofs.Placing.{step_by, step_whole}
use Rattle.interleave_core.proofs.interleaving.Core.plant.Goals as goal

pub returns-in-Some : goal.returns-in-Some
returns-in-Some c =
    let by : controller_of c.args.self.now.world c.args.s.0 ≡ Some c.in-Some.t.0 = search rules in
    rw (step_by c.args.self.now.world c.args.self.now.parts false c.args.s c.args.p c.in-Some.t.0 _ by refl) c.change_by.ensures

pub returns-in-None : goal.returns-in-None
returns-in-None c =
    let none : controller_of c.args.self.now.world c.args.s.0 ≡ None = search rules in
    rw (step_whole c.args.self.now.world c.args.self.now.parts c.args.s c.args.p _ none refl) c.plant_whole.ensures
