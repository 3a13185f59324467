use Rattle.std.proofs.Common.{subst}
use Rattle.interleave_core.specs.Results.{Fits}
use Rattle.interleave_core.specs.World.{IsWorld}
use Rattle.interleave_core.specs.Views.{CoreView, AreSteady}
use Rattle.interleave_core.proofs.Starts.{Fits-core, IsWorld-core, steady_core}
use Rattle.interleave_core.proofs.interleaving.Core.fits.Goals as goal

pub returns-clause-fits : goal.returns-clause-fits
returns-clause-fits c = subst (λ (v : CoreView). Fits v.world v.parts) c.self.view_is (Fits-core _ c.self.inside.cells.items c.self.inside.sets.items _ c.self.inside.tasks.items c.self.invariant)

pub returns-clause-world : goal.returns-clause-world
returns-clause-world c = subst (λ (v : CoreView). IsWorld v.world) c.self.view_is (IsWorld-core _ c.self.inside.cells.items c.self.inside.sets.items _ c.self.inside.tasks.items c.self.invariant)

pub returns-clause-steady : goal.returns-clause-steady
returns-clause-steady c = subst (λ (v : CoreView). AreSteady v.world v.parts) c.self.view_is (steady_core _ c.self.inside.cells.items c.self.inside.sets.items _ c.self.inside.tasks.items c.self.invariant)
