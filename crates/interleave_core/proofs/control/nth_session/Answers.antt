use Rattle.std.proofs.Common.{slice_get, ◌∙◌, ap}
use Rattle.interleave_core.specs.Views.{controlled_by}
use Rattle.interleave_core.proofs.ControlLemmas.{session_room}
use Rattle.interleave_core.proofs.control.nth_session.Goals as goal

pub returns-clause-room : goal.returns-clause-room
returns-clause-room c = λ some.
    session_room _ (λ s. s.now) _ c.args.t.0 c.args.n c.nth_of.result c.plan.invariant (c.nth_of.ensures ∙ ap (λ cs. slice_get (controlled_by c.args.t.0 cs) c.args.n) c.deref.ensures.value) some
