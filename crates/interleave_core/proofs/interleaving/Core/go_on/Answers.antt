use Rattle.std.proofs.Common.{◌≡◌, ◌<◌, sym, ◌∙◌, refl, subst}
use Rattle.module_area.specs.Rule.{IsPlan}
use Rattle.interleave_core.specs.Meaning.{World, plan_in, most_events}
use Rattle.interleave_core.proofs.GoingLemmas.{left, gone_by, next_less, go_next}
use Rattle.interleave_core.proofs.interleaving.Core.go_on.Goals as goal

pub loop-event-smaller : goal.loop-event-smaller
loop-event-smaller c =
    let w = c.loop-event.self.world in
    let plan : IsPlan (plan_in w) = subst (λ (v : World). IsPlan (plan_in v)) (sym c.loop-event.invariant.world) c.fits.ensures.world.is_plan in
    let less = next_less w c.loop-event.self.parts c.args.t c.in-Some.event _ plan (sym c.next.ensures.value ∙ c.in-Some.is) c.in-Ok.ensures.possible in
    subst (λ (v : World). left v c.apply.new.self.parts c.args.t.0 < left w c.loop-event.self.parts c.args.t.0) (sym c.in-Ok.ensures.world) less

pub loop-event-preserved : goal.loop-event-preserved
loop-event-preserved c =
    let w = c.loop-event.self.world in
    let plan : IsPlan (plan_in w) = subst (λ (v : World). IsPlan (plan_in v)) (sym c.loop-event.invariant.world) c.fits.ensures.world.is_plan in
    let next = go_next w c.loop-event.self.parts c.apply.new.self.parts c.args.t c.in-Some.event _ plan (sym c.next.ensures.value ∙ c.in-Some.is) c.in-Ok.ensures.possible refl in
    record {
      world = c.in-Ok.ensures.world ∙ c.loop-event.invariant.world;
      goes = subst (λ (v : World). gone_by c.args.self.now.world (most_events c.args.self.now.world c.args.t.0) c.args.self.now.parts c.args.t ≡ gone_by v (most_events v c.args.t.0) c.apply.new.self.parts c.args.t) (sym c.in-Ok.ensures.world) (c.loop-event.invariant.goes ∙ next);
    }
