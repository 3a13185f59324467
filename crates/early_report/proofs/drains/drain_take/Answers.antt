use Rattle.std.proofs.Common.{◌≡◌, ◌<◌, true, List, length, All, sym, ◌∙◌, ap, subst, arith}
use Rattle.std.proofs.lemmas.List.{with_items_is}
use Rattle.cov_base.specs.Meaning.{FactSet}
use Rattle.cov_base.specs.declared.numbers.PlaceNo.{PlaceNo}
use Rattle.module_area.specs.Meaning.{places_under, PlanView}
use Rattle.module_area.specs.Notes.{Notes, is_final}
use Rattle.early_report.specs.DrainView.{DrainView}
use Rattle.early_report.specs.Drains.{IsDrainOf, Reads, is_over}
use Rattle.early_report.specs.declared.drains.Stage.TheVariants.{Taken}
use Rattle.early_report.proofs.ReadLemmas.{from_one, of_plan, places_of_plan, final_there}
use Rattle.early_report.proofs.TieLemmas.{taken_tied}
use Rattle.early_report.proofs.drains.drain_take.Goals as goal

pub read_all-requires-clause-session : goal.read_all-requires-clause-session
read_all-requires-clause-session g c = rw (ap (λ (d : DrainView). d.session) c.drain.view_is) (from_one c.args.plan.now c.args.drain.now.session c.places_under.ensures.plan c.requires.tied.closed.controlled)

pub read_all-requires-clause-of_plan : goal.read_all-requires-clause-of_plan
read_all-requires-clause-of_plan g c = rw (ap (λ (d : DrainView). d.session) c.drain.view_is, c.requires.plan) (of_plan c.args.plan.now c.args.drain.now.session c.places_under.ensures.plan c.requires.tied.closed.controlled)

pub read_all-requires-clause-places : goal.read_all-requires-clause-places
read_all-requires-clause-places g c =
    let same : c.places_under.result.now ≡ places_under c.args.plan.now c.args.drain.now.session = c.places_under.ensures.value ∙ ap (λ (d : DrainView). places_under c.args.plan.now d.session) c.drain.view_is in
    rw c.requires.plan (subst (All (λ (p : PlaceNo). p.0 < length c.args.plan.now.places)) (sym same) (places_of_plan c.args.plan.now c.args.drain.now.session c.places_under.ensures.plan c.requires.tied.closed.controlled))

pub read_all-requires-clause-finals : goal.read_all-requires-clause-finals
read_all-requires-clause-finals g c =
    let n : Notes = g.C.Cells.notes c.args.pass.now in
    let same : c.places_under.result.now ≡ places_under c.args.plan.now c.args.drain.now.session = c.places_under.ensures.value ∙ ap (λ (d : DrainView). places_under c.args.plan.now d.session) c.drain.view_is in
    rw (ap (λ (d : DrainView). d.session) c.drain.view_is, c.requires.plan) (subst (All (λ (p : PlaceNo). is_final c.args.plan.now n c.args.drain.now.session p.0 ≡ true)) (sym same)
    (final_there c.args.plan.now n c.args.drain.now c.requires.tied (ap is_over c.requires.drained)))

pub returns-clause-tied : goal.returns-clause-tied
returns-clause-tied g c =
    let plan : PlanView = c.args.plan.now in
    let old : Notes = g.C.Cells.notes c.args.pass.now in
    let new : Notes = g.C.Cells.notes c.read_all.new.pass in
    let d : DrainView = c.args.drain.now in
    let xs : List FactSet = c.read_all.new.sets in
    let session : c.drain.inside.session.0 ≡ d.session = ap (λ (d : DrainView). d.session) c.drain.view_is in
    let same : c.places_under.result.now ≡ places_under plan d.session = c.places_under.ensures.value ∙ ap (places_under plan) session in
    let reads : Reads plan d.session old new (places_under plan d.session) xs =
    subst (λ (ps : List PlaceNo). Reads plan d.session old new ps xs) same (subst (λ s. Reads plan s old new c.places_under.result.now xs) session (subst (λ (p : PlanView). Reads p c.drain.inside.session.0 old new c.places_under.result.now xs) c.requires.plan c.read_all.ensures.reads)) in
    let size : length xs ≡ length (places_under plan d.session) = c.read_all.ensures.known.size ∙ ap (λ (ps : List PlaceNo). length ps) same in
    let whole = with_items_is c.drain.inside.sets c.read_all.new.sets (let e = c.read_all.auto.sets in let f = c.deref_mut.ensures.len in omega (arith, e, f)) in
    subst (IsDrainOf plan new) (sym (λ i. record (c.drain.view_is i) { stage = Taken; sets = whole i }))
    (taken_tied plan old new d xs c.requires.tied (ap is_over c.requires.drained) reads size)
