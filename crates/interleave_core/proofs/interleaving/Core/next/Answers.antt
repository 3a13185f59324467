use Rattle.std.proofs.Common.{◌≡◌, ◌<◌, Option, IfSome, length, sym, ◌∙◌, refl, ap, subst, arith}
use Rattle.std.proofs.lemmas.Bool.{ltb-true}
use Rattle.interleave_core.specs.Meaning.{World, Parts, part_of, next_of, stage_event}
use Rattle.interleave_core.specs.Results.{IsDue}
use Rattle.interleave_core.specs.Views.{CoreView, parts_of}
use Rattle.interleave_core.specs.declared.events.Event.{Event}
use Rattle.interleave_core.proofs.Nexts.{next_possible, next_only, next_there}
use Rattle.interleave_core.proofs.Starts.{stage_read, exists_read, part_read}
use Rattle.interleave_core.proofs.Kept.{read_running}
use Rattle.interleave_core.proofs.interleaving.Core.next.Goals as goal

pub returns-clause-possible : goal.returns-clause-possible
returns-clause-possible c =
    let w : World = record { job = c.self.inside.job.now; places = c.self.inside.tables.now.places } in
    let P : Parts = record { cells = c.self.inside.cells.items; sets = c.self.inside.sets.items; tasks = parts_of c.self.inside.tasks.items } in
    let lt : c.args.t.0 < length c.self.inside.tasks.items = omega (arith, c.if-n-len.false, c.len.ensures) in
    let runs = read_running w c.self.inside.cells.items c.self.inside.sets.items c.self.inside.plan c.self.inside.tasks.items c.args.t.0 c.index.result.now c.self.invariant lt c.index.ensures in
    let part = part_read c.self.inside.tasks.items c.args.t.0 c.index.result.now lt c.index.ensures in
    let is : c.next.result ≡ stage_event w c.args.t (part_of P c.args.t.0) (part_of P c.args.t.0).stage =
    c.next.ensures w c.self.invariant.same_plan refl runs ∙ ap (λ u. stage_event w c.args.t u u.stage) (sym part) in
    subst (λ (v : CoreView). IfSome c.next.result (IsDue v.world v.parts c.args.t.0)) c.self.view_is
    (subst (λ (o : Option Event). IfSome o (IsDue w P c.args.t.0)) (sym is)
    (next_possible w P c.args.t c.self.invariant.is_plan (c.self.invariant.tied c.args.t.0 (ltb-true c.args.t.0 (length P.tasks) (exists_read c.self.inside.tasks.items c.args.t.0 lt))) (exists_read c.self.inside.tasks.items c.args.t.0 lt) (stage_read w c.self.inside.cells.items c.self.inside.sets.items c.self.inside.plan c.self.inside.tasks.items c.args.t.0 c.index.result.now c.self.invariant lt c.index.ensures)))

pub returns-clause-only : goal.returns-clause-only
returns-clause-only c = λ e d.
    let w : World = record { job = c.self.inside.job.now; places = c.self.inside.tables.now.places } in
    let P : Parts = record { cells = c.self.inside.cells.items; sets = c.self.inside.sets.items; tasks = parts_of c.self.inside.tasks.items } in
    let lt : c.args.t.0 < length c.self.inside.tasks.items = omega (arith, c.if-n-len.false, c.len.ensures) in
    let runs = read_running w c.self.inside.cells.items c.self.inside.sets.items c.self.inside.plan c.self.inside.tasks.items c.args.t.0 c.index.result.now c.self.invariant lt c.index.ensures in
    let part = part_read c.self.inside.tasks.items c.args.t.0 c.index.result.now lt c.index.ensures in
    let is : c.next.result ≡ stage_event w c.args.t (part_of P c.args.t.0) (part_of P c.args.t.0).stage =
    c.next.ensures w c.self.invariant.same_plan refl runs ∙ ap (λ u. stage_event w c.args.t u u.stage) (sym part) in
    let value : c.next.result ≡ next_of w P c.args.t = is ∙ sym (next_there w P c.args.t (exists_read c.self.inside.tasks.items c.args.t.0 lt)) in
    value ∙ next_only w P c.args.t e (subst (λ (v : CoreView). IsDue v.world v.parts c.args.t.0 e) (sym c.self.view_is) d)
