use Rattle.std.proofs.Common.{◌≡◌, ◌<◌, ◌||◌, true, nat_eq, length, ap, ◌∙◌, arith}
use Rattle.cov_base.specs.declared.facts.Fact.TheVariants.{Went}
use Rattle.cov_base.specs.declared.facts.Kind.{Kind}
use Rattle.cov_base.specs.FactKind.{is_of_kind}
use Rattle.module_area.specs.Meaning.{PlanView, kind_at}
use Rattle.count_session.specs.Notes.{CountNotes}
use Rattle.count_session.specs.Passes.{notes_of, plan_in}
use Rattle.small_tests.proofs.tests.of_count_session.at_once.Goals as goal

pub plant-requires-clause-unplanted : goal.plant-requires-clause-unplanted
plant-requires-clause-unplanted g c = ap (λ (n : CountNotes). n.planted 0) c.in_ok-cells.ensures.root

pub join-first-requires-after_bounds : goal.join-first-requires-after_bounds
join-first-requires-after_bounds g c κs within =
    let cells = c.in_ok-cells.cells in
    let first = c.split-first.ensures in
    let second = c.split-second.ensures in
    let planted : (notes_of cells c.plant.new.root).planted 0 ≡ true = ap (λ (n : CountNotes). n.planted 0) c.plant.ensures.notes ∙ ap (λ (n : CountNotes). n.planted 0 || nat_eq 0 0) c.in_ok-cells.ensures.root in
    let place : 0 < length (plan_in cells).places = omega (arith, ap (λ (p : PlanView). length p.places) c.in_ok-cells.ensures.plan, c.requires.places) in
    let kind : is_of_kind (kind_at (plan_in cells) 0) Went ≡ true = ap (λ (p : PlanView). is_of_kind (kind_at p 0) Went) c.in_ok-cells.ensures.plan ∙ ap (λ (k : Kind). is_of_kind k Went) c.requires.branch.0 in (
      (record {
        area = first.split;
        task = ap (λ (n : CountNotes). n.root) first.fresh;
        fresh = ap (λ (n : CountNotes). n.adds) first.fresh;
        place = place;
        planted = ap (λ (n : CountNotes). n.planted 0) first.fresh ∙ planted;
        kind = kind;
      }),
      (record {
        area = second.split;
        task = ap (λ (n : CountNotes). n.root) second.fresh;
        fresh = ap (λ (n : CountNotes). n.adds) second.fresh;
        place = place;
        planted = ap (λ (n : CountNotes). n.planted 0) second.fresh ∙ (ap (λ (n : CountNotes). n.planted 0) first.notes ∙ planted);
        kind = kind;
      }),
    )
