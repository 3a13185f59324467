use Rattle.std.proofs.Common.{rules, refl, sym, ◌∙◌, subst, ◌≡◌, ◌*◌, map, replicate, length, []}
use Rattle.module_area.specs.Rule.{IsPlan}
use Rattle.cov_base.specs.Meaning.{no_facts}
use Rattle.module_area.specs.Meaning.{fresh_word}
use Rattle.interleave_core.specs.Meaning.{World, plan_in}
use Rattle.interleave_core.specs.CoreState.{core_start}
use Rattle.interleave_core.specs.MeaningOfEvents.{Stands}
use Rattle.interleave_core.proofs.Follows.{run_stands}
use Rattle.interleave_core.proofs.Ruled.{run_keeps}
use Rattle.interleave_core.proofs.Starts.{IsCore-first, parts_are}
use Rattle.interleave_core.proofs.interleaving.start.Goals as goal

pub returns-clause-parts : goal.returns-clause-parts
returns-clause-parts c =
    let w : World = record { job = c.args.job.now; places = c.args.tables.now.places } in
    let cells : c.in_ok-cells.cells.items ≡ map fresh_word w.places = search rules in
    let sets : c.in_ok-sets.sets.items ≡ replicate (length w.job.sessions * length w.places) no_facts = search rules in
    parts_are w c.in_ok-cells.cells.items c.in_ok-sets.sets.items c.in_ok-tasks.tasks.items cells sets c.in_ok-tasks.ensures

pub returns-clause-stands : goal.returns-clause-stands
returns-clause-stands c =
    let w : World = record { job = c.args.job.now; places = c.args.tables.now.places } in
    subst (Stands w []) (sym (returns-clause-parts c)) (run_stands w (core_start w) [] c.fits.ensures.world refl)

pub returns-clause-rule : goal.returns-clause-rule
returns-clause-rule c =
    let w : World = record { job = c.args.job.now; places = c.args.tables.now.places } in
    run_keeps w (core_start w) [] c.fits.ensures.world refl

pub invariant_of-core : goal.invariant_of-core
invariant_of-core c =
    let w : World = record { job = c.args.job.now; places = c.args.tables.now.places } in
    let cells : c.in_ok-cells.cells.items ≡ map fresh_word w.places = search rules in
    let sets : c.in_ok-sets.sets.items ≡ replicate (length w.job.sessions * length w.places) no_facts = search rules in
    let plan : c.in_ok-plan.plan ≡ plan_in w = search rules in
    let is_plan : IsPlan (plan_in w) = subst IsPlan (c.plan.view_is ∙ plan) c.plan.invariant in
    IsCore-first w c.in_ok-cells.cells.items c.in_ok-sets.sets.items c.in_ok-plan.plan c.in_ok-tasks.tasks.items c.task_count.ensures.job c.requires.phase plan is_plan c.len.ensures.places c.requires.tables cells sets c.in_ok-tasks.ensures
