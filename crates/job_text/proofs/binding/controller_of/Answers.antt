use Rattle.std.proofs.Common.{◌≡◌, ◌∙◌, rules, nat_eq, get_or, true, false, Some, None, ap, sym, arith}
use Rattle.std.proofs.lemmas.Bool.Decides.{nat_tests}
use Rattle.names.specs.Lists.{index_of}
use Rattle.session_book.specs.Meaning.{TaskView}
use Rattle.job_text.proofs.DraftNames.{controller_none, controller_here}
use Rattle.job_text.proofs.binding.controller_of.Goals as goal

pub returns-in_err-at-clause-index : goal.returns-in_err-at-clause-index
returns-in_err-at-clause-index c =
    let gone : c.from_residual.result ≡ None = search rules in
    let none : index_of c.args.names.now c.args.name.now ≡ None = search rules in
    gone ∙ controller_none c.args.names.now c.args.tasks.now c.args.phase c.args.name.now c.requires none

pub returns-then-task-phase-clause-index : goal.returns-then-task-phase-clause-index
returns-then-task-phase-clause-index c =
    let task = c.index-tasks-at.result in
    let some : index_of c.args.names.now c.args.name.now ≡ Some c.in_ok-at.at = search rules in
    let phase : (get_or c.args.tasks.now c.in_ok-at.at task).phase ≡ c.task.inside.phase = sym (ap (λ (t : TaskView). t.phase) c.task.view_is ∙ ap (λ (t : TaskView). t.phase) c.index-tasks-at.is) in
    let of : nat_eq (get_or c.args.tasks.now c.in_ok-at.at task).phase c.args.phase ≡ true = grind (arith, nat_tests, phase, c.if-task-phase.true) in
    controller_here c.args.names.now c.args.tasks.now c.args.phase c.args.name.now c.in_ok-at.at task true c.requires c.index_of.ensures.only some of

pub returns-else-task-phase-clause-index : goal.returns-else-task-phase-clause-index
returns-else-task-phase-clause-index c =
    let task = c.index-tasks-at.result in
    let some : index_of c.args.names.now c.args.name.now ≡ Some c.in_ok-at.at = search rules in
    let phase : (get_or c.args.tasks.now c.in_ok-at.at task).phase ≡ c.task.inside.phase = sym (ap (λ (t : TaskView). t.phase) c.task.view_is ∙ ap (λ (t : TaskView). t.phase) c.index-tasks-at.is) in
    let of : nat_eq (get_or c.args.tasks.now c.in_ok-at.at task).phase c.args.phase ≡ false = grind (arith, nat_tests, phase, c.if-task-phase.false) in
    controller_here c.args.names.now c.args.tasks.now c.args.phase c.args.name.now c.in_ok-at.at task false c.requires c.index_of.ensures.only some of
