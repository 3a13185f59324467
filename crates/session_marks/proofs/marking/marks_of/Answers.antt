use Rattle.std.proofs.Common.{rules, ◌≡◌, true}
use Rattle.std.proofs.lemmas.Bool.{and_from}
use Rattle.cov_base.specs.Meaning.{is_filled}
use Rattle.marks_file.specs.Meaning.{are_marks}
use Rattle.session_book.specs.Meaning.{session_of}
use Rattle.session_marks.proofs.ModuleLemmas.{marks_kept}
use Rattle.session_marks.proofs.RuleLemmas.{one_run}
use Rattle.session_marks.proofs.marking.marks_of.Goals as goal

pub invariant_of-result : goal.invariant_of-result
invariant_of-result g c =
    let job = c.args.job.now in
    let tables = c.args.tables.now in
    let sets = g.R.FactSets.set_of c.args.sets.now c.args.s.0 in
    let modules = (session_of job c.args.s.0).modules in
    let is = c.modules_of.ensures.is in
    let value = c.in_ok-modules.ensures.value in
    let these = c.modules_of.ensures.value in
    let name : is_filled c.session_name.result ≡ true = search rules in
    let kept : are_marks c.in_ok-modules.modules.items ≡ true = rw (value, these) (marks_kept job tables sets modules c.modules_of.ensures.job c.requires.tables is.some is.modules is.differ (rw (value, these) at c.in_ok-modules.ensures.fields)) in
    and_from (is_filled c.session_name.result) _ name (and_from _ _ one_run kept)
