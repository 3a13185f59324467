use Rattle.std.proofs.Common.{◌≡◌, true, Some, subst, rules, arith}
use Rattle.marks_file.specs.Meaning.{MarksView, keeps_rules, first_bad, file_fields}
use Rattle.job_answers.specs.Files.{Bad}
use Rattle.job_answers.specs.Meaning.{BadField}
use Rattle.job_answers.proofs.FileLemmas.{past, alone}
use Rattle.job_answers.proofs.showing.one_file.Goals as goal

pub returns-then-end-rest-clause-refused : goal.returns-then-end-rest-clause-refused
returns-then-end-rest-clause-refused c =
    let rules_kept : keeps_rules c.in-Ok.marks ≡ true = subst (λ (m : MarksView). keeps_rules m ≡ true) c.marks.view_is c.marks.invariant in
    Bad c.in-Ok.end (past c.args.rest.now c.in-Ok.marks c.in-Ok.end rules_kept c.in-Ok.ensures.file c.if-end-rest.true) c.bad_marks.ensures

pub returns-in-Err-BadMarks-clause-refused : goal.returns-in-Err-BadMarks-clause-refused
returns-in-Err-BadMarks-clause-refused c =
    let e = c.in-Err-BadMarks in
    let bad : first_bad (file_fields 0 c.args.rest.now) ≡ Some e.offset = search rules in
    Bad e.offset (BadField bad) c.bad_marks-in-Err-BadMarks.ensures

pub returns-else-end-rest-clause-file : goal.returns-else-end-rest-clause-file
returns-else-end-rest-clause-file c =
    let rules_kept : keeps_rules c.in-Ok.marks ≡ true = subst (λ (m : MarksView). keeps_rules m ≡ true) c.marks.view_is c.marks.invariant in
    alone c.args.rest.now c.in-Ok.marks c.in-Ok.end rules_kept c.in-Ok.ensures.file (omega (arith, c.if-end-rest.false))
