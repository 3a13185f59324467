use Rattle.std.proofs.Common.{◌≡◌, Some, rules}
use Rattle.marks_file.specs.Meaning.{first_bad, file_fields}
use Rattle.job_answers.specs.Checked.{BadStart}
use Rattle.job_answers.proofs.verifying.first_file.Goals as goal

pub returns-in-Err-BadMarks-clause-refused : goal.returns-in-Err-BadMarks-clause-refused
returns-in-Err-BadMarks-clause-refused c =
    let e = c.in-Err-BadMarks in
    let bad : first_bad (file_fields 0 c.args.rest.now) ≡ Some e.offset = search rules in
    BadStart e.offset bad c.bad_marks.ensures
