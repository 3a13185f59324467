use Rattle.std.proofs.Common.{IfErr, rules}
use Rattle.std.proofs.lemmas.Result.{IfErr-weaker}
use Rattle.marks_file.specs.Combine.{difference_of}
use Rattle.job_answers.specs.Files.{IsFileRefusal, NoFile, Other}
use Rattle.job_answers.proofs.showing.sets_behind.Goals as goal

pub returns-in_err-marks-clause-refused : goal.returns-in_err-marks-clause-refused
returns-in_err-marks-clause-refused c =
    let no : IfErr c.from_residual.result (IsFileRefusal c.args.rest.now) = search rules in
    IfErr-weaker _ _ _ (λ r h. NoFile h) no

pub returns-in-Err-Other-clause-refused : goal.returns-in-Err-Other-clause-refused
returns-in-Err-Other-clause-refused c =
    let e = c.in-Err-Other in
    Other c.in_ok-marks.marks.modules (difference_of e.other) c.in_ok-marks.ensures.file (rw e.field-0-is at e.ensures.fault) c.other_table.ensures
