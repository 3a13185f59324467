use Rattle.std.proofs.Common.{◌≡◌, ◌-◌, IfErr, true, refl, ap, ◌∙◌, subst, take, drop, length, length-drop, rules, arith}
use Rattle.std.proofs.lemmas.List.{take_all}
use Rattle.std.proofs.lemmas.Result.{IfErr-weaker}
use Rattle.evidence_check.specs.Meaning.{IsVerified}
use Rattle.evidence_check.specs.Verified.{Passes, IsVerifyFault}
use Rattle.marks_file.specs.Meaning.{MarksView, keeps_rules}
use Rattle.session_marks.specs.FromFile.{IsOwn, set_at}
use Rattle.marks_file.specs.Combine.{difference_of}
use Rattle.job_answers.specs.Meaning.{OfFile}
use Rattle.refusals.specs.Meaning.{refusal, other_table_line, verified_line}
use Rattle.job_answers.specs.Checked.{IsStartRefusal}
use Rattle.job_answers.proofs.CheckedLemmas.{judged_verified, own_of, no_start, other_start, not_verified}
use Rattle.job_answers.proofs.verifying.facts_behind.Goals as goal

pub returns-in_err-marks-clause-refused : goal.returns-in_err-marks-clause-refused
returns-in_err-marks-clause-refused c =
    let no : IfErr c.from_residual.result (IsStartRefusal c.args.rest.now) = search rules in
    IfErr-weaker _ _ _ (λ r h. no_start c.args.job.now c.args.tables.now c.args.s.0 c.args.rest.now r h) no

pub returns-in-Err-Other-clause-refused : goal.returns-in-Err-Other-clause-refused
returns-in-Err-Other-clause-refused c =
    let e = c.in-Err-Other in
    let marks : MarksView = c.in_ok-marks.marks in
    let rules_kept : keeps_rules marks ≡ true = subst (λ (m : MarksView). keeps_rules m ≡ true) c.marks.view_is c.marks.invariant in
    let told : c.other_table.result ≡ refusal 11 (other_table_line (difference_of e.other)) = search rules in
    other_start c.args.job.now c.args.tables.now c.args.s.0 c.args.rest.now c.other_table.result marks c.in_ok-marks.end (difference_of e.other) rules_kept c.in_ok-marks.ensures.file (rw e.field-0-is at e.ensures.fault) told

pub returns-in-Ok-verify-clause-verdict : goal.returns-in-Ok-verify-clause-verdict
returns-in-Ok-verify-clause-verdict c =
    let v = c.in-Ok-verify in
    let j = c.args.job.now in
    let tables = c.args.tables.now in
    let marks : MarksView = c.in_ok-marks.marks in
    let end = c.in_ok-marks.end in
    let rest = c.args.rest.now in
    let rules_kept : keeps_rules marks ≡ true = subst (λ (m : MarksView). keeps_rules m ≡ true) c.marks.view_is c.marks.invariant in
    let all : take (length rest - end) (drop end rest) ≡ drop end rest = take_all (length rest - end) (drop end rest) (omega (arith, length-drop end rest)) in
    let verified : IsVerified j tables c.args.s.0 marks.modules (drop end rest) = subst (λ b. IsVerified j tables c.args.s.0 marks.modules b) all v.ensures.verified in
    let passes : Passes j tables c.args.s.0 marks.modules (drop end rest) = subst (λ b. Passes j tables c.args.s.0 marks.modules b) all (v.ensures.passes v.ensures.verified) in
    λ name. OfFile marks.modules end (record { marks = marks; rules = rules_kept; file = c.in_ok-marks.ensures.file; are = refl })
    (ap (λ n. refusal 0 (verified_line name n)) v.ensures.facts ∙ judged_verified name j tables c.args.s.0 marks.modules (drop end rest) (own_of j tables c.args.s.0 marks.modules (drop end rest) verified) passes)

pub returns-clause-refused : goal.returns-clause-refused
returns-clause-refused c =
    let j = c.args.job.now in
    let tables = c.args.tables.now in
    let marks : MarksView = c.in_ok-marks.marks in
    let end = c.in_ok-marks.end in
    let rest = c.args.rest.now in
    let rules_kept : keeps_rules marks ≡ true = subst (λ (m : MarksView). keeps_rules m ≡ true) c.marks.view_is c.marks.invariant in
    let own : IsOwn j tables c.args.s.0 marks.modules = record { sets = set_at c.in-Ok.field-0.sets; is = c.in-Ok.ensures.same } in
    let all : take (length rest - end) (drop end rest) ≡ drop end rest = take_all (length rest - end) (drop end rest) (omega (arith, length-drop end rest)) in
    let fault : IsVerifyFault j tables c.args.s.0 marks.modules (drop end rest) c.in-Err.fault = subst (λ b. IsVerifyFault j tables c.args.s.0 marks.modules b c.in-Err.fault) all c.in-Err.ensures.fault in
    not_verified j tables c.args.s.0 rest c.verify_refusal.result marks end c.in-Err.fault rules_kept c.in_ok-marks.ensures.file own fault c.verify_refusal.ensures
