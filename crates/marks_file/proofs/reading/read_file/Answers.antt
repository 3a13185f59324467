use Rattle.std.proofs.Common.{◌≡◌, ◌+◌, None, Some, length, drop, ap, sym, subst, ◌∙◌, arith}
use Rattle.std.proofs.lemmas.Result.{err_from_is_err_and}
use Rattle.marks_file.specs.Meaning.{modules_bytes, MarksView, keeps_rules, HasFile, first_bad, table_fields, heading_fields, version_of, table_from}
use Rattle.marks_file.specs.Reading.{name_at, runs_at, marks_at}
use Rattle.marks_file.proofs.FieldLemmas.{first_none, first_some}
use Rattle.marks_file.proofs.SpellLemmas.{AreBytes, bytes_later}
use Rattle.marks_file.proofs.FileLemmas.{file_spelled, fault_behind, table_moved, marks_read}
use Rattle.marks_file.proofs.reading.read_file.Goals as goal

pub returns-in_err-heading-clause-bad : goal.returns-in_err-heading-clause-bad
returns-in_err-heading-clause-bad c =
    let bs = drop c.args.from c.args.input.now in
    let p = err_from_is_err_and c.from_residual.result c.from_residual.ensures.1 in
    let bad : first_bad (heading_fields c.args.from bs) ≡ Some c.in_err-heading.field-0.0.0 = rw c.rest_of.ensures at c.in_err-heading.ensures.bad in
    rw (p.1, p.2) (first_some (heading_fields c.args.from bs) _ _ bad)

pub returns-in_err-modules-clause-bad : goal.returns-in_err-modules-clause-bad
returns-in_err-modules-clause-bad c =
    let bs = drop c.args.from c.args.input.now in
    let good : first_bad (heading_fields c.args.from bs) ≡ None = rw c.rest_of.ensures at c.in_ok-heading.ensures.good in
    let size : c.in_ok-heading.heading.size ≡ table_from (version_of bs) = rw c.rest_of.ensures at c.in_ok-heading.ensures.size in
    let p = err_from_is_err_and c.from_residual-in_err-modules.result c.from_residual-in_err-modules.ensures.1 in
    rw (p.1, p.2) (fault_behind c.args.input.now c.args.from c.in_ok-heading.heading.size _ size good c.in_err-modules.ensures.bad)

pub returns-clause-value : goal.returns-clause-value
returns-clause-value c =
    let bs = drop c.args.from c.args.input.now in
    let size : c.in_ok-heading.heading.size ≡ table_from (version_of bs) = rw c.rest_of.ensures at c.in_ok-heading.ensures.size in
    let name : c.in_ok-heading.heading.name ≡ name_at (version_of bs) bs = rw c.rest_of.ensures at c.in_ok-heading.ensures.name in
    let runs : c.in_ok-heading.heading.runs ≡ runs_at (version_of bs) bs = rw c.rest_of.ensures at c.in_ok-heading.ensures.runs in
    marks_read c.args.input.now c.args.from c.in_ok-heading.heading.size c.in_ok-heading.heading.name c.in_ok-heading.heading.runs c.in_ok-modules.modules.items size name runs c.in_ok-modules.ensures.modules

pub returns-clause-good : goal.returns-clause-good
returns-clause-good c =
    let bs = drop c.args.from c.args.input.now in
    let good : first_bad (heading_fields c.args.from bs) ≡ None = rw c.rest_of.ensures at c.in_ok-heading.ensures.good in
    let size : c.in_ok-heading.heading.size ≡ table_from (version_of bs) = rw c.rest_of.ensures at c.in_ok-heading.ensures.size in
    first_none (heading_fields c.args.from bs) _ good ∙ (sym (ap first_bad (table_moved table_fields c.args.input.now c.args.from c.in_ok-heading.heading.size (version_of bs) size)) ∙ c.in_ok-modules.ensures.good)

pub invariant_of-marks : goal.invariant_of-marks
invariant_of-marks c =
    let bs = drop c.args.from c.args.input.now in
    let bytes : AreBytes c.args.input.now = λ i. let h = c.type_inv.input i in omega (arith, h) in
    let good : first_bad (heading_fields c.args.from bs) ≡ None = rw c.rest_of.ensures at c.in_ok-heading.ensures.good in
    let size : c.in_ok-heading.heading.size ≡ table_from (version_of bs) = rw c.rest_of.ensures at c.in_ok-heading.ensures.size in
    let name : c.in_ok-heading.heading.name ≡ name_at (version_of bs) bs = rw c.rest_of.ensures at c.in_ok-heading.ensures.name in
    let runs : c.in_ok-heading.heading.runs ≡ runs_at (version_of bs) bs = rw c.rest_of.ensures at c.in_ok-heading.ensures.runs in
    let is = marks_read c.args.input.now c.args.from c.in_ok-heading.heading.size c.in_ok-heading.heading.name c.in_ok-heading.heading.runs c.in_ok-modules.modules.items size name runs c.in_ok-modules.ensures.modules in
    let more = sym (ap first_bad (table_moved table_fields c.args.input.now c.args.from c.in_ok-heading.heading.size (version_of bs) size)) ∙ c.in_ok-modules.ensures.good in
    ap keeps_rules is ∙ (file_spelled c.args.from bs (bytes_later c.args.from c.args.input.now bytes) good more).rules

pub returns-clause-file : goal.returns-clause-file
returns-clause-file c =
    let bs = drop c.args.from c.args.input.now in
    let bytes : AreBytes c.args.input.now = λ i. let h = c.type_inv.input i in omega (arith, h) in
    let good : first_bad (heading_fields c.args.from bs) ≡ None = rw c.rest_of.ensures at c.in_ok-heading.ensures.good in
    let size : c.in_ok-heading.heading.size ≡ table_from (version_of bs) = rw c.rest_of.ensures at c.in_ok-heading.ensures.size in
    let name : c.in_ok-heading.heading.name ≡ name_at (version_of bs) bs = rw c.rest_of.ensures at c.in_ok-heading.ensures.name in
    let runs : c.in_ok-heading.heading.runs ≡ runs_at (version_of bs) bs = rw c.rest_of.ensures at c.in_ok-heading.ensures.runs in
    let is = marks_read c.args.input.now c.args.from c.in_ok-heading.heading.size c.in_ok-heading.heading.name c.in_ok-heading.heading.runs c.in_ok-modules.modules.items size name runs c.in_ok-modules.ensures.modules in
    let more = sym (ap first_bad (table_moved table_fields c.args.input.now c.args.from c.in_ok-heading.heading.size (version_of bs) size)) ∙ c.in_ok-modules.ensures.good in
    let n = length (modules_bytes c.in_ok-modules.modules.items) in
    let end : c.in_ok-modules.end ≡ c.args.from + (table_from (version_of bs) + n) = omega (arith, c.in_ok-modules.ensures.end, size) in
    subst (λ m. HasFile c.args.from bs m c.in_ok-modules.end) (sym is)
    (subst (HasFile c.args.from bs (marks_at bs)) (sym (end ∙ ap (λ ms. c.args.from + (table_from (version_of bs) + length (modules_bytes ms))) (ap (λ (m : MarksView). m.modules) is)))
    (file_spelled c.args.from bs (bytes_later c.args.from c.args.input.now bytes) good more).file)
