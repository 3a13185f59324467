use Rattle.std.proofs.Common.{◌∙◌, drop}
use Rattle.std.proofs.lemmas.Result.{IfOk-weaker, IfErr-weaker}
use Rattle.marks_file.proofs.FileLemmas.{both_ok, marks_found, one_end, one_spelling, one_modules, one_version, no_prefix, sure_fault}
use Rattle.marks_file.specs.declared.version.Version.TheVariants.{First}
use Rattle.marks_file.proofs.reading.read.Goals as goal

pub returns-clause-only : goal.returns-clause-only
returns-clause-only c m end h f =
    IfOk-weaker c.read_file.result _ _ (λ r e. e ∙ marks_found c.args.from (drop c.args.from c.args.input.now) m end h f) c.read_file.ensures.value

pub returns-clause-sure : goal.returns-clause-sure
returns-clause-sure c m end h f =
    IfErr-weaker c.read_file.result _ _ (λ e bad. sure_fault c.args.from (drop c.args.from c.args.input.now) m end e bad h f) c.read_file.ensures.bad

pub returns-clause-one : goal.returns-clause-one
returns-clause-one c = one_spelling

pub returns-clause-one_first : goal.returns-clause-one_first
returns-clause-one_first c = one_modules First First

pub returns-clause-one_version : goal.returns-clause-one_version
returns-clause-one_version c = one_version

pub returns-clause-no_prefix : goal.returns-clause-no_prefix
returns-clause-no_prefix c = no_prefix

pub returns-clause-only_end : goal.returns-clause-only_end
returns-clause-only_end c m end h f =
    let bs = drop c.args.from c.args.input.now in
    both_ok c.read_file.result _ _ _ (λ r e g. one_end c.args.from bs m r.0 end r.1 h (e ∙ marks_found c.args.from bs m end h f) g f) c.read_file.ensures.value c.read_file.ensures.file
