use Rattle.std.proofs.Common.{sym, ◌∙◌, refl, arith}
use Rattle.std.proofs.lemmas.Result.{err_from_is_err_and}
use Rattle.job_text.specs.Meaning.{lines_of}
use Rattle.job_text.specs.Steps.{plain}
use Rattle.job_text.proofs.Readings.{within_of, few_lines, early_answer, no_memory, taken_answer}
use Rattle.job_text.proofs.WholeJob.{read_keeps}
use Rattle.job_text.proofs.taken.Taken.finish.Goals as goal

pub finish-requires-clause-done : goal.finish-requires-clause-done
finish-requires-clause-done c = sym c.is_done.ensures ∙ c.if-is_done.true

pub finish-requires-clause-job : goal.finish-requires-clause-job
finish-requires-clause-job c =
    let bytes = c.requires.ran.0 in
    let h = c.requires.ran.1 in
    read_keeps c.args.self.now.grammar (lines_of bytes) (plain c.args.self.now.reader) h.runs (sym c.is_done.ensures ∙ c.if-is_done.true) (within_of (lines_of bytes) (plain c.args.self.now.reader) h.runs h.goes_on)

pub returns-in_err-finish : goal.returns-in_err-finish
returns-in_err-finish c = λ bytes h.
    let p = err_from_is_err_and c.from_residual.result c.from_residual.ensures.1 in
    rw (p.1, p.2) (no_memory c.args.self.now.grammar bytes)

pub returns-then-is_done : goal.returns-then-is_done
returns-then-is_done c = λ bytes h. taken_answer bytes c.args.self.now _ h (sym c.is_done.ensures ∙ c.if-is_done.true) c.in_ok-finish.ensures refl refl

pub overflow_add-result : goal.overflow_add-result
overflow_add-result c = omega (arith, few_lines c.requires.ran.0 c.args.self.now c.requires.ran.1, c.requires.room)

pub returns : goal.returns
returns c = λ bytes h. early_answer bytes c.args.self.now h (sym c.is_done.ensures ∙ c.if-is_done.false)
