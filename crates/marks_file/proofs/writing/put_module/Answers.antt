use Rattle.std.proofs.Common.{◌≡◌, ◌++◌, ap, ◌∙◌}
use Rattle.marks_file.specs.Meaning.{MarkedView, module_bytes}
use Rattle.cov_outside.proofs.Laws.{progress_start, puts_more, puts_last, puts_exit}
use Rattle.marks_file.proofs.writing.put_module.Goals as goal

pub returns : goal.returns
returns g c =
    let places : c.deref.result.now ≡ c.args.marked.now.places = c.deref.ensures.value ∙ ap (λ (m : MarkedView). m.places) c.marked.view_is in
    puts_last (rw places at c.put_places.ensures) (puts_more _ (rw c.module_row.ensures at c.in_ok-put.ensures.put) progress_start)

pub returns-in_err-put : goal.returns-in_err-put
returns-in_err-put g c =
    puts_exit _ c.from_residual.ensures.0 (rw c.module_row.ensures at c.in_err-put.ensures.put) (progress_start {all = c.args.buffer.now ++ module_bytes c.args.marked.now})
