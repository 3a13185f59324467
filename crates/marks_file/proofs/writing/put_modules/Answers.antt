use Rattle.std.proofs.Common.{◌≡◌, ◌++◌, ap, get_or}
use Rattle.std.specs.List.{flat_map}
use Rattle.std.proofs.lemmas.List.{at_drop_more}
use Rattle.marks_file.specs.Meaning.{module_bytes}
use Rattle.cov_outside.proofs.Laws.{progress_at, puts_more, puts_exit}
use Rattle.marks_file.proofs.writing.put_modules.Goals as goal

pub returns-in_err-put_module : goal.returns-in_err-put_module
returns-in_err-put_module g c =
    let piece : module_bytes c.index-modules-i.result ≡ module_bytes (get_or c.args.modules.now c.loop-i.i c.index-modules-i.result) = ap module_bytes c.index-modules-i.is in
    let next = at_drop_more (flat_map module_bytes) c.args.modules.now c.loop-i.i c.index-modules-i.result c.loop-i-test.true in
    puts_exit _ c.from_residual.ensures.0 (rw piece at c.in_err-put_module.ensures) (progress_at (ap (λ t. c.loop-i.buffer ++ t) next) c.loop-i.invariant)

pub loop-i-preserved : goal.loop-i-preserved
loop-i-preserved g c =
    let piece : module_bytes c.index-modules-i.result ≡ module_bytes (get_or c.args.modules.now c.loop-i.i c.index-modules-i.result) = ap module_bytes c.index-modules-i.is in
    let next = at_drop_more (flat_map module_bytes) c.args.modules.now c.loop-i.i c.index-modules-i.result c.loop-i-test.true in
    puts_more _ (rw piece at c.in_ok-put_module.ensures) (progress_at (ap (λ t. c.loop-i.buffer ++ t) next) c.loop-i.invariant)
