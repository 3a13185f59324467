use Rattle.std.proofs.Common.{◌++◌, get_or, ap}
use Rattle.std.specs.List.{flat_map}
use Rattle.std.proofs.lemmas.List.{at_drop_more}
use Rattle.cov_outside.proofs.Laws.{progress_at, puts_more, puts_exit}
use Rattle.evidence_check.specs.Meaning.{module_entries}
use Rattle.evidence_check.specs.Found.{found_at}
use Rattle.evidence_check.proofs.EntryLemmas.{module_read}
use Rattle.evidence_check.proofs.writing.put_modules.Goals as goal

pub returns-in_err-put_places : goal.returns-in_err-put_places
returns-in_err-put_places g c =
    let tables = c.args.tables.now in
    let firsts = found_at c.args.found.now in
    let modules = c.args.modules.now in
    let i = c.loop-i.i in
    let piece = module_read tables firsts (get_or modules i 0) c.range-first.result.0 c.range-first.result.1 c.range-first.ensures.first c.range-first.ensures.past in
    let next = at_drop_more (flat_map (module_entries tables firsts)) modules i 0 c.loop-i-test.true in
    puts_exit _ c.from_residual.ensures.0 (rw piece at c.in_err-put_places.ensures) (progress_at (ap (λ t. c.loop-i.buffer ++ t) next) c.loop-i.invariant)

pub loop-i-preserved : goal.loop-i-preserved
loop-i-preserved g c =
    let tables = c.args.tables.now in
    let firsts = found_at c.args.found.now in
    let modules = c.args.modules.now in
    let i = c.loop-i.i in
    let piece = module_read tables firsts (get_or modules i 0) c.range-first.result.0 c.range-first.result.1 c.range-first.ensures.first c.range-first.ensures.past in
    let next = at_drop_more (flat_map (module_entries tables firsts)) modules i 0 c.loop-i-test.true in
    puts_more _ (rw piece at c.in_ok-put_places.ensures) (progress_at (ap (λ t. c.loop-i.buffer ++ t) next) c.loop-i.invariant)
