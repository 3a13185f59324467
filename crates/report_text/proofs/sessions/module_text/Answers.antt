use Rattle.std.proofs.Common.{◌≡◌, ◌-◌, [], ◌∷◌, ◌++◌, arith}
use Rattle.brk_table.specs.Meaning.{first_place, place_count}
use Rattle.session_book.specs.Meaning.{module_of}
use Rattle.report_text.specs.Meaning.{module_lines, totals_line, sum_from}
use Rattle.report_text.proofs.PlaceFacts.{executed_at, facts_at, possible_at}
use Rattle.report_text.proofs.WriteLemmas.{progress_start, progress_more, progress_exit, progress_last}
use Rattle.report_text.proofs.sessions.module_text.Goals as goal

pub listing_text-requires-clause-sets : goal.listing_text-requires-clause-sets
listing_text-requires-clause-sets g c =
    record { session = c.requires.session; exist = rw c.range-first.ensures.past at c.range-first.ensures.exist; within = c.requires.within }

pub returns-in_err-put : goal.returns-in_err-put
unfolding module_lines
returns-in_err-put g c =
    let sets = g.R.FactSets.set_of c.args.sets.now c.args.s.0 in
    let tables = c.args.tables.now in
    let first = first_place tables.tables c.args.m in
    let size = place_count tables.tables c.args.m in
    let count : c.range-first.result.1 - c.range-first.result.0 ≡ size = omega arith in
    let text : c.totals_line.result.items ≡ totals_line (module_of c.args.job.now c.args.m).name size (sum_from (executed_at sets) first size) (sum_from (facts_at sets) first size) (sum_from (possible_at tables.places) first size) ++ 10 ∷ [] =
    rw (c.count-counts.ensures.executed, c.count-counts.ensures.facts, c.count-counts.ensures.possible, count, c.range-first.ensures.first, c.module_name.ensures) at c.totals_line.ensures in
    progress_exit _ c.from_residual.ensures.0 (c.in_err-put.ensures _ text) progress_start

pub returns-in_err-listing_text : goal.returns-in_err-listing_text
unfolding module_lines
returns-in_err-listing_text g c =
    let sets = g.R.FactSets.set_of c.args.sets.now c.args.s.0 in
    let tables = c.args.tables.now in
    let first = first_place tables.tables c.args.m in
    let size = place_count tables.tables c.args.m in
    let count : c.range-first.result.1 - c.range-first.result.0 ≡ size = omega arith in
    let text : c.totals_line.result.items ≡ totals_line (module_of c.args.job.now c.args.m).name size (sum_from (executed_at sets) first size) (sum_from (facts_at sets) first size) (sum_from (possible_at tables.places) first size) ++ 10 ∷ [] =
    rw (c.count-counts.ensures.executed, c.count-counts.ensures.facts, c.count-counts.ensures.possible, count, c.range-first.ensures.first, c.module_name.ensures) at c.totals_line.ensures in
    let counted = progress_more (c.in_ok-put.ensures _ text) progress_start in
    progress_exit _ c.from_residual-in_err-listing_text.ensures.0 c.in_err-listing_text.ensures counted

pub returns : goal.returns
unfolding module_lines
returns g c =
    let sets = g.R.FactSets.set_of c.args.sets.now c.args.s.0 in
    let tables = c.args.tables.now in
    let first = first_place tables.tables c.args.m in
    let size = place_count tables.tables c.args.m in
    let count : c.range-first.result.1 - c.range-first.result.0 ≡ size = omega arith in
    let text : c.totals_line.result.items ≡ totals_line (module_of c.args.job.now c.args.m).name size (sum_from (executed_at sets) first size) (sum_from (facts_at sets) first size) (sum_from (possible_at tables.places) first size) ++ 10 ∷ [] =
    rw (c.count-counts.ensures.executed, c.count-counts.ensures.facts, c.count-counts.ensures.possible, count, c.range-first.ensures.first, c.module_name.ensures) at c.totals_line.ensures in
    let counted = progress_more (c.in_ok-put.ensures _ text) progress_start in
    let listed = progress_more c.in_ok-listing_text.ensures counted in
    progress_last (rw (count, c.range-first.ensures.first) at c.runs_part.ensures) listed
