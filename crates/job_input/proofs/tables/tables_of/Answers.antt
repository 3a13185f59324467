use Rattle.std.proofs.Common.{List, sym, subst, ap, All}
use Rattle.cov_base.specs.Meaning.{ImageView}
use Rattle.brk_table.specs.Meaning.{all_places}
use Rattle.brk_table.specs.Places.{IsIn}
use Rattle.brk_table.specs.Kept.{AreCodes}
use Rattle.brk_table.proofs.Laws.{AllMet, all_met}
use Rattle.session_book.specs.Meaning.{JobView}
use Rattle.job_input.proofs.TableLemmas.{is_ready}
use Rattle.job_input.proofs.tables.tables_of.Goals as goal

pub over-requires-clause-places : goal.over-requires-clause-places
over-requires-clause-places c = (all_met c.args.job.now.images c.in_ok-tables.tables.items c.in_ok-tables.ensures.images c.in_ok-tables.ensures.tables).places

pub returns-clause-tables : goal.returns-clause-tables
returns-clause-tables c =
    let made = c.in_ok-tables.ensures in
    let over = c.in_ok-over.ensures in
    is_ready c.args.job.now c.in_ok-tables.tables.items _ c.requires made.faultless made.matching made.images made.tables over.tables over.places
    (subst (λ (is : List ImageView). AreCodes is c.in_ok-over.field-0) (ap (λ (j : JobView). j.images) c.job.view_is) over.codes)

pub over-requires-clause-inside : goal.over-requires-clause-inside
over-requires-clause-inside c =
    let met : AllMet c.args.job.now.images c.in_ok-tables.tables.items = all_met c.args.job.now.images c.in_ok-tables.tables.items c.in_ok-tables.ensures.images c.in_ok-tables.ensures.tables in
    subst (λ (is : List ImageView). All (IsIn is) (all_places c.in_ok-tables.tables.items)) (sym (ap (λ (j : JobView). j.images) c.job.view_is)) met.in_images
