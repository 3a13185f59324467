use Rattle.std.proofs.Common.{List, refl, sym, ◌∙◌, ap, subst}
use Rattle.cov_base.specs.Meaning.{ImageView}
use Rattle.listing_reader.specs.declared.lines.Line.{Line}
use Rattle.job_input.specs.Meaning.{build_fault, listing_fault}
use Rattle.job_input.specs.Faults.{IsFaultOf}
use Rattle.job_input.specs.declared.table_faults.TablesFault.{TablesFault}
use Rattle.job_input.proofs.TableLemmas.{no_listing_fault, build_told}
use Rattle.job_input.proofs.tables.table_of.Goals as goal

pub returns-in-Ok-build-clause-faultless : goal.returns-in-Ok-build-clause-faultless
returns-in-Ok-build-clause-faultless c =
    no_listing_fault c.args.image.now c.args.room c.args.texts.now c.in-Ok.lines c.in-Ok.ensures.listing (c.in-Ok-build.ensures.matches refl)

pub returns-clause-fault : goal.returns-clause-fault
returns-clause-fault c =
    let image : ImageView = c.args.image.now in
    let lines : List Line = c.in-Ok.lines in
    let told = build_told image c.args.room c.args.texts.now lines c.in-Err-build.fault c.in-Ok.ensures.listing c.in-Err-build.ensures.fault in
    let named = ap (λ (i : ImageView). build_fault i.name lines c.in-Err-build.fault) c.image.view_is in
    subst (λ (r : TablesFault). IsFaultOf (listing_fault image c.args.room c.args.texts.now) r) (sym (c.build_fault.ensures ∙ named)) told
