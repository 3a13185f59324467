use Rattle.std.proofs.Common.{◌≡◌, [], sym, ap, ◌∙◌}
use Rattle.std.specs.declared.option.Option.TheVariants.{None}
use Rattle.std.proofs.lemmas.Result.{IfOk-weaker}
use Rattle.cov_base.specs.Meaning.{ImageView}
use Rattle.brk_table.specs.Meaning.{first_fault}
use Rattle.brk_table.proofs.OwnPlaces.{own_places}
use Rattle.brk_table.proofs.builder.build.Goals as goal

pub returns-clause-own : goal.returns-clause-own
returns-clause-own c =
    let base = ap (λ (v : ImageView). v.base) c.image.view_is in
    let bytes : c.deref-bytes.result.now ≡ c.args.image.now.bytes = c.deref-bytes.ensures.value ∙ ap (λ (v : ImageView). v.bytes) c.image.view_is in
    let none : first_fault c.args.image.now.bytes c.args.room [] c.args.lines.now ≡ None =
    ap (λ x. first_fault x c.args.room [] c.args.lines.now) (sym bytes) ∙ (sym c.first_fault.ensures.fault ∙ c.in_default.is) in
    IfOk-weaker _ _ _ (λ t h. own_places c.args.module c.args.image.now c.args.room c.args.lines.now t (rw base at h) none c.requires.sound c.requires.even c.requires.below) c.place_lines.ensures.table
