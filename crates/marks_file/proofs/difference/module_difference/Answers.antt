use Rattle.std.proofs.Common.{rules, ◌≡◌, length, ap, ◌∙◌, sym}
use Rattle.marks_file.specs.Meaning.{MarkedView, module_row}
use Rattle.marks_file.proofs.DifferenceLemmas.{row_count}
use Rattle.marks_file.proofs.difference.module_difference.Goals as goal

pub places_difference-requires-clause-same : goal.places_difference-requires-clause-same
places_difference-requires-clause-same c =
    let a : c.deref.result.now ≡ c.args.a.now.places = c.deref.ensures.value ∙ ap (λ (m : MarkedView). m.places) c.a.view_is in
    let b : c.deref-2.result.now ≡ c.args.b.now.places = c.deref-2.ensures.value ∙ ap (λ (m : MarkedView). m.places) c.b.view_is in
    let same : module_row c.args.a.now ≡ module_row c.args.b.now = search rules in
    ap length a ∙ (row_count c.args.a.now c.args.b.now c.requires.left c.requires.right same ∙ sym (ap length b))
