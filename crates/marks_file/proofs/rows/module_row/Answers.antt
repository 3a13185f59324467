use Rattle.std.proofs.Common.{◌≡◌, ap, ◌∙◌, refl, length, arith}
use Rattle.marks_file.specs.Meaning.{MarkedView}
use Rattle.marks_file.proofs.rows.module_row.Goals as goal

pub returns : goal.returns
returns c =
    let name : c.marked.inside.name ≡ c.args.marked.now.name = ap (λ (m : MarkedView). m.name) c.marked.view_is in
    let filled : c.copy_from_slice.new.self ≡ c.args.marked.now.name = c.copy_from_slice.ensures.after ∙ (c.filled.ensures.value ∙ name) in
    let base : c.marked.inside.base ≡ c.args.marked.now.base = ap (λ (m : MarkedView). m.base) c.marked.view_is in
    let size : c.marked.inside.size ≡ c.args.marked.now.size = ap (λ (m : MarkedView). m.size) c.marked.view_is in
    let places : c.len.result ≡ length c.args.marked.now.places = omega (arith, c.len.ensures, c.marked.inside.places.ok.0, ap (λ (m : MarkedView). length m.places) c.marked.view_is) in
    rw (c.write_u32-3.ensures, c.write_u32-2.ensures, c.write_u32.ensures, filled, base, size, places) refl
