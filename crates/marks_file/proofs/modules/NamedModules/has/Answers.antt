use Rattle.std.proofs.Common.{◌≡◌, List, ℕ, ap, ◌∙◌}
use Rattle.std.specs.List.{list_any}
use Rattle.std.specs.Str.{bytes_eq}
use Rattle.names.specs.Lists.{has}
use Rattle.names.proofs.Laws.{has-map}
use Rattle.marks_file.specs.Meaning.{MarkedView}
use Rattle.marks_file.specs.Named.{items_of}
use Rattle.marks_file.proofs.modules.NamedModules.has.Goals as goal

pub returns : goal.returns
returns c =
    let n = c.args.name.now in
    let found : has c.self.inside.names n ≡ list_any (λ (m : MarkedView). bytes_eq m.name n) (items_of c.self.inside) = ap (λ (ns : List (List ℕ)). has ns n) c.self.invariant ∙ has-map (λ (m : MarkedView). m.name) (items_of c.self.inside) n in
    c.has.ensures ∙ (found ∙ ap (λ (ms : List MarkedView). list_any (λ (m : MarkedView). bytes_eq m.name n) ms) c.self.view_is)
