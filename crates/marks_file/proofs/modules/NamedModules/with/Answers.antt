use Rattle.std.proofs.Common.{◌≡◌, ℕ, List, [], ◌∷◌, ◌++◌, true, false, refl, ap, sym, ◌∙◌, subst, rules}
use Rattle.std.specs.List.{list_any}
use Rattle.std.specs.Str.{bytes_eq}
use Rattle.std.proofs.lemmas.Bool.{not-true, and_parts}
use Rattle.std.proofs.lemmas.List.{map_push}
use Rattle.cov_base.specs.Meaning.{is_filled}
use Rattle.names.specs.Lists.{added}
use Rattle.names.proofs.Laws.{has-map}
use Rattle.marks_file.specs.Meaning.{MarkedView, is_new_name}
use Rattle.marks_file.specs.Named.{names_of, items_of}
use Rattle.marks_file.proofs.modules.NamedModules.with.Goals as goal

-- a name more, which is new
one_more : (ms : List MarkedView) (m : MarkedView) → is_new_name ms m.name ≡ true → added (names_of ms) m.name ≡ names_of (ms ++ m ∷ [])
unfolding is_new_name
one_more ms m new =
    let missing : list_any (λ (x : MarkedView). bytes_eq x.name m.name) ms ≡ false = not-true (list_any (λ (x : MarkedView). bytes_eq x.name m.name) ms) (and_parts (is_filled m.name) _ new).1 in
    rw (has-map (λ (x : MarkedView). x.name) ms m.name, missing, map_push (λ (x : MarkedView). x.name) ms m) refl

pub invariant_of-result : goal.invariant_of-result
invariant_of-result c =
    let ms = items_of c.self.inside in
    let new : is_new_name ms c.args.marked.name ≡ true = subst (λ (xs : List MarkedView). is_new_name xs c.args.marked.name ≡ true) (sym c.self.view_is) c.requires in
    let named : c.add.new.self ≡ added c.self.inside.names c.args.marked.name = search rules in
    let items : c.push.new.self.items ≡ ms ++ c.args.marked ∷ [] = search rules in
    named ∙ (ap (λ (ns : List (List ℕ)). added ns c.args.marked.name) c.self.invariant ∙ (one_more ms c.args.marked new ∙ sym (ap names_of items)))
