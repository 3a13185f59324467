-- All places of some tables, and of one more.
use Rattle.std.proofs.Common.{◌≡◌, ℕ, ◌+◌, ◌<◌, List, [], ◌∷◌, ◌++◌, length, get_or, take, refl, sym, ap, ◌∙◌, append_assoc}
use Rattle.std.proofs.lemmas.List.{take_more, append-nil}
use Rattle.brk_table.specs.Meaning.{TableView, all_places}

pub all_places_append : (ts us : List TableView) → all_places (ts ++ us) ≡ all_places ts ++ all_places us
all_places_append [] us = refl
all_places_append (t ∷ ts) us = ap (λ x. t.places ++ x) (all_places_append ts us) ∙ sym (append_assoc t.places (all_places ts) (all_places us))

pub all_places_more : (ts : List TableView) (i : ℕ) (t : TableView) → i < length ts → t ≡ get_or ts i t → all_places (take (i + 1) ts) ≡ all_places (take i ts) ++ t.places
all_places_more ts i t l is =
    let last : all_places (get_or ts i t ∷ []) ≡ t.places = append-nil (get_or ts i t).places ∙ ap (λ (x : TableView). x.places) (sym is) in
    ap all_places (take_more ts i t l) ∙ (all_places_append (take i ts) (get_or ts i t ∷ []) ∙ ap (λ x. all_places (take i ts) ++ x) last)
