-- The listings that match have one table each, so that a job has one list of tables and of places.
use Rattle.std.proofs.Common.{◌≡◌, inl, inr, ℕ, ◌+◌, ◌<◌, Option, Some, None, List, [], ◌∷◌, length, get_or, AllPairs, refl, sym, ap, ◌∙◌, subst, arith}
use Rattle.std.proofs.lemmas.Bool.{cases_lt}
use Rattle.std.proofs.lemmas.List.{ext_get_or}
use Rattle.cov_base.specs.Meaning.{ImageView}
use Rattle.listing_reader.specs.declared.lines.Line.{Line}
use Rattle.listing_reader.specs.declared.lines.Line.TheVariants.{Text}
use Rattle.listing_reader.specs.declared.lines.Line.TheVariants as says
use Rattle.module_area.specs.Meaning.{no_place, place_of}
use Rattle.module_area.specs.declared.places.Place.{Place}
use Rattle.brk_table.specs.Meaning.{IsEntry, IsTable, TableView, TablesView, all_places}
use Rattle.brk_table.proofs.Laws.{one_table}
use Rattle.session_book.specs.Meaning.{JobView}
use Rattle.job_input.specs.Meaning.{IsTableOf, AreTablesFrom, Match}

one_index : (ps : List Place) (k i : ℕ) → AllPairs (λ p q. p.at < q.at) ps → k < length ps → i < length ps → place_of ps k ≡ place_of ps i → k ≡ i
one_index ps k i rising a b e = elim (cases_lt k i) [
  | inl less ↦ absurd (omega (arith, rising k i no_place less b, ap (λ (p : Place). p.at) e))
  | inr more ↦ elim (cases_lt i k) [
    | inl less ↦ absurd (omega (arith, rising i k no_place less a, ap (λ (p : Place). p.at) e))
    | inr same ↦ omega (arith, more, same)
  ]
]

-- what a line has among these places
one_entry : (m base : ℕ) (ps : List Place) (line : Line) (e f : Option ℕ) → AllPairs (λ p q. p.at < q.at) ps → IsEntry m base ps line e → IsEntry m base ps line f → e ≡ f
one_entry m base ps Text e f rising a b = a ∙ sym b
one_entry m base ps (says.Code loc code) None f rising a b = absurd a
one_entry m base ps (says.Code loc code) (Some k) None rising a b = absurd b
one_entry m base ps (says.Code loc code) (Some k) (Some i) rising a b = ap Some (one_index ps k i rising a.0 b.0 (a.1 ∙ sym b.1))

one_view : (m base : ℕ) (lines : List Line) (a b : TableView) → IsTable m base lines a → IsTable m base lines b → a ≡ b
one_view m base lines a b p q =
    let places : a.places ≡ b.places = one_table m base lines a b p q in
    let entries : a.lines ≡ b.lines = ext_get_or None a.lines b.lines (p.count ∙ sym q.count) (λ i h.
    let here : i < length lines = omega (arith, h, p.count) in
    one_entry m base b.places (get_or lines i Text) (get_or a.lines i None) (get_or b.lines i None) q.rising
    (subst (λ ps. IsEntry m base ps (get_or lines i Text) (get_or a.lines i None)) places (p.entries i here)) (q.entries i here)) in
    ap (λ n. record a { «module» = n }) (p.of ∙ sym q.of) ∙ (ap (λ ps. record b { places = ps; lines = a.lines }) places ∙ ap (λ es. record b { lines = es }) entries)

one_of : (m : ℕ) (image : ImageView) (texts : List (List ℕ)) (a b : TableView) → IsTableOf m image texts a → IsTableOf m image texts b → a ≡ b
one_of m image texts a b p q =
    let said : Some p.lines ≡ Some q.lines = sym p.listing ∙ q.listing in
    let same : p.lines ≡ q.lines = cc in
    one_view m image.base q.lines a b (subst (λ (l : List Line). IsTable m image.base l a) same p.table) q.table

one_from : (m : ℕ) (images : List ImageView) (listings : List (Option (List (List ℕ)))) (a b : List TableView) → AreTablesFrom m images listings a → AreTablesFrom m images listings b → a ≡ b
one_from m [] [] [] [] p q = refl
one_from m [] [] [] (t ∷ b) p q = absurd q
one_from m [] [] (t ∷ a) b p q = absurd p
one_from m [] (l ∷ ls) a b p q = absurd p
one_from m (i ∷ is) [] a b p q = absurd p
one_from m (i ∷ is) (None ∷ ls) a b p q = one_from (m + 1) is ls a b p q
one_from m (i ∷ is) (Some texts ∷ ls) [] b p q = absurd p
one_from m (i ∷ is) (Some texts ∷ ls) (t ∷ a) [] p q = absurd q
one_from m (i ∷ is) (Some texts ∷ ls) (t ∷ a) (u ∷ b) p q =
    ap (λ (x : TableView). x ∷ a) (one_of m i texts t u p.0 q.0) ∙ ap (λ (x : List TableView). u ∷ x) (one_from (m + 1) is ls a b p.1 q.1)

pub one_tables : (j : JobView) (a b : TablesView) → Match j a → Match j b → a.tables ≡ b.tables
one_tables j a b p q = one_from 0 j.images j.listings a.tables b.tables p.tables_of q.tables_of

pub one_places : (j : JobView) (a b : TablesView) → Match j a → Match j b → a.places ≡ b.places
one_places j a b p q = p.numbered ∙ (ap all_places (one_tables j a b p q) ∙ sym q.numbered)
