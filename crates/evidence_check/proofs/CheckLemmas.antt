-- What the loops over claims keep.
use Rattle.std.proofs.Common.{◌≡◌, ℕ, ◌+◌, ◌-◌, ◌<◌, ◌≤◌, Bool, true, false, Option, Some, None, List, [], ◌∷◌, ◌++◌, length, take, drop, get_or, min, ◌⊎◌, inl, inr, refl, sym, ◌∙◌, ap, subst, arith, length-take, length-drop}
use Rattle.std.specs.Str.{bytes_eq}
use Rattle.std.proofs.Math.ListN.{drop_of_length-le}
use Rattle.std.proofs.lemmas.Bool.{cases_lt, false_from_ne_true}
use Rattle.std.proofs.lemmas.List.{at_drop_more}
use Rattle.std.proofs.lemmas.Slice.Eq.{bytes_eq-Decides}
use Rattle.cov_base.specs.declared.facts.Fact.{Fact}
use Rattle.cov_base.specs.declared.facts.Fact.TheVariants.{Ran, Went, Stayed}
use Rattle.brk_table.specs.Meaning.{TablesView, first_place}
use Rattle.marks_file.specs.Meaning.{MarkedView, place_total}
use Rattle.marks_file.specs.declared.marks.MarkedPlace.{MarkedPlace}
use Rattle.session_marks.specs.Filled.{AreThere}
use Rattle.evidence_check.specs.Meaning.{past, past_place, past_places, place_claims, places_claims, modules_claims, first_refuted, entry_bytes}
use Rattle.evidence_check.specs.declared.firsts.First.{First}
use Rattle.evidence_check.proofs.ClaimLemmas.{refuted_none, refuted_some}

-- fewer bytes than an entry's are none
pub short_entry : (bs : List ℕ) (at : ℕ) (v : First) → length bs - at < 7 → false ≡ bytes_eq (take 7 (drop at bs)) (entry_bytes v)
short_entry bs at v short =
    let size : length (take 7 (drop at bs)) ≤ length (drop at bs) = simp length-take (omega arith) in
    sym (false_from_ne_true _ (λ e. let same : length (take 7 (drop at bs)) ≡ 7 = ap length ((bytes_eq-Decides (take 7 (drop at bs)) (entry_bytes v)).0 e) in omega (arith, size, same, length-drop at bs)))

pub past_of : (has : Bool) (xs bs : List ℕ) → has ≡ true → xs ≡ drop 7 bs → xs ≡ past has bs
past_of true xs bs e is = is
past_of false xs bs e is = absurd cc

pub short_past : (bs : List ℕ) (at : ℕ) → length bs - at < 7 → drop (length bs) bs ≡ drop 7 (drop at bs)
short_past bs at short =
    let all : length (drop at bs) ≤ 7 = omega (arith, length-drop at bs) in
    drop_of_length-le bs (omega arith) ∙ sym (drop_of_length-le (drop at bs) all)

-- i places were checked, and the entries of the others begin at `at`
pub record PlacesSoFar (bs : List ℕ) (firsts : ℕ → Fact → Option First) (from row first : ℕ) (ps : List MarkedPlace) (at i : ℕ) : Type 0 where
  pub inside : at ≤ length bs
  pub rest : past_places (drop i ps) (drop at bs) ≡ past_places ps (drop from bs)
  pub claims : first_refuted (places_claims firsts row first ps (drop from bs)) ≡ first_refuted (places_claims firsts (row + i) (first + i) (drop i ps) (drop at bs))

-- the claims from place i on
from_here : (bs : List ℕ) (firsts : ℕ → Fact → Option First) (row first : ℕ) (ps : List MarkedPlace) (at i : ℕ) (p : MarkedPlace) → i < length ps → p ≡ get_or ps i p →
    first_refuted (places_claims firsts (row + i) (first + i) (drop i ps) (drop at bs))
    ≡ first_refuted (place_claims (row + i) p.set (firsts (first + i)) (drop at bs) ++ places_claims firsts (row + i + 1) (first + i + 1) (drop (i + 1) ps) (past_place p.set (drop at bs)))
from_here bs firsts row first ps at i p lt is =
    at_drop_more (λ qs. first_refuted (places_claims firsts (row + i) (first + i) qs (drop at bs))) ps i p lt
    ∙ ap (λ (q : MarkedPlace). first_refuted (places_claims firsts (row + i) (first + i) (q ∷ drop (i + 1) ps) (drop at bs))) (sym is)

pub places_step : (bs : List ℕ) (firsts : ℕ → Fact → Option First) (from row first : ℕ) (ps : List MarkedPlace) (at to i : ℕ) (p : MarkedPlace) → PlacesSoFar bs firsts from row first ps at i → i < length ps → p ≡ get_or ps i p →
    first_refuted (place_claims (row + i) p.set (firsts (first + i)) (drop at bs)) ≡ None → to ≤ length bs → drop to bs ≡ past_place p.set (drop at bs) → PlacesSoFar bs firsts from row first ps to (i + 1)
places_step bs firsts from row first ps at to i p s lt is none inside past =
    let r : row + i + 1 ≡ row + (i + 1) = omega arith in
    let n : first + i + 1 ≡ first + (i + 1) = omega arith in
    record {
      inside = inside;
      rest = ap (past_places (drop (i + 1) ps)) past
          ∙ (sym (at_drop_more (λ qs. past_places qs (drop at bs)) ps i p lt ∙ ap (λ (q : MarkedPlace). past_places (drop (i + 1) ps) (past_place q.set (drop at bs))) (sym is)) ∙ s.rest);
      claims = s.claims ∙ (from_here bs firsts row first ps at i p lt is
          ∙ (refuted_none (place_claims (row + i) p.set (firsts (first + i)) (drop at bs)) (places_claims firsts (row + i + 1) (first + i + 1) (drop (i + 1) ps) (past_place p.set (drop at bs))) none
          ∙ (ap (λ t. first_refuted (places_claims firsts (row + i + 1) (first + i + 1) (drop (i + 1) ps) t)) (sym past)
          ∙ (ap (λ k. first_refuted (places_claims firsts k (first + i + 1) (drop (i + 1) ps) (drop to bs))) r
          ∙ ap (λ k. first_refuted (places_claims firsts (row + (i + 1)) k (drop (i + 1) ps) (drop to bs))) n))));
    }

pub places_stop : (bs : List ℕ) (firsts : ℕ → Fact → Option First) (from row first : ℕ) (ps : List MarkedPlace) (at i : ℕ) (p : MarkedPlace) (e : ℕ × Fact) → PlacesSoFar bs firsts from row first ps at i → i < length ps → p ≡ get_or ps i p →
    first_refuted (place_claims (row + i) p.set (firsts (first + i)) (drop at bs)) ≡ Some e → first_refuted (places_claims firsts row first ps (drop from bs)) ≡ Some e
places_stop bs firsts from row first ps at i p e s lt is some =
    s.claims ∙ (from_here bs firsts row first ps at i p lt is
    ∙ refuted_some (place_claims (row + i) p.set (firsts (first + i)) (drop at bs)) (places_claims firsts (row + i + 1) (first + i + 1) (drop (i + 1) ps) (past_place p.set (drop at bs))) e some)

-- i modules were checked, and the entries of the others begin at `at`
pub record ModulesSoFar (bs : List ℕ) (tables : TablesView) (firsts : ℕ → Fact → Option First) (ms : List MarkedView) (ns : List ℕ) (at row i : ℕ) : Type 0 where
  pub inside : at ≤ length bs
  pub there : AreThere tables (drop i ms) (drop i ns)
  pub rows : row + (length (drop i ms) + place_total (drop i ms)) ≡ length ms + place_total ms
  pub claims : first_refuted (modules_claims tables firsts 0 ms ns (drop 8 bs)) ≡ first_refuted (modules_claims tables firsts row (drop i ms) (drop i ns) (drop at bs))

-- the next module and its number
next_module : {Y : Type 0} (f : List MarkedView → List ℕ → Y) (ms : List MarkedView) (ns : List ℕ) (i : ℕ) (m : MarkedView) → i < length ms → i < length ns → m ≡ get_or ms i m →
    f (drop i ms) (drop i ns) ≡ f (m ∷ drop (i + 1) ms) (get_or ns i 0 ∷ drop (i + 1) ns)
next_module f ms ns i m lm ln is =
    at_drop_more (λ xs. f xs (drop i ns)) ms i m lm ∙ (ap (λ (x : MarkedView). f (x ∷ drop (i + 1) ms) (drop i ns)) (sym is) ∙ at_drop_more (λ ys. f (m ∷ drop (i + 1) ms) ys) ns i 0 ln)

both_there : (tables : TablesView) (ms : List MarkedView) (ns : List ℕ) (i : ℕ) (m : MarkedView) → i < length ms → i < length ns → m ≡ get_or ms i m → AreThere tables (drop i ms) (drop i ns) →
    (first_place tables.tables (get_or ns i 0) + length m.places ≤ length tables.places) × AreThere tables (drop (i + 1) ms) (drop (i + 1) ns)
both_there tables ms ns i m lm ln is there =
    let drops : (drop i ms ≡ m ∷ drop (i + 1) ms) × (drop i ns ≡ get_or ns i 0 ∷ drop (i + 1) ns) =
    (at_drop_more (λ xs. xs) ms i m lm ∙ ap (λ (x : MarkedView). x ∷ drop (i + 1) ms) (sym is), at_drop_more (λ ys. ys) ns i 0 ln) in
    subst (λ ys. AreThere tables (m ∷ drop (i + 1) ms) ys) drops.1 (subst (λ xs. AreThere tables xs (drop i ns)) drops.0 there)

row_count : (ms : List MarkedView) (i : ℕ) (m : MarkedView) → i < length ms → m ≡ get_or ms i m → length (drop i ms) + place_total (drop i ms) ≡ 1 + length m.places + (length (drop (i + 1) ms) + place_total (drop (i + 1) ms))
row_count ms i m lt is =
    at_drop_more (λ xs. length xs + place_total xs) ms i m lt ∙ (ap (λ (x : MarkedView). length (x ∷ drop (i + 1) ms) + place_total (x ∷ drop (i + 1) ms)) (sym is) ∙ omega arith)

pub modules_step : (bs : List ℕ) (tables : TablesView) (firsts : ℕ → Fact → Option First) (ms : List MarkedView) (ns : List ℕ) (at to row i : ℕ) (m : MarkedView) → ModulesSoFar bs tables firsts ms ns at row i → i < length ms → i < length ns → m ≡ get_or ms i m →
    first_refuted (places_claims firsts (row + 1) (first_place tables.tables (get_or ns i 0)) m.places (drop at bs)) ≡ None → to ≤ length bs → drop to bs ≡ past_places m.places (drop at bs) →
    ModulesSoFar bs tables firsts ms ns to (row + (1 + length m.places)) (i + 1)
modules_step bs tables firsts ms ns at to row i m s lm ln is none inside past =
    let n : ℕ = get_or ns i 0 in
    let own = places_claims firsts (row + 1) (first_place tables.tables n) m.places (drop at bs) in
    let others = modules_claims tables firsts (row + 1 + length m.places) (drop (i + 1) ms) (drop (i + 1) ns) (past_places m.places (drop at bs)) in
    let r : row + 1 + length m.places ≡ row + (1 + length m.places) = omega arith in
    record {
      inside = inside;
      there = (both_there tables ms ns i m lm ln is s.there).1;
      rows = omega (arith, s.rows, row_count ms i m lm is);
      claims = s.claims ∙ (next_module (λ xs ys. first_refuted (modules_claims tables firsts row xs ys (drop at bs))) ms ns i m lm ln is
          ∙ (refuted_none own others none
          ∙ (ap (λ t. first_refuted (modules_claims tables firsts (row + 1 + length m.places) (drop (i + 1) ms) (drop (i + 1) ns) t)) (sym past)
          ∙ ap (λ k. first_refuted (modules_claims tables firsts k (drop (i + 1) ms) (drop (i + 1) ns) (drop to bs))) r)));
    }

pub modules_stop : (bs : List ℕ) (tables : TablesView) (firsts : ℕ → Fact → Option First) (ms : List MarkedView) (ns : List ℕ) (at row i : ℕ) (m : MarkedView) (e : ℕ × Fact) → ModulesSoFar bs tables firsts ms ns at row i → i < length ms → i < length ns → m ≡ get_or ms i m →
    first_refuted (places_claims firsts (row + 1) (first_place tables.tables (get_or ns i 0)) m.places (drop at bs)) ≡ Some e → Some e ≡ first_refuted (modules_claims tables firsts 0 ms ns (drop 8 bs))
modules_stop bs tables firsts ms ns at row i m e s lm ln is some =
    let n : ℕ = get_or ns i 0 in
    let own = places_claims firsts (row + 1) (first_place tables.tables n) m.places (drop at bs) in
    let others = modules_claims tables firsts (row + 1 + length m.places) (drop (i + 1) ms) (drop (i + 1) ns) (past_places m.places (drop at bs)) in
    sym (s.claims ∙ (next_module (λ xs ys. first_refuted (modules_claims tables firsts row xs ys (drop at bs))) ms ns i m lm ln is ∙ refuted_some own others e some))

no_claims : (tables : TablesView) (firsts : ℕ → Fact → Option First) (row : ℕ) (ms : List MarkedView) (ns bs : List ℕ) → (length ms ≡ 0) ⊎ (length ns ≡ 0) → first_refuted (modules_claims tables firsts row ms ns bs) ≡ None
no_claims tables firsts row [] ns bs e = refl
no_claims tables firsts row (m ∷ ms) [] bs e = refl
no_claims tables firsts row (m ∷ ms) (n ∷ ns) bs e = elim e [ inl x ↦ absurd (omega arith) | inr x ↦ absurd (omega arith) ]

pub min_past : (a b i : ℕ) → min a b ≤ i → (a ≤ i) ⊎ (b ≤ i)
min_past a b i h = elim (cases_lt i a) [ inl lt ↦ inr (omega arith) | inr le ↦ inl le ]

pub modules_hold : (bs : List ℕ) (tables : TablesView) (firsts : ℕ → Fact → Option First) (ms : List MarkedView) (ns : List ℕ) (at row i : ℕ) → ModulesSoFar bs tables firsts ms ns at row i → (length ms ≤ i) ⊎ (length ns ≤ i) →
    None ≡ first_refuted (modules_claims tables firsts 0 ms ns (drop 8 bs))
modules_hold bs tables firsts ms ns at row i s all =
    let none : (length (drop i ms) ≡ 0) ⊎ (length (drop i ns) ≡ 0) = elim all [ inl x ↦ inl (omega (arith, length-drop i ms)) | inr x ↦ inr (omega (arith, length-drop i ns)) ] in
    sym (s.claims ∙ no_claims tables firsts row (drop i ms) (drop i ns) (drop at bs) none)

-- the claims against firsts that are the same at each place of the tables

same_place : (row : ℕ) (p : MarkedPlace) (f g : Fact → Option First) (bs : List ℕ) → ((a : Fact) → f a ≡ g a) → place_claims row p.set f bs ≡ place_claims row p.set g bs
same_place row p f g bs same = rw (same Ran, same Went, same Stayed) refl

same_places : (firsts others : ℕ → Fact → Option First) (row n most : ℕ) (ps : List MarkedPlace) (bs : List ℕ) → n + length ps ≤ most → ((m : ℕ) → m < most → (f : Fact) → firsts m f ≡ others m f) →
    places_claims firsts row n ps bs ≡ places_claims others row n ps bs
same_places firsts others row n most [] bs le same = refl
same_places firsts others row n most (p ∷ ps) bs le same =
    ap (λ cs. cs ++ places_claims firsts (row + 1) (n + 1) ps (past_place p.set bs)) (same_place row p (firsts n) (others n) bs (same n (omega arith)))
    ∙ ap (λ cs. place_claims row p.set (others n) bs ++ cs) (same_places firsts others (row + 1) (n + 1) most ps (past_place p.set bs) (omega arith) same)

pub same_claims : (tables : TablesView) (firsts others : ℕ → Fact → Option First) (row : ℕ) (ms : List MarkedView) (ns bs : List ℕ) → AreThere tables ms ns → ((m : ℕ) → m < length tables.places → (f : Fact) → firsts m f ≡ others m f) →
    modules_claims tables firsts row ms ns bs ≡ modules_claims tables others row ms ns bs
same_claims tables firsts others row [] ns bs there same = refl
same_claims tables firsts others row (m ∷ ms) [] bs there same = refl
same_claims tables firsts others row (m ∷ ms) (n ∷ ns) bs there same =
    ap (λ cs. cs ++ modules_claims tables firsts (row + 1 + length m.places) ms ns (past_places m.places bs)) (same_places firsts others (row + 1) (first_place tables.tables n) (length tables.places) m.places bs there.0 same)
    ∙ ap (λ cs. places_claims others (row + 1) (first_place tables.tables n) m.places bs ++ cs) (same_claims tables firsts others (row + 1 + length m.places) ms ns (past_places m.places bs) there.1 same)
