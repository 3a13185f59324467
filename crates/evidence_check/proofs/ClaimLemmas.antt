-- The claims of places one after another, and what they come to.
use Rattle.std.proofs.Common.{◌≡◌, ℕ, ◌+◌, ◌≤◌, zero, suc, Bool, true, false, if◌then◌else◌, is_some, Option, Some, None, List, [], ◌∷◌, ◌++◌, length, take, drop, map, refl, sym, ◌∙◌, ap, subst, arith, append_assoc}
use Rattle.std.specs.List.{flat_map}
use Rattle.std.proofs.lemmas.List.{take-append-drop}
use Rattle.std.proofs.lemmas.Slice.Eq.{bytes_eq-Decides}
use Rattle.cov_base.specs.Meaning.{FactSet, has_fact}
use Rattle.cov_base.specs.declared.facts.Fact.{Fact}
use Rattle.cov_base.specs.declared.facts.Fact.TheVariants.{Ran, Went, Stayed}
use Rattle.module_area.specs.Meaning.{fact_count}
use Rattle.module_area.specs.declared.places.Place.{Place}
use Rattle.brk_table.specs.Meaning.{TablesView, first_place, place_count}
use Rattle.marks_file.specs.Meaning.{MarkedView}
use Rattle.marks_file.specs.declared.marks.MarkedPlace.{MarkedPlace}
use Rattle.session_book.specs.Meaning.{JobView, module_of}
use Rattle.session_marks.specs.Meaning.{marked_place, marked_module, marked_places}
use Rattle.evidence_check.specs.Meaning.{facts_of_places, facts_of_modules, Claim, agrees, past, past_place, past_places, place_claims, places_claims, modules_claims, first_refuted, entry_bytes, fact_bytes, place_entries, places_entries, module_entries}
use Rattle.evidence_check.specs.declared.firsts.First.{First}
use Rattle.evidence_check.proofs.FieldLemmas.{AreEntries, entry_written}
use Rattle.evidence_check.proofs.VisitLemmas.{IsFirst}

goes : (g : Bool) (d : ℕ × Fact) (x y z : Option (ℕ × Fact)) → (x ≡ None → y ≡ z) → (if g then x else Some d) ≡ None → (if g then y else Some d) ≡ z
goes true d x y z k h = k h
goes false d x y z k h = absurd cc

stops : (g : Bool) (d e : ℕ × Fact) (x y : Option (ℕ × Fact)) → (x ≡ Some e → y ≡ Some e) → (if g then x else Some d) ≡ Some e → (if g then y else Some d) ≡ Some e
stops true d e x y k h = k h
stops false d e x y k h = h

keeps : (g : Bool) (d : ℕ × Fact) (x y : Option (ℕ × Fact)) → (x ≡ None → y ≡ None) → (if g then x else Some d) ≡ None → (if g then y else Some d) ≡ None
keeps true d x y k h = k h
keeps false d x y k h = h

-- where no first claim is refuted the later ones tell
pub refuted_none : (xs ys : List Claim) → first_refuted xs ≡ None → first_refuted (xs ++ ys) ≡ first_refuted ys
refuted_none [] ys h = refl
refuted_none (c ∷ cs) ys h = goes c.good (c.row, c.fact) (first_refuted cs) (first_refuted (cs ++ ys)) (first_refuted ys) (refuted_none cs ys) h

pub refuted_some : (xs ys : List Claim) (e : ℕ × Fact) → first_refuted xs ≡ Some e → first_refuted (xs ++ ys) ≡ Some e
refuted_some [] ys e h = absurd cc
refuted_some (c ∷ cs) ys e h = stops c.good (c.row, c.fact) e (first_refuted cs) (first_refuted (cs ++ ys)) (refuted_some cs ys e) h

refuted_left : (xs ys : List Claim) → first_refuted (xs ++ ys) ≡ None → first_refuted xs ≡ None
refuted_left [] ys h = refl
refuted_left (c ∷ cs) ys h = keeps c.good (c.row, c.fact) (first_refuted (cs ++ ys)) (first_refuted cs) (refuted_left cs ys) h

refuted_right : (xs ys : List Claim) → first_refuted (xs ++ ys) ≡ None → first_refuted ys ≡ None
refuted_right xs ys h = sym (refuted_none xs ys (refuted_left xs ys h)) ∙ h

pub went_on : {A : Type 0} (c : Bool) (x : Option A) (d : A) → (if c then x else Some d) ≡ None → (c ≡ true) × (x ≡ None)
went_on true x d h = (refl, h)
went_on false x d h = absurd cc

-- a claim that holds: the set has the fact exactly where a visit shows it, and the entries begin with that visit's
agreed : (has : Bool) (first : Option First) (bs : List ℕ) → agrees has first bs ≡ true → (has ≡ is_some first) × (bs ≡ fact_bytes first ++ past has bs)
agreed true (Some v) bs h = (refl, sym (take-append-drop 7 bs) ∙ ap (λ t. t ++ drop 7 bs) ((bytes_eq-Decides (take 7 bs) (entry_bytes v)).0 h))
agreed true None bs h = absurd cc
agreed false (Some v) bs h = absurd cc
agreed false None bs h = (refl, refl)

agrees_with : (first : Option First) (rest : List ℕ) → agrees (is_some first) first (fact_bytes first ++ rest) ≡ true
agrees_with None rest = refl
agrees_with (Some v) rest = (bytes_eq-Decides (take 7 (entry_bytes v ++ rest)) (entry_bytes v)).1 refl

past_with : (first : Option First) (rest : List ℕ) → past (is_some first) (fact_bytes first ++ rest) ≡ rest
past_with None rest = refl
past_with (Some v) rest = refl

same_set : (a b : FactSet) → a.ran ≡ b.ran → a.went ≡ b.went → a.stayed ≡ b.stayed → a ≡ b
same_set a b r w s = ap (λ x. record { ran = x; went = a.went; stayed = a.stayed }) r ∙ (ap (λ x. record { ran = b.ran; went = x; stayed = a.stayed }) w ∙ ap (λ x. record { ran = b.ran; went = b.went; stayed = x }) s)

entries_split : (firsts : Fact → Option First) (rest : List ℕ) → place_entries firsts ++ rest ≡ fact_bytes (firsts Ran) ++ (fact_bytes (firsts Went) ++ (fact_bytes (firsts Stayed) ++ rest))
entries_split firsts rest =
    append_assoc (fact_bytes (firsts Ran)) (fact_bytes (firsts Went) ++ fact_bytes (firsts Stayed)) rest
    ∙ ap (λ t. fact_bytes (firsts Ran) ++ t) (append_assoc (fact_bytes (firsts Went)) (fact_bytes (firsts Stayed)) rest)

-- the firsts are there for exactly these facts
abbrev pub AreOf : (ℕ → Fact → Option First) → (ℕ → FactSet) → Type 0
AreOf firsts facts = (n : ℕ) (f : Fact) → is_some (firsts n f) ≡ has_fact (facts n) f

place_agreed : (row : ℕ) (set facts : FactSet) (firsts : Fact → Option First) (bs : List ℕ) → ((f : Fact) → is_some (firsts f) ≡ has_fact facts f) → first_refuted (place_claims row set firsts bs) ≡ None →
    (set ≡ facts) × (bs ≡ place_entries firsts ++ past_place set bs)
place_agreed row set facts firsts bs of h =
    let went : List ℕ = past set.ran bs in
    let stayed : List ℕ = past set.went went in
    let h1 = went_on (agrees set.ran (firsts Ran) bs) _ (row, Ran) h in
    let h2 = went_on (agrees set.went (firsts Went) went) _ (row, Went) h1.1 in
    let h3 = went_on (agrees set.stayed (firsts Stayed) stayed) None (row, Stayed) h2.1 in
    let a = agreed set.ran (firsts Ran) bs h1.0 in
    let b = agreed set.went (firsts Went) went h2.0 in
    let c = agreed set.stayed (firsts Stayed) stayed h3.0 in (
      same_set set facts (a.0 ∙ of Ran) (b.0 ∙ of Went) (c.0 ∙ of Stayed),
      a.1 ∙ (ap (λ t. fact_bytes (firsts Ran) ++ t) (b.1 ∙ ap (λ t. fact_bytes (firsts Went) ++ t) c.1) ∙ sym (entries_split firsts (past_place set bs))),
    )

one_more : (e rest bs more : List ℕ) → bs ≡ e ++ rest → rest ≡ more → bs ≡ e ++ more
one_more e rest bs more a b = a ∙ ap (λ t. e ++ t) b

places_agreed : (base : ℕ) (places : List Place) (sets facts : ℕ → FactSet) (firsts : ℕ → Fact → Option First) (row n count : ℕ) (bs : List ℕ) → AreOf firsts facts →
    first_refuted (places_claims firsts row n (marked_places base places sets n count) bs) ≡ None →
    (marked_places base places sets n count ≡ marked_places base places facts n count) × (bs ≡ places_entries firsts n count ++ past_places (marked_places base places sets n count) bs)
places_agreed base places sets facts firsts row n zero bs of h = (refl, refl)
places_agreed base places sets facts firsts row n (suc count) bs of h =
    let own = place_claims row (sets n) (firsts n) bs in
    let others = places_claims firsts (row + 1) (n + 1) (marked_places base places sets (n + 1) count) (past_place (sets n) bs) in
    let here = place_agreed row (sets n) (facts n) (firsts n) bs (of n) (refuted_left own others h) in
    let there = places_agreed base places sets facts firsts (row + 1) (n + 1) count (past_place (sets n) bs) of (refuted_right own others h) in
    let place : marked_place base places sets n ≡ marked_place base places facts n = ap (λ x. record (marked_place base places sets n) { set = x }) here.0 in (
      ap (λ (p : MarkedPlace). p ∷ marked_places base places sets (n + 1) count) place ∙ ap (λ ps. marked_place base places facts n ∷ ps) there.0,
      one_more (place_entries (firsts n)) (past_place (sets n) bs) bs _ here.1 there.1
          ∙ sym (append_assoc (place_entries (firsts n)) (places_entries firsts (n + 1) count) (past_places (marked_places base places sets (n + 1) count) (past_place (sets n) bs))),
    )

abbrev pub past_modules : List MarkedView → List ℕ → List ℕ
past_modules [] bs = bs
past_modules (m ∷ ms) bs = past_modules ms (past_places m.places bs)

-- claims that hold: the sets are those of the facts, and the entries are theirs
pub modules_agreed : (j : JobView) (tables : TablesView) (sets facts : ℕ → FactSet) (firsts : ℕ → Fact → Option First) (row : ℕ) (ns bs : List ℕ) → AreOf firsts facts →
    first_refuted (modules_claims tables firsts row (map (marked_module j tables sets) ns) ns bs) ≡ None →
    (map (marked_module j tables sets) ns ≡ map (marked_module j tables facts) ns) × (bs ≡ flat_map (module_entries tables firsts) ns ++ past_modules (map (marked_module j tables sets) ns) bs)
modules_agreed j tables sets facts firsts row [] bs of h = (refl, refl)
modules_agreed j tables sets facts firsts row (n ∷ ns) bs of h =
    let m : MarkedView = marked_module j tables sets n in
    let first : ℕ = first_place tables.tables n in
    let count : ℕ = place_count tables.tables n in
    let own = places_claims firsts (row + 1) first m.places bs in
    let others = modules_claims tables firsts (row + 1 + length m.places) (map (marked_module j tables sets) ns) ns (past_places m.places bs) in
    let here = places_agreed (module_of j n).base tables.places sets facts firsts (row + 1) first count bs of (refuted_left own others h) in
    let there = modules_agreed j tables sets facts firsts (row + 1 + length m.places) ns (past_places m.places bs) of (refuted_right own others h) in
    let whole : m ≡ marked_module j tables facts n = ap (λ (ps : List MarkedPlace). record m { places = ps }) here.0 in (
      ap (λ (x : MarkedView). x ∷ map (marked_module j tables sets) ns) whole ∙ ap (λ (xs : List MarkedView). marked_module j tables facts n ∷ xs) there.0,
      one_more (module_entries tables firsts n) (past_places m.places bs) bs _ here.1 there.1
          ∙ sym (append_assoc (module_entries tables firsts n) (flat_map (module_entries tables firsts) ns) (past_modules (map (marked_module j tables sets) ns) (past_places m.places bs))),
    )

-- entries that are read are as many as the facts

abbrev pub bit : Bool → ℕ
bit b = if b then 1 else 0

at_count : (tasks m n : ℕ) (bs : List ℕ) → m ≡ n → AreEntries tasks m bs → AreEntries tasks n bs
at_count tasks m n bs e h = subst (λ i. AreEntries tasks i bs) e h

fact_skipped : (tasks n : ℕ) (has : Bool) (bs : List ℕ) → AreEntries tasks (bit has + n) bs → AreEntries tasks n (past has bs)
fact_skipped tasks n true bs h = let k : AreEntries tasks (suc n) bs = at_count tasks (bit true + n) (suc n) bs (omega arith) h in k.1
fact_skipped tasks n false bs h = at_count tasks (bit false + n) n bs (omega arith) h

place_skipped : (tasks n : ℕ) (set : FactSet) (bs : List ℕ) → AreEntries tasks (fact_count set + n) bs → AreEntries tasks n (past_place set bs)
place_skipped tasks n set bs h =
    let k : AreEntries tasks (bit set.ran + (bit set.went + (bit set.stayed + n))) bs = at_count tasks (fact_count set + n) (bit set.ran + (bit set.went + (bit set.stayed + n))) bs (omega arith) h in
    fact_skipped tasks n set.stayed (past set.went (past set.ran bs)) (fact_skipped tasks (bit set.stayed + n) set.went (past set.ran bs) (fact_skipped tasks (bit set.went + (bit set.stayed + n)) set.ran bs k))

places_skipped : (tasks n : ℕ) (ps : List MarkedPlace) (bs : List ℕ) → AreEntries tasks (facts_of_places ps + n) bs → AreEntries tasks n (past_places ps bs)
places_skipped tasks n [] bs h = at_count tasks (0 + n) n bs (omega arith) h
places_skipped tasks n (p ∷ ps) bs h =
    let k : AreEntries tasks (fact_count p.set + (facts_of_places ps + n)) bs = at_count tasks (fact_count p.set + facts_of_places ps + n) (fact_count p.set + (facts_of_places ps + n)) bs (omega arith) h in
    places_skipped tasks n ps (past_place p.set bs) (place_skipped tasks (facts_of_places ps + n) p.set bs k)

pub modules_skipped : (tasks n : ℕ) (ms : List MarkedView) (bs : List ℕ) → AreEntries tasks (facts_of_modules ms + n) bs → AreEntries tasks n (past_modules ms bs)
modules_skipped tasks n [] bs h = at_count tasks (0 + n) n bs (omega arith) h
modules_skipped tasks n (m ∷ ms) bs h =
    let k : AreEntries tasks (facts_of_places m.places + (facts_of_modules ms + n)) bs = at_count tasks (facts_of_places m.places + facts_of_modules ms + n) (facts_of_places m.places + (facts_of_modules ms + n)) bs (omega arith) h in
    modules_skipped tasks n ms (past_places m.places bs) (places_skipped tasks (facts_of_modules ms + n) m.places bs k)

-- evidence of the facts

-- behind these bytes, of which these claims hold, the others are left
pub record Backs (tasks facts : ℕ) (bs left rest : List ℕ) (claims : List Claim) : Type 0 where
  pub holds : first_refuted claims ≡ None
  pub past : left ≡ rest
  pub entries : (n : ℕ) → AreEntries tasks n rest → AreEntries tasks (facts + n) bs

fact_backs : (tasks n : ℕ) (first : Option First) (rest : List ℕ) → tasks ≤ 65536 → ((v : First) → first ≡ Some v → IsFirst tasks v) → AreEntries tasks n rest → AreEntries tasks (bit (is_some first) + n) (fact_bytes first ++ rest)
fact_backs tasks n None rest few is h = at_count tasks n (bit false + n) rest (omega arith) h
fact_backs tasks n (Some v) rest few is h =
    let k : AreEntries tasks (suc n) (entry_bytes v ++ rest) = (entry_written tasks v rest few (is v refl).task (is v refl).before, h) in
    at_count tasks (suc n) (bit true + n) (entry_bytes v ++ rest) (omega arith) k

agrees_at : (has : Bool) (first : Option First) (rest : List ℕ) → is_some first ≡ has → agrees has first (fact_bytes first ++ rest) ≡ true
agrees_at has first rest e = ap (λ b. agrees b first (fact_bytes first ++ rest)) (sym e) ∙ agrees_with first rest

past_at : (has : Bool) (first : Option First) (rest : List ℕ) → is_some first ≡ has → past has (fact_bytes first ++ rest) ≡ rest
past_at has first rest e = ap (λ b. past b (fact_bytes first ++ rest)) (sym e) ∙ past_with first rest

place_backs : (tasks row : ℕ) (facts : FactSet) (firsts : Fact → Option First) (rest : List ℕ) → tasks ≤ 65536 → ((f : Fact) → is_some (firsts f) ≡ has_fact facts f) → ((f : Fact) (v : First) → firsts f ≡ Some v → IsFirst tasks v) →
    Backs tasks (fact_count facts) (place_entries firsts ++ rest) (past_place facts (place_entries firsts ++ rest)) rest (place_claims row facts firsts (place_entries firsts ++ rest))
place_backs tasks row facts firsts rest few of is =
    let r : List ℕ = fact_bytes (firsts Ran) in
    let w : List ℕ = fact_bytes (firsts Went) in
    let s : List ℕ = fact_bytes (firsts Stayed) in
    let split : place_entries firsts ++ rest ≡ r ++ (w ++ (s ++ rest)) = entries_split firsts rest in
    let went : past facts.ran (r ++ (w ++ (s ++ rest))) ≡ w ++ (s ++ rest) = past_at facts.ran (firsts Ran) (w ++ (s ++ rest)) (of Ran) in
    let stayed : past facts.went (w ++ (s ++ rest)) ≡ s ++ rest = past_at facts.went (firsts Went) (s ++ rest) (of Went) in
    let left : past facts.stayed (s ++ rest) ≡ rest = past_at facts.stayed (firsts Stayed) rest (of Stayed) in
    record {
      holds = ap (λ t. first_refuted (place_claims row facts firsts t)) split
          ∙ rw (agrees_at facts.ran (firsts Ran) (w ++ (s ++ rest)) (of Ran), went, agrees_at facts.went (firsts Went) (s ++ rest) (of Went), stayed, agrees_at facts.stayed (firsts Stayed) rest (of Stayed)) refl;
      past = ap (past_place facts) split ∙ (ap (λ t. past facts.stayed (past facts.went t)) went ∙ (ap (past facts.stayed) stayed ∙ left));
      entries = λ n h.
          let k1 = fact_backs tasks n (firsts Stayed) rest few (is Stayed) h in
          let k2 = fact_backs tasks (bit (is_some (firsts Stayed)) + n) (firsts Went) (s ++ rest) few (is Went) k1 in
          let k3 = fact_backs tasks (bit (is_some (firsts Went)) + (bit (is_some (firsts Stayed)) + n)) (firsts Ran) (w ++ (s ++ rest)) few (is Ran) k2 in
          let count : bit (is_some (firsts Ran)) + (bit (is_some (firsts Went)) + (bit (is_some (firsts Stayed)) + n)) ≡ fact_count facts + n =
          omega (arith, ap bit (of Ran), ap bit (of Went), ap bit (of Stayed)) in
          subst (λ t. AreEntries tasks (fact_count facts + n) t) (sym split) (subst (λ i. AreEntries tasks i (r ++ (w ++ (s ++ rest)))) count k3);
    }

places_back : (tasks base : ℕ) (places : List Place) (facts : ℕ → FactSet) (firsts : ℕ → Fact → Option First) (row n count : ℕ) (rest : List ℕ) → tasks ≤ 65536 → AreOf firsts facts →
    ((m : ℕ) (f : Fact) (v : First) → firsts m f ≡ Some v → IsFirst tasks v) →
    Backs tasks (facts_of_places (marked_places base places facts n count)) (places_entries firsts n count ++ rest) (past_places (marked_places base places facts n count) (places_entries firsts n count ++ rest)) rest
    (places_claims firsts row n (marked_places base places facts n count) (places_entries firsts n count ++ rest))
places_back tasks base places facts firsts row n zero rest few of is = record { holds = refl; past = refl; entries = λ k h. at_count tasks k (0 + k) rest (omega arith) h }
places_back tasks base places facts firsts row n (suc count) rest few of is =
    let more : List ℕ = places_entries firsts (n + 1) count ++ rest in
    let ps : List MarkedPlace = marked_places base places facts (n + 1) count in
    let split : (place_entries (firsts n) ++ places_entries firsts (n + 1) count) ++ rest ≡ place_entries (firsts n) ++ more = append_assoc (place_entries (firsts n)) (places_entries firsts (n + 1) count) rest in
    let here = place_backs tasks row (facts n) (firsts n) more few (of n) (is n) in
    let there = places_back tasks base places facts firsts (row + 1) (n + 1) count rest few of is in
    record {
      holds = ap (λ t. first_refuted (places_claims firsts row n (marked_place base places facts n ∷ ps) t)) split
          ∙ (refuted_none (place_claims row (facts n) (firsts n) (place_entries (firsts n) ++ more)) (places_claims firsts (row + 1) (n + 1) ps (past_place (facts n) (place_entries (firsts n) ++ more))) here.holds
          ∙ (ap (λ t. first_refuted (places_claims firsts (row + 1) (n + 1) ps t)) here.past ∙ there.holds));
      past = ap (λ t. past_places ps (past_place (facts n) t)) split ∙ (ap (past_places ps) here.past ∙ there.past);
      entries = λ k h.
          let count : fact_count (facts n) + (facts_of_places ps + k) ≡ fact_count (facts n) + facts_of_places ps + k = omega arith in
          subst (λ t. AreEntries tasks (fact_count (facts n) + facts_of_places ps + k) t) (sym split)
          (subst (λ i. AreEntries tasks i (place_entries (firsts n) ++ more)) count (here.entries (facts_of_places ps + k) (there.entries k h)));
    }

pub modules_back : (tasks : ℕ) (j : JobView) (tables : TablesView) (facts : ℕ → FactSet) (firsts : ℕ → Fact → Option First) (row : ℕ) (ns rest : List ℕ) → tasks ≤ 65536 → AreOf firsts facts →
    ((m : ℕ) (f : Fact) (v : First) → firsts m f ≡ Some v → IsFirst tasks v) →
    Backs tasks (facts_of_modules (map (marked_module j tables facts) ns)) (flat_map (module_entries tables firsts) ns ++ rest) (past_modules (map (marked_module j tables facts) ns) (flat_map (module_entries tables firsts) ns ++ rest)) rest
    (modules_claims tables firsts row (map (marked_module j tables facts) ns) ns (flat_map (module_entries tables firsts) ns ++ rest))
modules_back tasks j tables facts firsts row [] rest few of is = record { holds = refl; past = refl; entries = λ k h. at_count tasks k (0 + k) rest (omega arith) h }
modules_back tasks j tables facts firsts row (n ∷ ns) rest few of is =
    let m : MarkedView = marked_module j tables facts n in
    let ms : List MarkedView = map (marked_module j tables facts) ns in
    let own : List ℕ = module_entries tables firsts n in
    let others : List ℕ = flat_map (module_entries tables firsts) ns in
    let more : List ℕ = others ++ rest in
    let first : ℕ = first_place tables.tables n in
    let split : (own ++ others) ++ rest ≡ own ++ more = append_assoc own others rest in
    let here = places_back tasks (module_of j n).base tables.places facts firsts (row + 1) first (place_count tables.tables n) more few of is in
    let there = modules_back tasks j tables facts firsts (row + 1 + length m.places) ns rest few of is in
    record {
      holds = ap (λ t. first_refuted (modules_claims tables firsts row (m ∷ ms) (n ∷ ns) t)) split
          ∙ (refuted_none (places_claims firsts (row + 1) first m.places (own ++ more)) (modules_claims tables firsts (row + 1 + length m.places) ms ns (past_places m.places (own ++ more))) here.holds
          ∙ (ap (λ t. first_refuted (modules_claims tables firsts (row + 1 + length m.places) ms ns t)) here.past ∙ there.holds));
      past = ap (λ t. past_modules ms (past_places m.places t)) split ∙ (ap (past_modules ms) here.past ∙ there.past);
      entries = λ k h.
          let count : facts_of_places m.places + (facts_of_modules ms + k) ≡ facts_of_places m.places + facts_of_modules ms + k = omega arith in
          subst (λ t. AreEntries tasks (facts_of_places m.places + facts_of_modules ms + k) t) (sym split)
          (subst (λ i. AreEntries tasks i (own ++ more)) count (here.entries (facts_of_modules ms + k) (there.entries k h)));
    }
