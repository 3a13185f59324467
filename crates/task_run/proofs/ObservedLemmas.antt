-- One visit of a pass, and visits one after the other.
use Rattle.std.proofs.Common.{◌≡◌, ◌≢◌, ◌⊎◌, ℕ, ◌+◌, ◌*◌, ◌/◌, Bool, true, false, ◌&&◌, ◌||◌, if◌then◌else◌, ◌==◌, nat_eq, List, [], ◌∷◌, ◌++◌, inl, inr, refl, sym, ◌∙◌, ap, subst, arith}
use Rattle.std.proofs.Math.Bool.{or_comm, or_assoc}
use Rattle.std.proofs.lemmas.Bool.{or_cases, or_left, or_right, and_parts, and_from, eqb-true, eq-eqb, cond_both, both_ways}
use Rattle.cov_base.specs.Meaning.{breakpoint, FactSet, no_facts, has_fact, with_fact, same_fact, fact_of, Visit}
use Rattle.cov_base.specs.declared.facts.Fact.{Fact}
use Rattle.cov_base.proofs.Laws.{same_fact-self, same_fact-true, has_fact-none, has_fact-with_fact}
use Rattle.module_area.specs.declared.cells.Cell.{Cell}
use Rattle.module_area.specs.declared.places.Place.{Place}
use Rattle.module_area.specs.Meaning.{PlanView, place_of, kind_at, original_at, executes, facts_at, is_place, visits_at_places}
use Rattle.module_area.specs.Notes.{Notes, after_fetch, is_free_under, IsAnswer}
use Rattle.brk_table.proofs.Laws.{is_place-there}
use Rattle.task_run.specs.Sights.{BeginsAt}
use Rattle.task_run.specs.Traps.{Settles}
use Rattle.task_run.specs.Observed.{Grows, Observes, Stays, ShowsAt, IsRecorded}
use Rattle.task_run.proofs.NotesLemmas.{Adds, Adds-settled, Grows-fetched, all_three, three_from}
use Rattle.task_run.proofs.PlaceLemmas.{none_begins}

-- facts in sets

-- the fact of an execution, if it is one
pub has_fact-more : (b : Bool) (g f : Fact) (s : FactSet) → has_fact (if b then with_fact s g else s) f ≡ ((b && same_fact f g) || has_fact s f)
has_fact-more true g f s = has_fact-with_fact s g f ∙ or_comm (has_fact s f) (same_fact f g)
has_fact-more false g f s = refl

pub facts_at-more : (place : Place) (v : Visit) (vs : List Visit) (f : Fact) →
    has_fact (facts_at place (v ∷ vs)) f ≡ ((executes place v && same_fact f (fact_of place.kind v.went)) || has_fact (facts_at place vs) f)
facts_at-more place v vs f = has_fact-more (executes place v) (fact_of place.kind v.went) f (facts_at place vs)

pub facts_at-append : (place : Place) (xs ys : List Visit) (f : Fact) →
    has_fact (facts_at place (xs ++ ys)) f ≡ (has_fact (facts_at place xs) f || has_fact (facts_at place ys) f)
facts_at-append place [] ys f = ap (λ b. b || has_fact (facts_at place ys) f) (sym (has_fact-none f))
facts_at-append place (v ∷ xs) ys f =
    let shows : Bool = executes place v && same_fact f (fact_of place.kind v.went) in
    facts_at-more place v (xs ++ ys) f
    ∙ ap (λ b. shows || b) (facts_at-append place xs ys f)
    ∙ sym (or_assoc shows (has_fact (facts_at place xs) f) (has_fact (facts_at place ys) f))
    ∙ ap (λ b. b || has_fact (facts_at place ys) f) (sym (facts_at-more place v xs f))

pub visits_at_places-append : (places : List Place) (xs ys : List Visit) → visits_at_places places (xs ++ ys) ≡ visits_at_places places xs + visits_at_places places ys
visits_at_places-append places [] ys = omega arith
visits_at_places-append places (v ∷ xs) ys = omega (arith, visits_at_places-append places xs ys)

-- what one visit shows at a place
one_shows : (place : Place) (v : Visit) (f : Fact) → has_fact (facts_at place (v ∷ [])) f ≡ true → (v.begun ≡ true) × (v.at ≡ place.at) × (f ≡ fact_of place.kind v.went)
one_shows place v f h = elim (or_cases (executes place v && same_fact f (fact_of place.kind v.went)) (has_fact no_facts f) (sym (facts_at-more place v [] f) ∙ h)) [
  | inl now ↦
      let both = and_parts (executes place v) (same_fact f (fact_of place.kind v.went)) now in
      let there = and_parts v.begun (v.at == place.at) both.0 in
      (there.0, eqb-true v.at place.at there.1, same_fact-true f (fact_of place.kind v.went) both.1)
  | inr never ↦ absurd (both_ways (has_fact no_facts f) (has_fact-none f) never)
]

shows_one : (place : Place) (v : Visit) → v.begun ≡ true → v.at ≡ place.at → has_fact (facts_at place (v ∷ [])) (fact_of place.kind v.went) ≡ true
shows_one place v begun at =
    let f : Fact = fact_of place.kind v.went in
    let there : executes place v ≡ true = and_from v.begun (v.at == place.at) begun (eq-eqb v.at place.at at) in
    facts_at-more place v [] f ∙ or_left (executes place v && same_fact f f) (has_fact no_facts f) (and_from (executes place v) (same_fact f f) there (same_fact-self f))

-- notes that grow

pub Grows-same : (n : Notes) → Grows n n
Grows-same n = record {
  marked = λ s p f m. m;
  full = λ s p m. m;
  free = λ s p m. m;
  met = λ s p m. inl m;
  bears = refl;
  given = refl;
  out = refl;
}

pub Grows-trans : (a b c : Notes) → Grows a b → Grows b c → Grows a c
Grows-trans a b c g h = record {
  marked = λ s p f m. h.marked s p f (g.marked s p f m);
  full = λ s p m. h.full s p (g.full s p m);
  free = λ s p m. h.free s p (g.free s p m);
  met = λ s p m. elim (h.met s p m) [
    | inl old ↦ elim (g.met s p old) [ inl first ↦ inl first | inr free ↦ inr (h.free s p free) ]
    | inr free ↦ inr free
  ];
  bears = h.bears ∙ g.bears;
  given = h.given ∙ g.given;
  out = h.out ∙ g.out;
}

pub shown_later : (b c : Notes) (s p : ℕ) (f : Fact) → Grows b c → IsRecorded b s p f → IsRecorded c s p f
shown_later b c s p f h shown = elim shown [ inl m ↦ inl (h.marked s p f m) | inr m ↦ inr (h.full s p m) ]

-- no visit, and one at no place

pub Observes-none : (plan : PlanView) (n : Notes) → Observes plan n n []
Observes-none plan n = record {
  grows = Grows-same n;
  nothing_else = λ s p f m. inl m;
  shown = λ s p f stays h. absurd (both_ways (has_fact no_facts f) (has_fact-none f) h.there);
  stays = λ s p stays. stays;
  fetches = omega arith;
  marks = omega arith;
  lifts = omega arith;
}

pub Observes-plain : (plan : PlanView) (n : Notes) (v : Visit) → is_place plan.places v.at ≡ false → Observes plan n n (v ∷ [])
Observes-plain plan n v none =
    let count : visits_at_places plan.places (v ∷ []) ≡ 0 = rw none refl in
    record {
      grows = Grows-same n;
      nothing_else = λ s p f m. inl m;
      shown = λ s p f stays h. absurd (none_begins plan.places v.at p none h.exists (sym (one_shows (place_of plan.places p) v f h.there).1));
      stays = λ s p stays. stays;
      fetches = omega arith;
      marks = omega arith;
      lifts = omega arith;
    }

-- one visit at a place

one_at_place : (plan : PlanView) (v : Visit) (q : ℕ) → BeginsAt plan.places v.at q → visits_at_places plan.places (v ∷ []) ≡ 1
one_at_place plan v q b = let there : is_place plan.places v.at ≡ true = is_place-there plan.places q v.at b.exists b.begins in rw there refl

-- the tag that stays is answered
stays_tag : (plan : PlanView) (old : Notes) (s p q : ℕ) (cell : Cell) → IsAnswer plan old q cell → p ≡ q → Stays plan old s p → cell.tag + 1 ≡ 2 * s
stays_tag plan old s p q cell a e stays =
    let there : Stays plan old s q = subst (Stays plan old s) e stays in
    let tag : cell.tag ≡ old.seen q = a.window (omega (arith, there.some, there.whole)) (omega (arith, there.seen, there.whole)) in
    omega (arith, there.seen, tag)

stays_fetched : (plan : PlanView) (old : Notes) (q : ℕ) (cell : Cell) → IsAnswer plan old q cell → (s p : ℕ) → Stays plan old s p → Stays plan (after_fetch plan old q cell) s p
stays_fetched plan old q cell a s p stays = record {
  some = stays.some;
  whole = stays.whole;
  seen = cond_both (nat_eq p q) cell.tag (old.seen p) (λ t. t + 1 ≡ 2 * s) (λ e. stays_tag plan old s p q cell a (eqb-true p q e) stays) (λ e. stays.seen);
}

-- the place was free, or the visit wasn't begun
pub Observes-kept : (plan : PlanView) (old : Notes) (q : ℕ) (cell : Cell) (v : Visit) →
    BeginsAt plan.places v.at q → IsAnswer plan old q cell → (v.begun ≡ true → cell.half ≢ breakpoint) → Observes plan old (after_fetch plan old q cell) (v ∷ [])
Observes-kept plan old q cell v b a free =
    let count = one_at_place plan v q b in
    record {
      grows = Grows-fetched plan old q cell;
      nothing_else = λ s p f m. inl m;
      shown = λ s p f stays h.
          let parts = one_shows (place_of plan.places p) v f h.there in
          let e : p ≡ q = b.only p h.exists (sym parts.1) in
          let half : nat_eq cell.half (original_at plan q) ≡ true = eq-eqb cell.half (original_at plan q) (a.plain (free parts.0)) in
          let tag : nat_eq (cell.tag + 1) (2 * s) ≡ true = eq-eqb (cell.tag + 1) (2 * s) (stays_tag plan old s p q cell a e stays) in
          let under : is_free_under plan q cell s ≡ true = and_from (nat_eq cell.half (original_at plan q)) (nat_eq (cell.tag + 1) (2 * s)) half tag in
          inr (or_right (old.full s p) (nat_eq p q && is_free_under plan q cell s) (and_from (nat_eq p q) (is_free_under plan q cell s) (eq-eqb p q e) under));
      stays = stays_fetched plan old q cell a;
      fetches = omega arith;
      marks = omega arith;
      lifts = omega arith;
    }

-- a trap was settled
pub Observes-settled : (plan : PlanView) (old new : Notes) (q : ℕ) (cell : Cell) (v : Visit) →
    BeginsAt plan.places v.at q → IsAnswer plan old q cell → v.begun ≡ true →
    Settles plan (after_fetch plan old q cell) new (cell.tag / 2 + 1) q (fact_of (kind_at plan q) v.went) → Observes plan old new (v ∷ [])
Observes-settled plan old new q cell v b a begun h =
    let s : ℕ = cell.tag / 2 + 1 in
    let g : Fact = fact_of (kind_at plan q) v.went in
    let mid : Notes = after_fetch plan old q cell in
    let adds : Adds mid new s q g = Adds-settled plan mid new s q g h in
    let count = one_at_place plan v q b in
    record {
      grows = Grows-trans old mid new (Grows-fetched plan old q cell) adds.grows;
      nothing_else = λ t p f m. elim (or_cases (old.marked t p f) (nat_eq t s && nat_eq p q && same_fact f g) (sym (adds.marked t p f) ∙ m)) [
        | inl before ↦ inl before
        | inr now ↦
            let parts = all_three (nat_eq t s) (nat_eq p q) (same_fact f g) now in
            let e : p ≡ q = eqb-true p q parts.1 in
            let same : f ≡ g = same_fact-true f g parts.2 in
            let there : ShowsAt plan (v ∷ []) q g = record { exists = b.exists; there = shows_one (place_of plan.places q) v begun (sym b.begins) } in
            inr (subst (λ r. ShowsAt plan (v ∷ []) r f) (sym e) (subst (λ x. ShowsAt plan (v ∷ []) q x) (sym same) there))
      ];
      shown = λ w p f stays h.
          let parts = one_shows (place_of plan.places p) v f h.there in
          let e : p ≡ q = b.only p h.exists (sym parts.1) in
          let session : nat_eq w s ≡ true = eq-eqb w s (let tag = stays_tag plan old w p q cell a e stays in omega arith) in
          let same : f ≡ g = parts.2 ∙ ap (λ r. fact_of (kind_at plan r) v.went) e in
          let fact : same_fact f g ≡ true = subst (λ x. same_fact f x ≡ true) same (same_fact-self f) in
          inl (adds.marked w p f ∙ or_right (old.marked w p f) (nat_eq w s && nat_eq p q && same_fact f g)
          (three_from (nat_eq w s) (nat_eq p q) (same_fact f g) session (eq-eqb p q e) fact));
      stays = λ w p stays.
          let now = stays_fetched plan old q cell a w p stays in
          record { some = now.some; whole = now.whole; seen = ap (λ n. n + 1) (adds.seen p) ∙ now.seen };
      fetches = omega (arith, adds.fetches);
      marks = omega (arith, adds.marks);
      lifts = omega (arith, adds.lifts);
    }

-- visits with others before or behind them
pub shows_before : (plan : PlanView) (xs ys : List Visit) (p : ℕ) (f : Fact) → ShowsAt plan xs p f → ShowsAt plan (xs ++ ys) p f
shows_before plan xs ys p f h =
    let place : Place = place_of plan.places p in
    record { exists = h.exists; there = facts_at-append place xs ys f ∙ or_left (has_fact (facts_at place xs) f) (has_fact (facts_at place ys) f) h.there }

pub shows_behind : (plan : PlanView) (xs ys : List Visit) (p : ℕ) (f : Fact) → ShowsAt plan ys p f → ShowsAt plan (xs ++ ys) p f
shows_behind plan xs ys p f h =
    let place : Place = place_of plan.places p in
    record { exists = h.exists; there = facts_at-append place xs ys f ∙ or_right (has_fact (facts_at place xs) f) (has_fact (facts_at place ys) f) h.there }

pub shows_either : (plan : PlanView) (xs ys : List Visit) (p : ℕ) (f : Fact) → ShowsAt plan (xs ++ ys) p f → ShowsAt plan xs p f ⊎ ShowsAt plan ys p f
shows_either plan xs ys p f h =
    let place : Place = place_of plan.places p in
    elim (or_cases (has_fact (facts_at place xs) f) (has_fact (facts_at place ys) f) (sym (facts_at-append place xs ys f) ∙ h.there)) [
      | inl first ↦ inl (record { exists = h.exists; there = first })
      | inr last ↦ inr (record { exists = h.exists; there = last })
    ]

-- visits one after the other
pub Observes-append : (plan : PlanView) (a b c : Notes) (xs ys : List Visit) → Observes plan a b xs → Observes plan b c ys → Observes plan a c (xs ++ ys)
Observes-append plan a b c xs ys r h =
    let count = visits_at_places-append plan.places xs ys in
    record {
      grows = Grows-trans a b c r.grows h.grows;
      nothing_else = λ s p f m. elim (h.nothing_else s p f m) [
        | inl before ↦ elim (r.nothing_else s p f before) [ inl old ↦ inl old | inr first ↦ inr (shows_before plan xs ys p f first) ]
        | inr last ↦ inr (shows_behind plan xs ys p f last)
      ];
      shown = λ s p f stays there. elim (shows_either plan xs ys p f there) [
        | inl first ↦ shown_later b c s p f h.grows (r.shown s p f stays first)
        | inr last ↦ h.shown s p f (r.stays s p stays) last
      ];
      stays = λ s p stays. h.stays s p (r.stays s p stays);
      fetches = omega (arith, r.fetches, h.fetches);
      marks = omega (arith, r.marks, h.marks);
      lifts = omega (arith, r.lifts, h.lifts);
    }
