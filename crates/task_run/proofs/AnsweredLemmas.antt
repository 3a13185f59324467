-- The pairs of one visit, and of visits one after the other.
use Rattle.std.proofs.Common.{◌≡◌, ◌≢◌, ℕ, ◌+◌, ◌*◌, ◌/◌, ◌≤◌, Bool, true, false, ◌&&◌, ◌||◌, if◌then◌else◌, nat_eq, List, [], ◌∷◌, ◌++◌, inl, inr, refl, sym, ◌∙◌, ap, subst, arith}
use Rattle.std.proofs.Math.Bool.{or_assoc}
use Rattle.std.proofs.lemmas.Bool.{or_cases, or_left, or_right, and_parts, and_from, eqb-true, eq-eqb, both_ways}
use Rattle.std.proofs.lemmas.List.{append_assoc, append-nil}
use Rattle.cov_base.specs.Meaning.{breakpoint, no_facts, has_fact, same_fact, fact_of, Visit}
use Rattle.cov_base.specs.declared.facts.Fact.{Fact}
use Rattle.cov_base.proofs.Laws.{same_fact-self, same_fact-true, has_fact-none}
use Rattle.module_area.specs.declared.cells.Cell.{Cell}
use Rattle.module_area.specs.declared.places.Place.{Place}
use Rattle.module_area.specs.Meaning.{PlanView, kind_at, original_at, is_place}
use Rattle.module_area.specs.Notes.{Notes, after_fetch, is_free_under, keeps_as, IsAnswer}
use Rattle.module_area.specs.Rule.{Has}
use Rattle.brk_table.proofs.Laws.{is_place-there}
use Rattle.task_run.specs.Sights.{BeginsAt}
use Rattle.task_run.specs.Traps.{Settles}
use Rattle.task_run.specs.Observed.{Grows}
use Rattle.task_run.specs.Answered.{known_tag, ArePairs, LeavesSessions, Answered, Makes}
use Rattle.task_run.specs.Meaning.{at_places, is_under, facts_under, mets}
use Rattle.task_run.proofs.BeatLemmas.{mets-append}
use Rattle.task_run.proofs.RiseLemmas.{rises_append, rises_fetched}
use Rattle.task_run.proofs.NotesLemmas.{Adds, Adds-settled, seen_fetched, all_three, three_from}
use Rattle.task_run.proofs.ObservedLemmas.{has_fact-more, shown_later, Observes-none, Observes-plain, Observes-kept, Observes-settled, Observes-append}

-- what is planted and closed stays

LeavesSessions-same : (n : Notes) → LeavesSessions n n
LeavesSessions-same n = record { seen = λ p. omega arith; last = refl; plants = refl; closes = refl; numbers = refl; noted = refl; settled = refl }

LeavesSessions-trans : (a b c : Notes) → LeavesSessions a b → LeavesSessions b c → LeavesSessions a c
LeavesSessions-trans a b c g h = record {
  seen = λ p. omega (arith, g.seen p, h.seen p);
  last = h.last ∙ g.last;
  plants = h.plants ∙ g.plants;
  closes = h.closes ∙ g.closes;
  numbers = h.numbers ∙ g.numbers;
  noted = h.noted ∙ g.noted;
  settled = h.settled ∙ g.settled;
}

LeavesSessions-fetched : (plan : PlanView) (n : Notes) (q : ℕ) (cell : Cell) → n.seen q ≤ cell.tag → LeavesSessions n (after_fetch plan n q cell)
LeavesSessions-fetched plan n q cell h = record { seen = λ p. seen_fetched n.seen q p cell.tag h; last = refl; plants = refl; closes = refl; numbers = refl; noted = refl; settled = refl }

LeavesSessions-added : (old new : Notes) (s p : ℕ) (f : Fact) → Adds old new s p f → LeavesSessions old new
LeavesSessions-added old new s p f adds = record {
  seen = λ q. omega (arith, adds.seen q);
  last = adds.last;
  plants = adds.plants;
  closes = adds.closes;
  numbers = adds.numbers;
  noted = adds.noted;
  settled = adds.settled;
}

one_more : (l m n : List Visit) (b : Bool) (v : Visit) → l ≡ m ++ n → (if b then v ∷ l else l) ≡ (if b then v ∷ m else m) ++ n
one_more l m n true v e = ap (λ (k : List Visit). v ∷ k) e
one_more l m n false v e = e

pub at_places-append : (places : List Place) (vs ws : List Visit) → at_places places (vs ++ ws) ≡ at_places places vs ++ at_places places ws
at_places-append places [] ws = refl
at_places-append places (v ∷ vs) ws = one_more (at_places places (vs ++ ws)) (at_places places vs) (at_places places ws) (is_place places v.at) v (at_places-append places vs ws)

only_there : (plan : PlanView) (v : Visit) (q : ℕ) → BeginsAt plan.places v.at q → at_places plan.places (v ∷ []) ≡ v ∷ []
only_there plan v q b = rw (is_place-there plan.places q v.at b.exists b.begins) refl

none_there : (plan : PlanView) (v : Visit) → is_place plan.places v.at ≡ false → at_places plan.places (v ∷ []) ≡ []
none_there plan v none = rw none refl

pub ArePairs-append : (plan : PlanView) (old : Notes) (last : ℕ → ℕ → ℕ) (xs ys : List (ℕ × Cell)) (vs ws : List Visit) → ArePairs plan old last xs vs → ArePairs plan old last ys ws → ArePairs plan old last (xs ++ ys) (vs ++ ws)
ArePairs-append plan old last [] ys [] ws a b = b
ArePairs-append plan old last [] ys (v ∷ vs) ws a b = absurd a
ArePairs-append plan old last (x ∷ xs) ys [] ws a b = absurd a
ArePairs-append plan old last (x ∷ xs) ys (v ∷ vs) ws a b = (a.0, ArePairs-append plan old last xs ys vs ws a.1 b)

-- by notes that keep the same, and tags that are the same at these visits
pub ArePairs-same : (plan : PlanView) (old mid : Notes) (last next : ℕ → ℕ → ℕ) (xs : List (ℕ × Cell)) (vs : List Visit) → ((v : Visit) → Has v vs → (p : ℕ) → next v.before p ≡ last v.before p) →
    mid.bears ≡ old.bears → mid.out ≡ old.out → ArePairs plan mid next xs vs → ArePairs plan old last xs vs
ArePairs-same plan old mid last next [] [] l b o a = tt
ArePairs-same plan old mid last next [] (v ∷ vs) l b o a = absurd a
ArePairs-same plan old mid last next (x ∷ xs) [] l b o a = absurd a
ArePairs-same plan old mid last next (x ∷ xs) (v ∷ vs) l b o a = (
  record {
    begins = a.0.begins;
    over = a.0.over;
    kept = λ k. a.0.kept ((λ i. keeps_as plan (b i) (o i) x.0) ∙ k) ∙ l v (inl refl) x.0;
  },
  ArePairs-same plan old mid last next xs vs (λ w there. l w (inr there)) b o a.1,
)

pub facts_under-append : (plan : PlanView) (old : Notes) (last : ℕ → ℕ → ℕ) (s p : ℕ) (f : Fact) (xs ys : List (ℕ × Cell)) (vs ws : List Visit) → ArePairs plan old last xs vs →
    has_fact (facts_under plan s p (xs ++ ys) (vs ++ ws)) f ≡ (has_fact (facts_under plan s p xs vs) f || has_fact (facts_under plan s p ys ws) f)
facts_under-append plan old last s p f [] ys [] ws a = ap (λ b. b || has_fact (facts_under plan s p ys ws) f) (sym (has_fact-none f))
facts_under-append plan old last s p f [] ys (v ∷ vs) ws a = absurd a
facts_under-append plan old last s p f (x ∷ xs) ys [] ws a = absurd a
facts_under-append plan old last s p f (x ∷ xs) ys (v ∷ vs) ws a =
    let g : Fact = fact_of (kind_at plan p) v.went in
    let here : Bool = is_under s p x v && same_fact f g in
    has_fact-more (is_under s p x v) g f (facts_under plan s p (xs ++ ys) (vs ++ ws))
    ∙ ap (λ b. here || b) (facts_under-append plan old last s p f xs ys vs ws a.1)
    ∙ sym (or_assoc here (has_fact (facts_under plan s p xs vs) f) (has_fact (facts_under plan s p ys ws) f))
    ∙ ap (λ b. b || has_fact (facts_under plan s p ys ws) f) (sym (has_fact-more (is_under s p x v) g f (facts_under plan s p xs vs)))

-- what one visit shows under a session
pub record IsUnder (plan : PlanView) (s p : ℕ) (f : Fact) (x : ℕ × Cell) (v : Visit) : Type 0 where
  pub place : x.0 ≡ p
  pub tag : x.1.tag + 1 ≡ 2 * s
  pub begun : v.begun ≡ true
  pub fact : f ≡ fact_of (kind_at plan p) v.went

one_under : (plan : PlanView) (s p : ℕ) (f : Fact) (x : ℕ × Cell) (v : Visit) → has_fact (facts_under plan s p (x ∷ []) (v ∷ [])) f ≡ true → IsUnder plan s p f x v
one_under plan s p f x v h = elim (or_cases (is_under s p x v && same_fact f (fact_of (kind_at plan p) v.went)) (has_fact no_facts f) (sym (has_fact-more (is_under s p x v) (fact_of (kind_at plan p) v.went) f no_facts) ∙ h)) [
  | inl now ↦
      let both = and_parts (is_under s p x v) (same_fact f (fact_of (kind_at plan p) v.went)) now in
      let there = and_parts (nat_eq x.0 p && nat_eq (x.1.tag + 1) (2 * s)) v.begun both.0 in
      let cell = and_parts (nat_eq x.0 p) (nat_eq (x.1.tag + 1) (2 * s)) there.0 in
      record { place = eqb-true x.0 p cell.0; tag = eqb-true (x.1.tag + 1) (2 * s) cell.1; begun = there.1; fact = same_fact-true f (fact_of (kind_at plan p) v.went) both.1 }
  | inr never ↦ absurd (both_ways (has_fact no_facts f) (has_fact-none f) never)
]

under_one : (plan : PlanView) (s p : ℕ) (x : ℕ × Cell) (v : Visit) → x.0 ≡ p → x.1.tag + 1 ≡ 2 * s → v.begun ≡ true → has_fact (facts_under plan s p (x ∷ []) (v ∷ [])) (fact_of (kind_at plan p) v.went) ≡ true
under_one plan s p x v place tag begun =
    let g : Fact = fact_of (kind_at plan p) v.went in
    let there : is_under s p x v ≡ true = and_from (nat_eq x.0 p && nat_eq (x.1.tag + 1) (2 * s)) v.begun (and_from (nat_eq x.0 p) (nat_eq (x.1.tag + 1) (2 * s)) (eq-eqb x.0 p place) (eq-eqb (x.1.tag + 1) (2 * s) tag)) begun in
    has_fact-more (is_under s p x v) g g no_facts ∙ or_left (is_under s p x v && same_fact g g) (has_fact no_facts g) (and_from (is_under s p x v) (same_fact g g) there (same_fact-self g))

-- the pair of one visit
own_pair : (plan : PlanView) (old : Notes) (q : ℕ) (cell : Cell) (v : Visit) → BeginsAt plan.places v.at q → IsAnswer plan old q cell → ArePairs plan old (λ before. old.last) ((q, cell) ∷ []) (at_places plan.places (v ∷ []))
own_pair plan old q cell v b a = subst (ArePairs plan old (λ before. old.last) ((q, cell) ∷ [])) (sym (only_there plan v q b)) (record { begins = b; over = a.over; kept = a.kept }, tt)

-- one visit at no place

pub Makes-plain : (plan : PlanView) (n : Notes) (v : Visit) → is_place plan.places v.at ≡ false → Makes plan n n (v ∷ [])
Makes-plain plan n v none = record {
  observes = Observes-plain plan n v none;
  answered = record {
    pairs = [];
    appended = sym (append-nil n.answered);
    each = subst (ArePairs plan n (λ before. n.last) []) (sym (none_there plan v none)) tt;
    shown = λ s p f h. absurd (both_ways (has_fact no_facts f) (has_fact-none f) h);
    nothing_else = λ s p f m. inl m;
  };
  rises = λ p. omega arith;
  still = LeavesSessions-same n;
  beats = refl;
}

-- the place was free, or the visit wasn't begun
pub Makes-kept : (plan : PlanView) (old : Notes) (q : ℕ) (cell : Cell) (v : Visit) →
    BeginsAt plan.places v.at q → IsAnswer plan old q cell → (v.begun ≡ true → cell.half ≢ breakpoint) → Makes plan old (after_fetch plan old q cell) (v ∷ [])
Makes-kept plan old q cell v b a free = record {
  observes = Observes-kept plan old q cell v b a free;
  answered = record {
    pairs = (q, cell) ∷ [];
    appended = refl;
    each = own_pair plan old q cell v b a;
    shown = λ s p f h.
        let u = one_under plan s p f (q, cell) v (subst (λ vs. has_fact (facts_under plan s p ((q, cell) ∷ []) vs) f ≡ true) (only_there plan v q b) h) in
        let half : nat_eq cell.half (original_at plan q) ≡ true = eq-eqb cell.half (original_at plan q) (a.plain (free u.begun)) in
        let under : is_free_under plan q cell s ≡ true = and_from (nat_eq cell.half (original_at plan q)) (nat_eq (cell.tag + 1) (2 * s)) half (eq-eqb (cell.tag + 1) (2 * s) u.tag) in
        inr (or_right (old.full s p) (nat_eq p q && is_free_under plan q cell s) (and_from (nat_eq p q) (is_free_under plan q cell s) (eq-eqb p q (sym u.place)) under));
    nothing_else = λ s p f m. inl m;
  };
  rises = rises_fetched plan old (after_fetch plan old q cell) q cell a refl refl refl (λ p. refl);
  still = LeavesSessions-fetched plan old q cell a.later;
  beats = refl;
}

-- a trap was settled
pub Makes-settled : (plan : PlanView) (old new : Notes) (q : ℕ) (cell : Cell) (v : Visit) →
    BeginsAt plan.places v.at q → cell.half ≡ breakpoint → IsAnswer plan old q cell → v.begun ≡ true →
    Settles plan (after_fetch plan old q cell) new (cell.tag / 2 + 1) q (fact_of (kind_at plan q) v.went) → Makes plan old new (v ∷ [])
Makes-settled plan old new q cell v b met a begun h =
    let s : ℕ = cell.tag / 2 + 1 in
    let g : Fact = fact_of (kind_at plan q) v.went in
    let mid : Notes = after_fetch plan old q cell in
    let adds : Adds mid new s q g = Adds-settled plan mid new s q g h in
    let odd = a.planted met in
    let tag : cell.tag + 1 ≡ 2 * s = omega (arith, odd) in
    let at : at_places plan.places (v ∷ []) ≡ v ∷ [] = only_there plan v q b in
    record {
      observes = Observes-settled plan old new q cell v b a begun h;
      answered = record {
        pairs = (q, cell) ∷ [];
        appended = adds.answered;
        each = own_pair plan old q cell v b a;
        shown = λ t p f there.
            let u = one_under plan t p f (q, cell) v (subst (λ vs. has_fact (facts_under plan t p ((q, cell) ∷ []) vs) f ≡ true) at there) in
            let e : p ≡ q = sym u.place in
            let same : f ≡ g = u.fact ∙ ap (λ r. fact_of (kind_at plan r) v.went) e in
            let session : nat_eq t s ≡ true = eq-eqb t s (let x = u.tag in omega (arith, x, tag)) in
            let fact : same_fact f g ≡ true = subst (λ x. same_fact f x ≡ true) same (same_fact-self f) in
            inl (adds.marked t p f ∙ or_right (old.marked t p f) (nat_eq t s && nat_eq p q && same_fact f g)
            (three_from (nat_eq t s) (nat_eq p q) (same_fact f g) session (eq-eqb p q e) fact));
        nothing_else = λ t p f m. elim (or_cases (old.marked t p f) (nat_eq t s && nat_eq p q && same_fact f g) (sym (adds.marked t p f) ∙ m)) [
          | inl before ↦ inl before
          | inr now ↦
              let parts = all_three (nat_eq t s) (nat_eq p q) (same_fact f g) now in
              let e : p ≡ q = eqb-true p q parts.1 in
              let same : f ≡ fact_of (kind_at plan p) v.went = same_fact-true f g parts.2 ∙ ap (λ r. fact_of (kind_at plan r) v.went) (sym e) in
              let session : t ≡ s = eqb-true t s parts.0 in
              let there = under_one plan t p (q, cell) v (sym e) (let x = session in omega (arith, x, tag)) begun in
              inr (subst (λ vs. has_fact (facts_under plan t p ((q, cell) ∷ []) vs) f ≡ true) (sym at) (subst (λ x. has_fact (facts_under plan t p ((q, cell) ∷ []) (v ∷ [])) x ≡ true) (sym same) there))
        ];
      };
      rises = rises_fetched plan old new q cell a adds.grows.bears adds.grows.out adds.last adds.seen;
      still = LeavesSessions-trans old mid new (LeavesSessions-fetched plan old q cell a.later) (LeavesSessions-added mid new s q g adds);
      beats = adds.beats;
    }

-- a visit at a place is one of the visits
has_if : (b : Bool) (w v : Visit) (xs ws : List Visit) → (Has v xs → Has v ws) → Has v (if b then w ∷ xs else xs) → Has v (w ∷ ws)
has_if true w v xs ws rest h = elim h [ inl e ↦ inl e | inr later ↦ inr (rest later) ]
has_if false w v xs ws rest h = inr (rest h)

pub at_has : (places : List Place) (vs : List Visit) (v : Visit) → Has v (at_places places vs) → Has v vs
at_has places [] v h = absurd h
at_has places (w ∷ ws) v h = has_if (is_place places w.at) w v (at_places places ws) ws (at_has places ws v) h

unfoldable pub Answered-none : (plan : PlanView) (n : Notes) (last : ℕ → ℕ → ℕ) → Answered plan n n last []
Answered-none plan n last = record {
  pairs = [];
  appended = sym (append-nil n.answered);
  each = tt;
  shown = λ s p f h. absurd (both_ways (has_fact no_facts f) (has_fact-none f) h);
  nothing_else = λ s p f m. inl m;
}

-- by tags that are the same at the visits
unfoldable pub Answered-tags : (plan : PlanView) (a b : Notes) (last next : ℕ → ℕ → ℕ) (xs : List Visit) → ((v : Visit) → Has v xs → (p : ℕ) → next v.before p ≡ last v.before p) →
    Answered plan a b next xs → Answered plan a b last xs
Answered-tags plan a b last next xs same r = record {
  pairs = r.pairs;
  appended = r.appended;
  each = ArePairs-same plan a a last next r.pairs (at_places plan.places xs) (λ v there. same v (at_has plan.places xs v there)) refl refl r.each;
  shown = r.shown;
  nothing_else = r.nothing_else;
}

-- visits one after the other
unfoldable pub Answered-append : (plan : PlanView) (a b c : Notes) (last next : ℕ → ℕ → ℕ) (xs ys : List Visit) → Answered plan a b last xs → Answered plan b c next ys → Grows b c → b.bears ≡ a.bears → b.out ≡ a.out →
    ((v : Visit) → Has v ys → (p : ℕ) → next v.before p ≡ last v.before p) → Answered plan a c last (xs ++ ys)
Answered-append plan a b c last next xs ys first more grows bears out same =
    let vs : List Visit = at_places plan.places xs in
    let ws : List Visit = at_places plan.places ys in
    let at : at_places plan.places (xs ++ ys) ≡ vs ++ ws = at_places-append plan.places xs ys in
    let split : (s p : ℕ) (f : Fact) → has_fact (facts_under plan s p (first.pairs ++ more.pairs) (at_places plan.places (xs ++ ys))) f ≡ (has_fact (facts_under plan s p first.pairs vs) f || has_fact (facts_under plan s p more.pairs ws) f) =
    λ s p f. ap (λ l. has_fact (facts_under plan s p (first.pairs ++ more.pairs) l) f) at ∙ facts_under-append plan a last s p f first.pairs more.pairs vs ws first.each in
    record {
      pairs = first.pairs ++ more.pairs;
      appended = more.appended ∙ (ap (λ l. l ++ more.pairs) first.appended ∙ append_assoc a.answered first.pairs more.pairs);
      each = subst (ArePairs plan a last (first.pairs ++ more.pairs)) (sym at)
          (ArePairs-append plan a last first.pairs more.pairs vs ws first.each
          (ArePairs-same plan a b last next more.pairs ws (λ v there. same v (at_has plan.places ys v there)) bears out more.each));
      shown = λ s p f there. elim (or_cases (has_fact (facts_under plan s p first.pairs vs) f) (has_fact (facts_under plan s p more.pairs ws) f) (sym (split s p f) ∙ there)) [
        | inl x ↦ shown_later b c s p f grows (first.shown s p f x)
        | inr x ↦ more.shown s p f x
      ];
      nothing_else = λ s p f m. elim (more.nothing_else s p f m) [
        | inl before ↦ elim (first.nothing_else s p f before) [
          | inl old ↦ inl old
          | inr x ↦ inr (split s p f ∙ or_left (has_fact (facts_under plan s p first.pairs vs) f) (has_fact (facts_under plan s p more.pairs ws) f) x)
        ]
        | inr x ↦ inr (split s p f ∙ or_right (has_fact (facts_under plan s p first.pairs vs) f) (has_fact (facts_under plan s p more.pairs ws) f) x)
      ];
    }

pub Makes-none : (plan : PlanView) (n : Notes) → Makes plan n n []
unfolding Answered-none
Makes-none plan n = record { observes = Observes-none plan n; answered = Answered-none plan n (λ before. n.last); rises = λ p. omega arith; still = LeavesSessions-same n; beats = refl }

pub Makes-append : (plan : PlanView) (a b c : Notes) (xs ys : List Visit) → Makes plan a b xs → Makes plan b c ys → Makes plan a c (xs ++ ys)
unfolding Answered-append
Makes-append plan a b c xs ys r h = record {
  observes = Observes-append plan a b c xs ys r.observes h.observes;
  answered = Answered-append plan a b c (λ before. a.last) (λ before. b.last) xs ys r.answered h.answered h.observes.grows r.observes.grows.bears r.observes.grows.out
      (λ v there p. ap (λ (g : ℕ → ℕ). g p) r.still.last);
  rises = λ p. rises_append p (known_tag plan a p) (known_tag plan b p) (known_tag plan c p) r.answered.pairs h.answered.pairs (r.rises p) (h.rises p);
  still = LeavesSessions-trans a b c r.still h.still;
  beats = h.beats ∙ (ap (mets h.answered.pairs) r.beats ∙ sym (mets-append r.answered.pairs h.answered.pairs a.beats));
}
