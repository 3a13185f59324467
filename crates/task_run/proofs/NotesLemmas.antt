-- What a fetch and a settled trap do to the notes.
use Rattle.std.proofs.Common.{◌≡◌, ◌⊎◌, ℕ, ◌+◌, ◌≤◌, Bool, true, false, ◌&&◌, ◌||◌, if◌then◌else◌, nat_eq, inl, inr, refl, sym, subst, arith}
use Rattle.std.proofs.lemmas.Bool.{or_cases, or_left, or_right, and_from, eqb-true, cond_both, both_ways, and_parts}
use Rattle.cov_base.specs.Meaning.{FactSet, with_fact, is_full, same_fact}
use Rattle.cov_base.specs.declared.facts.Fact.{Fact}
use Rattle.module_area.specs.declared.cells.Cell.{Cell}
use Rattle.module_area.specs.Meaning.{PlanView, kind_at}
use Rattle.module_area.specs.Notes.{Notes, after_fetch, after_mark, after_lift, is_free_under}
use Rattle.task_run.specs.Traps.{Settles}
use Rattle.task_run.specs.Observed.{Grows}

both_grow : (a b x : Bool) → (a || x) ≡ true → a ≡ true ⊎ (b || x) ≡ true
both_grow a b x h = elim (or_cases a x h) [ inl l ↦ inl l | inr r ↦ inr (or_right b x r) ]

pub seen_fetched : (seen : ℕ → ℕ) (p q tag : ℕ) → seen p ≤ tag → seen q ≤ (if nat_eq q p then tag else seen q)
seen_fetched seen p q tag h =
    cond_both (nat_eq q p) tag (seen q) (λ t. seen q ≤ t) (λ e. subst (λ r. seen r ≤ tag) (sym (eqb-true q p e)) h) (λ e. omega arith)

pub Grows-fetched : (plan : PlanView) (n : Notes) (p : ℕ) (cell : Cell) → Grows n (after_fetch plan n p cell)
Grows-fetched plan n p cell = record {
  marked = λ s q f m. m;
  full = λ s q m. or_left (n.full s q) (nat_eq q p && is_free_under plan p cell s) m;
  free = λ s q m. or_left (n.free s q) (nat_eq q p && is_free_under plan p cell s) m;
  met = λ s q m. both_grow (n.full s q) (n.free s q) (nat_eq q p && is_free_under plan p cell s) m;
  bears = refl;
  given = refl;
  out = refl;
}

-- what a settled trap adds
pub record Adds (old new : Notes) (s p : ℕ) (f : Fact) : Type 0 where
  pub grows : Grows old new
  pub marked : (t q : ℕ) (g : Fact) → new.marked t q g ≡ (old.marked t q g || (nat_eq t s && nat_eq q p && same_fact g f))
  pub seen : (q : ℕ) → new.seen q ≡ old.seen q
  pub answered : new.answered ≡ old.answered
  pub beats : new.beats ≡ old.beats
  pub last : new.last ≡ old.last
  pub fetches : new.tally.fetches ≡ old.tally.fetches
  pub marks : new.tally.marks ≡ old.tally.marks + 1
  pub lifts : new.tally.lifts ≤ old.tally.lifts + 1
  pub plants : new.tally.plants ≡ old.tally.plants
  pub closes : new.tally.closes ≡ old.tally.closes
  pub numbers : new.numbers ≡ old.numbers
  pub noted : new.noted ≡ old.noted
  pub settled : new.settled ≡ old.settled

pub all_three : (x y z : Bool) → (x && y && z) ≡ true → (x ≡ true) × (y ≡ true) × (z ≡ true)
all_three x y z h = let both = and_parts (x && y) z h in let first = and_parts x y both.0 in (first.0, first.1, both.1)

pub three_from : (x y z : Bool) → x ≡ true → y ≡ true → z ≡ true → (x && y && z) ≡ true
three_from x y z h k l = rw (h, k, l) refl

pub one_at_most : (b : Bool) → (if b then 1 else 0) ≤ 1
one_at_most true = omega arith
one_at_most false = omega arith

marked_alone : (plan : PlanView) (n : Notes) (s p : ℕ) (f : Fact) (found : FactSet) → is_full (kind_at plan p) (with_fact found f) ≡ false →
    Adds n (after_mark plan n s p f found) s p f
marked_alone plan n s p f found part = record {
  grows = record {
    marked = λ t q g m. or_left (n.marked t q g) (nat_eq t s && nat_eq q p && same_fact g f) m;
    full = λ t q m. or_left (n.full t q) (nat_eq t s && nat_eq q p && is_full (kind_at plan p) (with_fact found f)) m;
    free = λ t q m. m;
    met = λ t q m. elim (or_cases (n.full t q) (nat_eq t s && nat_eq q p && is_full (kind_at plan p) (with_fact found f)) m) [
      | inl old ↦ inl old
      | inr now ↦ absurd (both_ways (is_full (kind_at plan p) (with_fact found f)) part (all_three (nat_eq t s) (nat_eq q p) (is_full (kind_at plan p) (with_fact found f)) now).2)
    ];
    bears = refl;
    given = refl;
    out = refl;
  };
  marked = λ t q g. refl;
  seen = λ q. refl;
  answered = refl;
  beats = refl;
  last = refl;
  fetches = refl;
  marks = refl;
  lifts = omega arith;
  plants = refl;
  closes = refl;
  numbers = refl;
  noted = refl;
  settled = refl;
}

marked_lifted : (plan : PlanView) (n : Notes) (s p : ℕ) (f : Fact) (found : FactSet) (exchanged : Bool) →
    Adds n (after_lift (after_mark plan n s p f found) s p exchanged) s p f
marked_lifted plan n s p f found exchanged = record {
  grows = record {
    marked = λ t q g m. or_left (n.marked t q g) (nat_eq t s && nat_eq q p && same_fact g f) m;
    full = λ t q m. or_left (n.full t q) (nat_eq t s && nat_eq q p && is_full (kind_at plan p) (with_fact found f)) m;
    free = λ t q m. or_left (n.free t q) (nat_eq t s && nat_eq q p) m;
    met = λ t q m. elim (or_cases (n.full t q) (nat_eq t s && nat_eq q p && is_full (kind_at plan p) (with_fact found f)) m) [
      | inl old ↦ inl old
      | inr now ↦
          let parts = all_three (nat_eq t s) (nat_eq q p) (is_full (kind_at plan p) (with_fact found f)) now in
          inr (or_right (n.free t q) (nat_eq t s && nat_eq q p) (and_from (nat_eq t s) (nat_eq q p) parts.0 parts.1))
    ];
    bears = refl;
    given = refl;
    out = refl;
  };
  marked = λ t q g. refl;
  seen = λ q. refl;
  answered = refl;
  beats = refl;
  last = refl;
  fetches = refl;
  marks = refl;
  lifts = omega (arith, one_at_most exchanged);
  plants = refl;
  closes = refl;
  numbers = refl;
  noted = refl;
  settled = refl;
}

pub Adds-settled : (plan : PlanView) (old new : Notes) (s p : ℕ) (f : Fact) → Settles plan old new s p f → Adds old new s p f
Adds-settled plan old new s p f h =
    subst (λ n. Adds old n s p f) (sym h.notes)
    (cond_both (is_full (kind_at plan p) (with_fact h.found f)) (after_lift (after_mark plan old s p f h.found) s p h.exchanged) (after_mark plan old s p f h.found)
    (λ n. Adds old n s p f)
    (λ full. marked_lifted plan old s p f h.found h.exchanged)
    (λ part. marked_alone plan old s p f h.found part))
