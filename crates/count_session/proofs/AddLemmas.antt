-- What a pass adds of one visit.
use Rattle.std.proofs.Common.{◌≡◌, ◌≢◌, ℕ, ◌+◌, ◌<◌, Bool, true, false, ◌&&◌, ◌-◌, ◌*◌, Option, Some, None, ◌==◌, nat_eq, if◌then◌else◌, List, [], ◌∷◌, length, refl, sym, ◌∙◌, ap, subst, arith, eq-eqb, ne_eqb, eqb-true}
use Rattle.std.proofs.lemmas.List.Elements.{All-get_or}
use native.Mathlib.Decide.{ℕ_discrete}
use Rattle.cov_base.specs.Meaning.{breakpoint, same_fact, fact_of, Visit}
use Rattle.cov_base.specs.declared.facts.Fact.{Fact}
use Rattle.cov_base.specs.declared.numbers.PlaceNo.{PlaceNo}
use Rattle.cov_base.proofs.Laws.{same_fact-turned}
use Rattle.module_area.specs.declared.cells.Cell.{Cell}
use Rattle.module_area.specs.declared.places.Place.{Place}
use Rattle.module_area.specs.Meaning.{executes, shows, PlanView, place_of, no_place, kind_at, window_at, original_at}
use Rattle.brk_table.specs.Places.{ArePlaces, IsPlace}
use Rattle.task_run.specs.Sights.{BeginsAt, IsPlaced}
use Rattle.count_session.specs.Notes.{CountNotes, after_add, after_fetch, cell_at, is_same}
use Rattle.count_session.specs.Meaning.{count_at}
use Rattle.count_session.specs.Counting.{planted_count, Adds}

abbrev one_of : Bool → ℕ
one_of b = if b then 1 else 0

-- a visit that isn't at the place, or wasn't begun, gives no fact there
gives_not : (place : Place) (f : Fact) (v : Visit) → executes place v ≡ false → count_at place f (v ∷ []) ≡ 0
gives_not place f v no_run = let e : shows place f v ≡ false = ap (λ b. b && same_fact (fact_of place.kind v.went) f) no_run in ap (λ b. one_of b + 0) e

not_there : (begun : Bool) (a b : ℕ) → a ≢ b → (begun && (a == b)) ≡ false
not_there true a b n = ne_eqb a b n
not_there false a b n = refl

zero_planted : (b : Bool) (x : ℕ) → (b ≡ true → x ≡ 0) → ◌≡◌ {A = ℕ} (if b then x else 0) 0
zero_planted true x h = h refl
zero_planted false x h = refl

-- the notes have changed by the pending place alone, and the visit gives nothing at planted places
Adds-nothing : (plan : PlanView) (old new : CountNotes) (v : Visit) → new ≡ record old { pending = new.pending } → ((p : ℕ) → p < length plan.places → old.planted p ≡ true → executes (place_of plan.places p) v ≡ false) → Adds plan old new (v ∷ [])
Adds-nothing plan old new v notes none = record {
  same = notes ∙ (λ i. record old { pending = new.pending; added = (sym (ap (λ (n : CountNotes). n.added) notes)) i; adds = (sym (ap (λ (n : CountNotes). n.adds) notes)) i });
  added = λ p f l. let zero_here = zero_planted (old.planted p) (count_at (place_of plan.places p) f (v ∷ [])) (λ e. gives_not (place_of plan.places p) f v (none p l e)) in
      let same : new.added p f ≡ old.added p f = ap (λ (n : CountNotes). n.added p f) notes in omega arith;
  adds = (let same : new.adds ≡ old.adds = ap (λ (n : CountNotes). n.adds) notes in omega arith);
}

-- ---- what the cell of the place shows at which the visit is

is_original : (places : List Place) (p : ℕ) → ArePlaces places → p < length places → (place_of places p).original ≢ breakpoint
is_original places p are l = (All-get_or IsPlace places p no_place l are.each).no_breakpoint

abbrev fact_at : PlanView → ℕ → Bool → Fact
fact_at plan p went = fact_of (kind_at plan p) went

pub begins_in : (here there : List Place) (a : ℕ) (place : Option PlaceNo) (p : PlaceNo) → here ≡ there → place ≡ Some p → IsPlaced there a place → BeginsAt here a p.0
begins_in here there a place p same is placed = rw same (subst (IsPlaced there a) is placed)

-- the fact of the place's kind, as the tables have it
pub fact_there : (here there : List Place) (p : ℕ) (place : Place) (went shown : Bool) (f : Fact) → here ≡ there → place ≡ place_of there p → shown ≡ went → f ≡ fact_of place.kind shown → f ≡ fact_of (place_of here p).kind went
fact_there here there p place went shown f same is branched fact = rw (same, sym is, sym branched) fact

fetched : (old new : CountNotes) (p : ℕ) → new ≡ after_fetch old p → new ≡ record old { pending = new.pending }
fetched old new p notes = notes ∙ ap (λ (o : Option ℕ). record old { pending = o }) (sym (ap (λ (n : CountNotes). n.pending) notes))

-- the visit wasn't begun
pub Adds-refused : (plan : PlanView) (old new : CountNotes) (p : ℕ) (v : Visit) → v.begun ≡ false → new ≡ after_fetch old p → Adds plan old new (v ∷ [])
Adds-refused plan old new p v refused notes = Adds-nothing plan old new v (fetched old new p notes) (λ q l e. ap (λ b. b && (v.at == (place_of plan.places q).at)) refused)

module _ (plan : PlanView) (old mid : CountNotes) (p : ℕ) (v : Visit) (cell : Cell) (begins : BeginsAt plan.places v.at p) (is : cell ≡ cell_at plan old p) (notes : mid ≡ after_fetch old p) where
  abbrev answer : Bool → Cell
  answer b = if b then record { tag = 2 * window_at plan p - 1; half = breakpoint } else record { tag = 0; half = original_at plan p }

  unplanted : (b : Bool) → old.planted p ≡ b → nat_eq cell.half breakpoint ≡ false → old.planted p ≡ false
  unplanted true e quiet = let half : cell.half ≡ breakpoint = ap (λ (c : Cell). c.half) (is ∙ ap answer e) in absurd (let z : true ≡ false = sym (eq-eqb cell.half breakpoint half) ∙ quiet in cc)
  unplanted false e quiet = e

  -- nothing is added where the original stands
  pub Adds-quiet : nat_eq cell.half breakpoint ≡ false → Adds plan old mid (v ∷ [])
  Adds-quiet quiet = Adds-nothing plan old mid v (fetched old mid p notes)
      (λ q l planted. not_there v.begun v.at (place_of plan.places q).at (λ at. let off = ap old.planted (begins.only q l (sym at)) ∙ unplanted (old.planted p) refl quiet in absurd (let z : true ≡ false = sym planted ∙ off in cc)))

  planted : (b : Bool) → old.planted p ≡ b → ArePlaces plan.places → nat_eq cell.half breakpoint ≡ true → old.planted p ≡ true
  planted true e are trap = e
  planted false e are trap = let half : cell.half ≡ original_at plan p = ap (λ (c : Cell). c.half) (is ∙ ap answer e) in absurd (is_original plan.places p are begins.exists (sym half ∙ eqb-true cell.half breakpoint trap))

  -- where the breakpoint stands the visit's fact was added
  pub Adds-trap : (new : CountNotes) → ArePlaces plan.places → nat_eq cell.half breakpoint ≡ true → v.begun ≡ true → new ≡ after_add mid p (fact_at plan p v.went) → Adds plan old new (v ∷ [])
  Adds-trap new are trap begun add = record {
    same = all ∙ (λ i. record old { pending = sym pending i; added = sym added i; adds = sym adds i });
    added = λ q f l. at_one q f l (ℕ_discrete q p);
    adds = (let e = adds in omega arith);
  }
    where
      here : old.planted p ≡ true
      here = planted (old.planted p) refl are trap

      all : new ≡ after_add (record old { pending = Some p }) p (fact_at plan p v.went)
      all = add ∙ ap (λ (n : CountNotes). after_add n p (fact_at plan p v.went)) (notes ∙ ap (λ (b : Bool). record old { pending = if b then Some p else None }) here)

      pending : new.pending ≡ Some p
      pending = ap (λ (n : CountNotes). n.pending) all

      added : new.added ≡ (after_add (record old { pending = Some p }) p (fact_at plan p v.went)).added
      added = ap (λ (n : CountNotes). n.added) all

      adds : new.adds ≡ old.adds + 1
      adds = ap (λ (n : CountNotes). n.adds) all

      at_one : (q : ℕ) (f : Fact) → q < length plan.places → Dec (q ≡ p) → new.added q f ≡ old.added q f + planted_count plan old q f (v ∷ [])
      at_one q f l (yes same) =
          let now : new.added q f ≡ old.added q f + one_of (is_same p (fact_at plan p v.went) q f) = ap (λ (h : ℕ → Fact → ℕ). h q f) added in
          let test : one_of (is_same p (fact_at plan p v.went) q f) ≡ one_of (same_fact f (fact_at plan p v.went)) = ap (λ b. one_of (b && same_fact f (fact_at plan p v.went))) (eq-eqb q p same) in
          let at : (place_of plan.places q).at ≡ v.at = ap (λ k. (place_of plan.places k).at) same ∙ begins.begins in
          let runs : executes (place_of plan.places q) v ≡ true = ap (λ b. b && (v.at == (place_of plan.places q).at)) begun ∙ eq-eqb v.at (place_of plan.places q).at (sym at) in
          let shown : shows (place_of plan.places q) f v ≡ same_fact f (fact_at plan p v.went) =
          ap (λ b. b && same_fact (fact_at plan q v.went) f) runs ∙ (ap (λ k. same_fact (fact_at plan k v.went) f) same ∙ same_fact-turned (fact_at plan p v.went) f) in
          let count : planted_count plan old q f (v ∷ []) ≡ one_of (same_fact f (fact_at plan p v.went)) + 0 =
          ap (λ b. if b then count_at (place_of plan.places q) f (v ∷ []) else 0) (ap old.planted same ∙ here) ∙ ap (λ b. one_of b + 0) shown in
          omega (arith, now, test, count)
      at_one q f l (no other) =
          let now : new.added q f ≡ old.added q f + one_of (is_same p (fact_at plan p v.went) q f) = ap (λ (h : ℕ → Fact → ℕ). h q f) added in
          let test : one_of (is_same p (fact_at plan p v.went) q f) ≡ 0 = ap (λ b. one_of (b && same_fact f (fact_at plan p v.went))) (ne_eqb q p other) in
          let none : planted_count plan old q f (v ∷ []) ≡ 0 =
          zero_planted (old.planted q) (count_at (place_of plan.places q) f (v ∷ [])) (λ e. gives_not (place_of plan.places q) f v
          (not_there v.begun v.at (place_of plan.places q).at (λ e. other (begins.only q l (sym e))))) in
          omega (arith, now, test, none)
