-- Each step on the word of a cell or of sets keeps the rule of these, and tells what the rule says of the word.
use Rattle.std.proofs.Common.{◌≡◌, ◌≢◌, ◌⊎◌, ℕ, ◌*◌, ◌^◌, ◌<◌, ◌≤◌, Bool, true, false, nat_eq, eqb, List, length, get_or, set, sym, refl, ap, ◌∙◌, subst, inl, inr, ⊎_elim, arith, bit_or, eq-eqb, ne_eqb, length-set, get_or-set_same, get_or-set_other}
use lib.Seq.{set-get_or}
use mathlib.Core.Logic.{dite}
use mathlib.Core.Option.{some}
use lib.ListN.{get_elem?}
use native.Mathlib.Decide.{ℕ_discrete}
use prog.Atomic.{either}
use Rattle.atomic_table.proofs.Lists.{set_again}
use Rattle.atomic_table.specs.Table.{State, Me, keeps, Allows}
use Rattle.cov_base.specs.declared.facts.Fact.{Fact}
use Rattle.cov_base.specs.Meaning.{FactSet, has_fact, breakpoint}
use Rattle.module_area.specs.declared.parties.View.{View}
use Rattle.module_area.specs.declared.parties.Role.TheVariants.{Spent}
use Rattle.module_area.specs.Meaning.{PlanView, original_at, kind_at, is_over, is_controlled}
use Rattle.module_area.specs.Rule.{Has, last_tag, window_tag, fetching, marking, lifting, planting, planted, lifted, Keeps}
use Rattle.module_area.specs.Parties.{closing}
use Rattle.module_area.proofs.Laws.{lifts, plants, closes, fetches, marks}
use Rattle.shared_area.specs.declared.rule.NoSlot.{NoSlot}
use Rattle.module_area.specs.Words.{cell_of}
use Rattle.shared_area.specs.Words.{word_of, closed_word_of, bit_of, facts_of, set_word, base_of, cells_in, sets_in}
use Rattle.shared_area.specs.Rule.{Fetched, MayMark, Marked, Looked, Lifted}
use Rattle.shared_area.proofs.Picked.{IsFront, Tagged}
use Rattle.shared_area.proofs.NoteLemmas.{pair_there}
use Rattle.shared_area.proofs.WordLemmas.{cell_of-word_of, cell_of-closed_word_of, cell_word, facts_of-added, facts_of-other, with_fact-there, same_word, cell_front, set_front}
use Rattle.shared_area.proofs.AnswerLemmas.{answers, founds, tag_small, keeper_seen}

module _ (plan : PlanView) where
  abbrev St : Type 0
  St = State NoSlot View

  cell_there : (s : St) → IsFront plan s → (p : ℕ) → p < length plan.places → p < length s.words
  cell_there s r p l = let a = cell_front plan p l in let w = r.wide in omega (arith, a, w)

  set_there : (s : St) → IsFront plan s → (t p : ℕ) → 0 < t → t ≤ plan.sessions → p < length plan.places → set_word (length plan.places) t p < length s.words
  set_there s r t p pos lt l = let a = set_front plan t p pos lt l in let w = r.wide in omega (arith, a, w)

  -- a write to a cell changes no other cell and no set
  pub other_cell : (ws : List ℕ) (p x q : ℕ) → q ≢ p → cells_in (set ws p x) q ≡ cells_in ws q
  other_cell ws p x q n = ap cell_of (get_or-set_other ws p q x 0 n)

  pub cell_no_set : (ws : List ℕ) (p x t q : ℕ) → p < length plan.places → sets_in plan (set ws p x) t q ≡ sets_in plan ws t q
  cell_no_set ws p x t q l = ap (facts_of (kind_at plan q) q) (get_or-set_other ws p (set_word (length plan.places) t q) x 0 (λ e. absurd (omega arith)))

  pub set_no_cell : (ws : List ℕ) (s p x q : ℕ) → q < length plan.places → cells_in (set ws (set_word (length plan.places) s p) x) q ≡ cells_in ws q
  set_no_cell ws s p x q l = ap cell_of (get_or-set_other ws (set_word (length plan.places) s p) q x 0 (λ e. absurd (omega arith)))

  -- the word of the set of session s at place p, with the fact's bit
  abbrev pub added : List ℕ → ℕ → ℕ → Fact → ℕ
  added ws s p f = bit_or (get_or ws (set_word (length plan.places) s p) 0) (2 ^ bit_of p f)

  -- a bit that is set changes no other set
  pub other_set : (ws : List ℕ) (s p : ℕ) (f : Fact) (t q : ℕ) → 0 < s → 0 < t → p < length plan.places → q < length plan.places → set_word (length plan.places) s p < length ws → ((t ≡ s) × (q ≡ p) → ⊥)
      → sets_in plan (set ws (set_word (length plan.places) s p) (added ws s p f)) t q ≡ sets_in plan ws t q
  other_set ws s p f t q ps pt lp lq inside apart = let n : ℕ = length plan.places in let i : ℕ = set_word n s p in let j : ℕ = set_word n t q in let x : ℕ = added ws s p f in dite (ℕ_discrete j i)
      (λ e. let same = same_word n t s q p pt ps lq lp e in
      ap (λ k. facts_of (kind_at plan q) q (get_or (set ws i x) k 0)) e
      ∙ (ap (facts_of (kind_at plan q) q) (get_or-set_same ws i x 0 inside)
      ∙ (facts_of-other (kind_at plan q) p q (get_or ws i 0) f (λ m. apart (same.0, let a = same.1 in omega arith)) ∙ ap (λ k. facts_of (kind_at plan q) q (get_or ws k 0)) (sym e))))
      (λ d. ap (facts_of (kind_at plan q) q) (get_or-set_other ws i j x 0 d))

  pub fetch_allowed : (slots id p : ℕ) (me : Me NoSlot View) → me.0.role ≢ Spent → p < length plan.places → Allows (IsFront plan) slots id me p (λ w. w) (λ w me'. Fetched plan p me.0 (cell_of w) me'.0 × (me'.1 ≡ me.1))
  fetch_allowed slots id p me live l s r _ at _ = let w : View = fetching plan p (cell_of (get_or s.words p 0)) me.0 in let tag = tag_small plan p (cells_in s.words p) r.held.is_plan l (r.held.site p l).form in (
    w,
    keeps,
    tt,
    subst (λ ws. IsFront plan record { words = ws; homes = s.homes; views = set s.views id w }) (sym (set-get_or s.words p 0)) record {
      wide = r.wide;
      held = fetches plan (cells_in s.words) (sets_in plan s.words) s.views r.held id me.0 at live p l;
    },
    (
      record {
        after = refl;
        answer = answers plan (cells_in s.words) (sets_in plan s.words) s.views r.held id me.0 at live p l;
        within = tag;
        small = let few = r.held.is_plan.sessions in omega arith;
      },
      refl,
    ),
  )

  pub mark_allowed : (slots id s p : ℕ) (f : Fact) (me : Me NoSlot View) → MayMark plan s p f me.0
      → Allows (IsFront plan) slots id me (set_word (length plan.places) s p) (λ x. bit_or x (2 ^ bit_of p f)) (λ w me'. Marked plan s p f me.0 (facts_of (kind_at plan p) p w) me'.0 × (me'.1 ≡ me.1))
  mark_allowed slots id s p f me may st r _ at _ = let i : ℕ = set_word (length plan.places) s p in let x : ℕ = added st.words s p f in let inside = set_there st r s p may.session may.in_plan may.place in (
    marking plan s p f (sets_in plan st.words s p) me.0,
    keeps,
    tt,
    record {
      wide = subst (λ k. base_of plan ≤ k) (sym (length-set st.words i x)) r.wide;
      held = marks plan (cells_in st.words) (sets_in plan st.words) st.views r.held id me.0 at may.live s p f may.place may.session may.pending may.kind (cells_in (set st.words i x)) (sets_in plan (set st.words i x))
          (λ q lq. set_no_cell st.words s p x q lq)
          (ap (facts_of (kind_at plan p) p) (get_or-set_same st.words i x 0 inside) ∙ facts_of-added (kind_at plan p) p (get_or st.words i 0) f may.kind)
          (λ t q lq pos no. other_set st.words s p f t q may.session pos may.place lq inside no);
    },
    (record { after = refl; is_found = founds plan (cells_in st.words) (sets_in plan st.words) st.views r.held id me.0 at s p may.place may.session }, refl),
  )

  -- a look that finds such a set, which has the fact, is a mark that changes no word, and another changes nothing
  look_by : (st : St) (r : IsFront plan st) (id s p : ℕ) (f : Fact) (is : FactSet → Bool) (has : (x : FactSet) → is x ≡ true → has_fact x f ≡ true) (v : View) → get_elem? st.views id ≡ some v → MayMark plan s p f v → (b : Bool) → is (sets_in plan st.words s p) ≡ b
      → (w : View) × IsFront plan record { words = st.words; homes = st.homes; views = set st.views id w } × Looked is plan s p f v (sets_in plan st.words s p) w
  look_by st r id s p f is has v at may true e = (
    marking plan s p f (sets_in plan st.words s p) v,
    record {
      wide = r.wide;
      held = marks plan (cells_in st.words) (sets_in plan st.words) st.views r.held id v at may.live s p f may.place may.session may.pending may.kind (cells_in st.words) (sets_in plan st.words)
          (λ q _. refl) (sym (with_fact-there (sets_in plan st.words s p) f (has (sets_in plan st.words s p) e))) (λ t q _ _ _. refl);
    },
    record { there = λ _. record { after = refl; is_found = founds plan (cells_in st.words) (sets_in plan st.words) st.views r.held id v at s p may.place may.session }; wanting = λ n. absurd (let z : true ≡ false = sym e ∙ n in cc) },
  )
  look_by st r id s p f is has v at may false e = (
    v,
    subst (λ (vs : List View). IsFront plan record { words = st.words; homes = st.homes; views = vs }) (sym (set_again st.views id v at)) record { wide = r.wide; held = r.held },
    record { there = λ h. absurd (let z : false ≡ true = sym e ∙ h in cc); wanting = λ _. refl },
  )

  pub look_allowed : (slots id s p : ℕ) (f : Fact) (is : FactSet → Bool) (has : (x : FactSet) → is x ≡ true → has_fact x f ≡ true) (me : Me NoSlot View) → MayMark plan s p f me.0
      → Allows (IsFront plan) slots id me (set_word (length plan.places) s p) (λ x. x) (λ w me'. Looked is plan s p f me.0 (facts_of (kind_at plan p) p w) me'.0 × (me'.1 ≡ me.1))
  look_allowed slots id s p f is has me may st r _ at _ = let x = look_by st r id s p f is has me.0 at may (is (sets_in plan st.words s p)) refl in (
    x.0,
    keeps,
    tt,
    subst (λ ws. IsFront plan record { words = ws; homes = st.homes; views = set st.views id x.0 }) (sym (set-get_or st.words (set_word (length plan.places) s p) 0)) x.1,
    (x.2, refl),
  )

  -- what a compare-exchange of the breakpoint does to the cell
  pub lift_did : (o s c x : ℕ) → o < 65536 → x ≡ either (eqb c (word_of s breakpoint)) (word_of s o) c
      → ((nat_eq c (word_of s breakpoint) ≡ true) × (cell_of c ≡ planted s) × (cell_of x ≡ lifted s o)) ⊎ ((nat_eq c (word_of s breakpoint) ≡ false) × (cell_of c ≢ planted s) × (cell_of x ≡ cell_of c))
  lift_did o s c x small e = dite (ℕ_discrete c (word_of s breakpoint))
      (λ y. inl (
        eq-eqb c (word_of s breakpoint) y,
        ap cell_of y ∙ cell_of-word_of s breakpoint (omega arith),
        ap cell_of (e ∙ ap (λ b. either b (word_of s o) c) (eq-eqb c (word_of s breakpoint) y)) ∙ cell_of-word_of s o small,
      ))
      (λ n. inr (
        ne_eqb c (word_of s breakpoint) n,
        λ y. n (cell_word c (word_of s breakpoint) (y ∙ sym (cell_of-word_of s breakpoint (omega arith)))),
        ap cell_of (e ∙ ap (λ b. either b (word_of s o) c) (ne_eqb c (word_of s breakpoint) n)),
      ))

  pub lift_allowed : (slots id s p : ℕ) (me : Me NoSlot View) → original_at plan p < 65536 → me.0.role ≢ Spent → p < length plan.places → 0 < s → Has (s, p) me.0.full
      → Allows (IsFront plan) slots id me p (λ x. either (eqb x (word_of s breakpoint)) (word_of s (original_at plan p)) x) (λ w me'. Lifted s p (word_of s breakpoint) me.0 w me'.0 × (me'.1 ≡ me.1))
  lift_allowed slots id s p me small live l pos met st r _ at _ = let c : ℕ = get_or st.words p 0 in let old : ℕ = word_of s breakpoint in let x : ℕ = either (eqb c old) (word_of s (original_at plan p)) c in
      let x_here : cells_in (set st.words p x) p ≡ cell_of x = ap cell_of (get_or-set_same st.words p x 0 (cell_there st r p l)) in
      let did = lift_did (original_at plan p) s c x small refl in
      let same_tag : cells_in (set st.words p x) p ≡ cell_of x = x_here in (
        lifting s p (nat_eq c old) me.0,
        keeps,
        tt,
        record {
          wide = subst (λ k. base_of plan ≤ k) (sym (length-set st.words p x)) r.wide;
          held = lifts plan (cells_in st.words) (sets_in plan st.words) st.views r.held id me.0 at live s p l met (nat_eq c old) (cells_in (set st.words p x)) (sets_in plan (set st.words p x))
              (⊎_elim (λ a. inl (a.0, a.1, x_here ∙ a.2)) (λ a. inr (a.0, a.1, x_here ∙ a.2)) did)
              (λ q _ no. other_cell st.words p x q no)
              (λ t q _ _. cell_no_set st.words p x t q l);
        },
        (record { after = refl; again = λ h. ⊎_elim (λ a. absurd (((r.held.kept id me.0 at).free s p (pair_there s p me.0.free h)).1 a.1)) (λ a. a.0) did }, refl),
      )

  pub plant_allowed : (slots id s p : ℕ) (me : Me NoSlot View) → me.0.role ≢ Spent → p < length plan.places → Keeps plan me.0 p → 0 < s → is_over plan s p ≡ true → last_tag p me.0.planted < window_tag s
      → Allows (IsFront plan) slots id me p (λ _. word_of s breakpoint) (λ _ me'. Tagged p (window_tag s) me.0 me'.0 × (me'.1 ≡ me.1))
  plant_allowed slots id s p me live l keep pos over later st r _ at _ = let x : ℕ = word_of s breakpoint in let most = keeper_seen plan (cells_in st.words) (sets_in plan st.words) st.views r.held id me.0 at live p l keep in (
    planting s p me.0,
    keeps,
    tt,
    record {
      wide = subst (λ k. base_of plan ≤ k) (sym (length-set st.words p x)) r.wide;
      held = plants plan (cells_in st.words) (sets_in plan st.words) st.views r.held id me.0 at live s p l keep pos over later (cells_in (set st.words p x)) (sets_in plan (set st.words p x))
          (ap cell_of (get_or-set_same st.words p x 0 (cell_there st r p l)) ∙ cell_of-word_of s breakpoint (omega arith))
          (λ q _ no. other_cell st.words p x q no)
          (λ t q _ _. cell_no_set st.words p x t q l);
    },
    (record { after = refl; higher = omega arith }, refl),
  )

  pub close_allowed : (slots id s p : ℕ) (me : Me NoSlot View) → original_at plan p < 65536 → me.0.role ≢ Spent → p < length plan.places → Keeps plan me.0 p → 0 < s → is_controlled plan s p ≡ true → last_tag p me.0.planted ≡ window_tag s
      → Allows (IsFront plan) slots id me p (λ _. closed_word_of s (original_at plan p)) (λ _ me'. Tagged p (2 * s) me.0 me'.0 × (me'.1 ≡ me.1))
  close_allowed slots id s p me small live l keep pos its is_open st r _ at _ = let x : ℕ = closed_word_of s (original_at plan p) in let most = keeper_seen plan (cells_in st.words) (sets_in plan st.words) st.views r.held id me.0 at live p l keep in (
    closing s p me.0,
    keeps,
    tt,
    record {
      wide = subst (λ k. base_of plan ≤ k) (sym (length-set st.words p x)) r.wide;
      held = closes plan (cells_in st.words) (sets_in plan st.words) st.views r.held id me.0 at live s p l keep pos its is_open (cells_in (set st.words p x)) (sets_in plan (set st.words p x))
          (ap cell_of (get_or-set_same st.words p x 0 (cell_there st r p l)) ∙ cell_of-closed_word_of s (original_at plan p) small)
          (λ q _ no. other_cell st.words p x q no)
          (λ t q _ _. cell_no_set st.words p x t q l);
    },
    (record { after = refl; higher = omega arith }, refl),
  )
