-- Each step on a word keeps the rule, and tells what the rule says of the word.
use Rattle.std.proofs.Common.{◌≡◌, ℕ, ◌+◌, ◌-◌, ◌*◌, ◌/◌, ◌%◌, ◌^◌, ◌<◌, ◌≤◌, Bool, true, false, ◌||◌, nat_eq, if◌then◌else◌, List, [], ◌∷◌, length, get_or, set, sym, refl, ap, ◌∙◌, subst, arith, eq-eqb, ne_eqb, length-append, length-set, get_or-set_same, get_or-set_other}
use lib.Seq.{set-get_or}
use mathlib.Core.Logic.{dite}
use mathlib.Core.Option.{some, some-injective}
use native.Mathlib.Decide.{ℕ_discrete}
use lib.ListN.{get_elem?}
use Rattle.atomic_table.specs.Table.{State, Me, keeps, Allows, Splits, Joins}
use Rattle.cov_base.specs.Meaning.{breakpoint}
use Rattle.module_area.specs.Rule.{total, has_number}
use Rattle.module_area.specs.Meaning.{PlanView, original_at, window_at}
use Rattle.module_area.proofs.Laws.{at_put, set_else, at_longer, all_set, all_snoc, all_two, total-set, total_two}
use Rattle.count_session.specs.declared.rule.NoSlot.{NoSlot}
use Rattle.count_session.specs.declared.rule.CountView.{CountView}
use Rattle.module_area.specs.Words.{cell_of}
use Rattle.count_session.specs.Words.{planted_word, word_count}
use Rattle.count_session.specs.Rule.{times, spent_view, planting, fetching, adding, giving, newcomer, joining, cell_word, IsView, IsRoot, IsCounting, Fetched}
use Rattle.count_session.proofs.WordLemmas.{cell_there}
use Rattle.count_session.proofs.ViewLemmas.{total_end, at_below, times-append, sum_most}

abbrev adds_at : ℕ → CountView → ℕ
adds_at i v = times i v.added

abbrev passes_of : CountView → ℕ
passes_of v = v.passes

-- the one that is the root
is_first : (views : List CountView) (id : ℕ) (v r : CountView) → get_elem? views id ≡ some v → IsRoot views r → id ≡ 0 → v ≡ r
is_first views id v r at h e = some-injective v r (sym at ∙ (ap (get_elem? views) e ∙ h.first))

-- a pass has changed, but not its counts of passes
root_set : (views : List CountView) (id : ℕ) (v w r : CountView) → get_elem? views id ≡ some v → w.given ≡ v.given → w.passes ≡ v.passes → IsRoot views r → (r' : CountView) × IsRoot (set views id w) r'
root_set views id v w r at given passes h = let sum = total-set passes_of views id v w at in let long = length-set views id w in dite (ℕ_discrete id 0)
    (λ e. let is : v.given ≡ r.given = ap (λ (u : CountView). u.given) (is_first views id v r at h e) in (
      w,
      record {
        first = ap (get_elem? (set views id w)) (sym e) ∙ at_put views id v w at;
        count = (let c = h.count in omega arith);
        passes = (let p = h.passes in omega arith);
        few = (let f = h.few in omega arith);
      },
    ))
    (λ n. (
      r,
      record {
        first = set_else views id 0 w (λ z. n (sym z)) ∙ h.first;
        count = (let c = h.count in omega arith);
        passes = (let p = h.passes in omega arith);
        few = h.few;
      },
    ))

cell_is : (o s : ℕ) (b : Bool) → o < 65536 → cell_of (if b then planted_word s else o) ≡ (if b then record { tag = 2 * s - 1; half = breakpoint } else record { tag = 0; half = o })
cell_is o s true small = let t : planted_word s / 65536 ≡ 2 * s - 1 = omega arith in let h : planted_word s % 65536 ≡ breakpoint = omega arith in λ i. record { tag = t i; half = h i }
cell_is o s false small = let t : o / 65536 ≡ 0 = omega arith in let h : o % 65536 ≡ o = omega arith in λ i. record { tag = t i; half = h i }

word_small : (o s : ℕ) (b : Bool) → o < 65536 → s ≤ 16 → (if b then planted_word s else o) / 65536 < 2 ^ 32
word_small o s true small few = omega arith
word_small o s false small few = omega arith

module _ (plan : PlanView) where
  abbrev St : Type 0
  St = State NoSlot CountView

  places_within : (s : St) → IsCounting plan s → (p : ℕ) → p < length plan.places → p < length s.words
  places_within s r p l = subst (λ k. p < k) (sym r.wide) (cell_there (length plan.places) p l)

  pub fetch_allowed : (slots id p : ℕ) (me : Me NoSlot CountView) → me.0.live ≡ true → p < length plan.places → Allows (IsCounting plan) slots id me p (λ w. w) (λ w me'. Fetched plan p me.0 w me'.0 × (me'.1 ≡ me.1))
  fetch_allowed slots id p me live l s r _ at _ =
      let v : CountView = me.0 in
      let w : CountView = fetching p v in
      let mine = r.views id v at in
      let root = root_set s.views id v w r.root at refl refl r.is_root in
      let word : get_or s.words p 0 ≡ cell_word plan v p = mine.cells live p l in (
        w,
        keeps,
        tt,
        subst (λ ws. IsCounting plan record { words = ws; homes = s.homes; views = set s.views id w }) (sym (set-get_or s.words p 0)) record {
          is_plan = r.is_plan;
          fits = r.fits;
          wide = r.wide;
          views = all_set (IsView plan s.words) s.views id w record { cells = mine.cells; few = mine.few; first = mine.first; one = mine.one } (λ j u _ here. r.views j u here);
          counts = λ i low high. let sum = total-set (adds_at i) s.views id v w at in let c = r.counts i low high in omega arith;
          root = root.0;
          is_root = root.1;
        },
        (
          record {
            after = refl;
            cell = ap cell_of word ∙ cell_is (original_at plan p) (window_at plan p) (has_number p v.planted) (r.fits p l);
            small = subst (λ k. k / 65536 < 2 ^ 32) (sym word) (word_small (original_at plan p) (window_at plan p) (has_number p v.planted) (r.fits p l) (let a = r.is_plan.in_range p l in let b = r.is_plan.sessions in omega arith));
          },
          refl,
        ),
      )

  pub add_allowed : (slots id i : ℕ) (me : Me NoSlot CountView) → me.0.root ≡ false → me.0.live ≡ true → length me.0.added < 2 ^ 40 → length plan.places ≤ i → i < word_count plan
      → Allows (IsCounting plan) slots id me i (λ w. (w + 1) % 2 ^ 64) (λ w me'. (me'.0 ≡ adding i me.0) × (me'.1 ≡ me.1))
  add_allowed slots id i me task live room low high s r _ at _ =
      let v : CountView = me.0 in
      let w : CountView = adding i v in
      let c : ℕ = get_or s.words i 0 in
      let x : ℕ = (c + 1) % 2 ^ 64 in
      let mine = r.views id v at in
      let inside : i < length s.words = let wide = r.wide in omega arith in
      let sum : c ≡ total (adds_at i) s.views = r.counts i low inside in
      let most = sum_most i s.views (λ j u here. (r.views j u here).few) in
      let few : total passes_of s.views ≤ 65535 = let a = r.is_root.passes in let b = r.is_root.few in omega arith in
      let next : x ≡ c + 1 = omega arith in
      let root = root_set s.views id v w r.root at refl refl r.is_root in
      let same : (p : ℕ) → p < length plan.places → get_or (set s.words i x) p 0 ≡ get_or s.words p 0 = λ p l. get_or-set_other s.words i p x 0 (λ e. absurd (omega arith)) in (
        w,
        keeps,
        tt,
        record {
          is_plan = r.is_plan;
          fits = r.fits;
          wide = length-set s.words i x ∙ r.wide;
          views = all_set (IsView plan (set s.words i x)) s.views id w
              record { cells = λ alive p l. same p l ∙ mine.cells alive p l; few = (let one = mine.one task live in omega arith); first = mine.first; one = mine.one }
              (λ j u _ here. let k = r.views j u here in record { cells = λ alive p l. same p l ∙ k.cells alive p l; few = k.few; first = k.first; one = k.one });
          counts = λ k from to. let total_k = total-set (adds_at k) s.views id v w at in dite (ℕ_discrete k i)
              (λ e. let here : nat_eq k i ≡ true = eq-eqb k i e in let one : adds_at k w ≡ 1 + adds_at k v = ap (λ b. (if b then 1 else 0) + adds_at k v) here in
              let found : get_or (set s.words i x) k 0 ≡ x = ap (λ z. get_or (set s.words i x) z 0) e ∙ get_or-set_same s.words i x 0 inside in
              let before : c ≡ total (adds_at k) s.views = sum ∙ ap (λ z. total (adds_at z) s.views) (sym e) in omega arith)
              (λ n. let off : nat_eq k i ≡ false = ne_eqb k i n in let none : adds_at k w ≡ 0 + adds_at k v = ap (λ b. (if b then 1 else 0) + adds_at k v) off in
              let found : get_or (set s.words i x) k 0 ≡ get_or s.words k 0 = get_or-set_other s.words i k x 0 n in
              let before : get_or s.words k 0 ≡ total (adds_at k) s.views = r.counts k from (let e = length-set s.words i x in omega arith) in omega arith);
          root = root.0;
          is_root = root.1;
        },
        (refl, refl),
      )

  pub plant_allowed : (slots id p : ℕ) (me : Me NoSlot CountView) → me.0.root ≡ true → me.0.given ≡ 0 → p < length plan.places
      → Allows (IsCounting plan) slots id me p (λ _. planted_word (window_at plan p)) (λ _ me'. (me'.0 ≡ planting p me.0) × (me'.1 ≡ me.1))
  plant_allowed slots id p me is_root none l s r _ at _ =
      let v : CountView = me.0 in
      let w : CountView = planting p v in
      let x : ℕ = planted_word (window_at plan p) in
      let mine = r.views id v at in
      let zero_id = mine.first is_root in
      let given : v.given ≡ r.root.given = ap (λ (u : CountView). u.given) (is_first s.views id v r.root at r.is_root zero_id) in
      let alone : length s.views ≡ 1 = let c = r.is_root.count in omega arith in
      let root = root_set s.views id v w r.root at refl refl r.is_root in
      let inside = places_within s r p l in (
        w,
        keeps,
        tt,
        record {
          is_plan = r.is_plan;
          fits = r.fits;
          wide = length-set s.words p x ∙ r.wide;
          views = all_set (IsView plan (set s.words p x)) s.views id w
              record {
                cells = λ alive q lq. dite (ℕ_discrete q p)
                    (λ e. ap (λ z. get_or (set s.words p x) z 0) e
                    ∙ (get_or-set_same s.words p x 0 inside
                    ∙ (ap (λ z. planted_word (window_at plan z)) (sym e) ∙ sym (ap (λ b. if b then planted_word (window_at plan q) else original_at plan q) (either_so (has_number q v.planted) (nat_eq q p) (eq-eqb q p e))))))
                    (λ n. get_or-set_other s.words p q x 0 n
                    ∙ (mine.cells alive q lq ∙ sym (ap (λ b. if b then planted_word (window_at plan q) else original_at plan q) (not_so (has_number q v.planted) (nat_eq q p) (ne_eqb q p n)))));
                few = mine.few;
                first = mine.first;
                one = mine.one;
              }
              (λ j u n here. absurd (let b = at_below s.views j u here in n (omega arith)));
          counts = λ i low high. let sum = total-set (adds_at i) s.views id v w at in let same : get_or (set s.words p x) i 0 ≡ get_or s.words i 0 = get_or-set_other s.words p i x 0 (λ e. absurd (omega arith)) in
              let c = r.counts i low (let e = length-set s.words p x in omega arith) in omega arith;
          root = root.0;
          is_root = root.1;
        },
        (refl, refl),
      )
    where
      either_so : (a b : Bool) → b ≡ true → (a || b) ≡ true
      either_so true b e = refl
      either_so false b e = e

      not_so : (a b : Bool) → b ≡ false → (a || b) ≡ a
      not_so true b e = refl
      not_so false b e = e

  pub split_allowed : (id : ℕ) (v : CountView) → v.root ≡ true → v.live ≡ true → v.given < 65535 → Splits (IsCounting plan) id v (giving v) (newcomer v)
  split_allowed id v is_root live room s r at =
      let mine = r.views id v at in
      let zero_id = mine.first is_root in
      let given : v.given ≡ r.root.given = ap (λ (u : CountView). u.given) (is_first s.views id v r.root at r.is_root zero_id) in
      let first_set = set s.views id (giving v) in
      let long = length-set s.views id (giving v) in record {
        is_plan = r.is_plan;
        fits = r.fits;
        wide = r.wide;
        views = all_snoc (IsView plan s.words) first_set (newcomer v)
            (all_set (IsView plan s.words) s.views id (giving v) record { cells = mine.cells; few = mine.few; first = mine.first; one = mine.one } (λ j u _ here. r.views j u here))
            record { cells = λ alive p l. mine.cells live p l; few = omega arith; first = λ e. absurd cc; one = λ _ _. refl };
        counts = λ i low high. let a = total_end (adds_at i) first_set (newcomer v) in let b = total-set (adds_at i) s.views id v (giving v) at in let c = r.counts i low high in omega arith;
        root = giving v;
        is_root = record {
          first = at_longer first_set (newcomer v ∷ []) 0 (giving v) (ap (get_elem? first_set) (sym zero_id) ∙ at_put s.views id v (giving v) at);
          count = (let a = length-append first_set (newcomer v ∷ []) in let c = r.is_root.count in omega arith);
          passes = (let a = total_end passes_of first_set (newcomer v) in let b = total-set passes_of s.views id v (giving v) at in let c = r.is_root.passes in omega arith);
          few = omega arith;
        };
      }

  pub join_allowed : (id k : ℕ) (v o : CountView) → v.root ≡ true → Joins (IsCounting plan) id v k o (joining v o) spent_view
  join_allowed id k v o is_root s r at other there =
      let mine = r.views id v at in
      let zero_id = mine.first is_root in
      let its_view : get_elem? s.views k ≡ some o = sym (set_else s.views id k (joining v o) other) ∙ there in
      let its = r.views k o its_view in
      let given : v.given ≡ r.root.given = ap (λ (u : CountView). u.given) (is_first s.views id v r.root at r.is_root zero_id) in record {
        is_plan = r.is_plan;
        fits = r.fits;
        wide = r.wide;
        views = all_two (IsView plan s.words) s.views id k (joining v o) spent_view
            record {
              cells = mine.cells;
              few = (let a = mine.few in let b = its.few in let c = length-append o.added v.added in omega arith);
              first = mine.first;
              one = λ not_root _. absurd (let z : true ≡ false = sym is_root ∙ not_root in cc);
            }
            record { cells = λ alive. absurd cc; few = omega arith; first = λ e. absurd cc; one = λ _ alive. absurd cc }
            (λ j u _ _ here. r.views j u here);
        counts = λ i low high. r.counts i low high ∙ sym (total_two (adds_at i) s.views id k v o (joining v o) spent_view (total (adds_at i) s.views) at its_view other refl (times-append i o.added v.added) refl);
        root = joining v o;
        is_root = record {
          first = set_else (set s.views id (joining v o)) k 0 spent_view (λ e. other (sym e ∙ sym zero_id)) ∙ (ap (get_elem? (set s.views id (joining v o))) (sym zero_id) ∙ at_put s.views id v (joining v o) at);
          count = (let a = length-set (set s.views id (joining v o)) k spent_view in let b = length-set s.views id (joining v o) in let c = r.is_root.count in omega arith);
          passes = (let a = total_two passes_of s.views id k v o (joining v o) spent_view (total passes_of s.views) at its_view other refl (omega arith) refl in let c = r.is_root.passes in omega arith);
          few = (let f = r.is_root.few in omega arith);
        };
      }
