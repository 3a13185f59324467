-- Pairs counted place by place, and facts counted by the marks that made them.
use Rattle.std.proofs.Common.{◌≡◌, ◌≢◌, ℕ, zero, suc, ◌+◌, ◌<◌, ◌≤◌, Bool, true, false, ◌&&◌, nat_eq, if◌then◌else◌, List, [], ◌∷◌, length, set, get_or, sum_by, sym, refl, ap, ◌∙◌, subst, inl, inr, ⊎_elim, arith, eq-eqb, ne_eqb, get_or-set_same, get_or-set_other, length-set}
use mathlib.Core.Logic.{dite}
use native.Mathlib.Decide.{ℕ_discrete, dec_le}
use Rattle.std.proofs.lemmas.List.Sums.{sum_by-cons, sum_by-set}
use Rattle.cov_base.specs.declared.facts.Fact.{Fact}
use Rattle.cov_base.specs.declared.facts.Fact.TheVariants.{Ran, Went, Stayed}
use Rattle.cov_base.specs.Meaning.{FactSet, has_fact, no_facts}
use Rattle.module_area.specs.Meaning.{count_below, count_pairs, fact_count}
use Rattle.module_area.proofs.Laws.{count_same}
use Rattle.module_area.specs.Rule.{Has, times}

abbrev one_if : Bool → ℕ
one_if b = if b then 1 else 0

-- g of each number below n, added up
abbrev pub sum_below : (ℕ → ℕ) → ℕ → ℕ
sum_below g zero = 0
sum_below g (suc n) = sum_below g n + g n

none_below : (n : ℕ) → sum_below (λ _. 0) n ≡ 0
none_below zero = refl
none_below (suc n) = let a = none_below n in omega arith

mono_below : (f g : ℕ → ℕ) (n : ℕ) → ((p : ℕ) → p < n → f p ≤ g p) → sum_below f n ≤ sum_below g n
mono_below f g zero h = omega arith
mono_below f g (suc n) h = let a = mono_below f g n (λ p l. h p (omega arith)) in let b = h n (omega arith) in omega (arith, a, b)

-- one less at one place
less_below : (f g : ℕ → ℕ) (n p : ℕ) → p < n → 1 + f p ≤ g p → ((q : ℕ) → q < n → f q ≤ g q) → 1 + sum_below f n ≤ sum_below g n
less_below f g zero p l here others = absurd (omega arith)
less_below f g (suc n) p l here others = dite (ℕ_discrete p n)
    (λ e. let a : 1 + f n ≤ g n = subst (λ z. 1 + f z ≤ g z) e here in let b = mono_below f g n (λ q lq. others q (omega arith)) in omega (arith, a, b))
    (λ x. let a = others n (omega arith) in let b = less_below f g n p (omega arith) here (λ q lq. others q (omega arith)) in omega (arith, a, b))

-- at most one more at one place
more_below : (f g : ℕ → ℕ) (n p : ℕ) → g p ≤ 1 + f p → ((q : ℕ) → q ≢ p → g q ≤ f q) → sum_below g n ≤ 1 + sum_below f n
more_below f g zero p here others = omega arith
more_below f g (suc n) p here others = dite (ℕ_discrete n p)
    (λ e. let a : g n ≤ 1 + f n = subst (λ z. g z ≤ 1 + f z) (sym e) here in let b = mono_below g f n (λ q lq. others q (λ z. absurd (omega arith))) in omega (arith, a, b))
    (λ x. let a = others n x in let b = more_below f g n p here others in omega (arith, a, b))

both_true : (a b c d : ℕ) → a ≡ b → c ≡ d → ◌≡◌ {A = ℕ} (if nat_eq a b && nat_eq c d then 1 else 0) 1
both_true a b c d e f = ap (λ x. one_if (x && nat_eq c d)) (eq-eqb a b e) ∙ ap one_if (eq-eqb c d f)

second_false : (x : Bool) (c d : ℕ) → c ≢ d → ◌≡◌ {A = ℕ} (if x && nat_eq c d then 1 else 0) 0
second_false true c d n = ap one_if (ne_eqb c d n)
second_false false c d n = refl

one_most : (b : Bool) → one_if b ≤ 1
one_most true = omega arith
one_most false = omega arith

more_times : (s p : ℕ) (x : ℕ × ℕ) (xs : List (ℕ × ℕ)) → times s p xs ≤ times s p (x ∷ xs)
more_times s p x xs = omega arith

-- the pairs of one session at each place are among all
pub some_sum : (w : ℕ → ℕ) (n : ℕ) (l : List (ℕ × ℕ)) → sum_below (λ p. times (w p) p l) n ≤ length l
some_sum w n [] = let a = none_below n in omega arith
some_sum w n (x ∷ xs) = let rest = some_sum w n xs in
    let more = more_below (λ p. times (w p) p xs) (λ p. times (w p) p (x ∷ xs)) n x.1
    (let a = one_most (nat_eq x.0 (w x.1) && nat_eq x.1 x.1) in omega arith)
    (λ q other. let a = second_false (nat_eq x.0 (w q)) x.1 q (λ z. other (sym z)) in omega arith) in omega (arith, rest, more)

-- g of each session from 1 to m and number below n, added up
abbrev pub sum_pairs : (ℕ → ℕ → ℕ) → ℕ → ℕ → ℕ
sum_pairs g zero n = 0
sum_pairs g (suc m) n = sum_pairs g m n + sum_below (g (suc m)) n

mono_pairs : (f g : ℕ → ℕ → ℕ) (m n : ℕ) → ((s p : ℕ) → f s p ≤ g s p) → sum_pairs f m n ≤ sum_pairs g m n
mono_pairs f g zero n h = omega arith
mono_pairs f g (suc m) n h = let a = mono_pairs f g m n h in let b = mono_below (f (suc m)) (g (suc m)) n (λ p _. h (suc m) p) in omega (arith, a, b)

less_pairs : (f g : ℕ → ℕ → ℕ) (m n s p : ℕ) → 0 < s → s ≤ m → p < n → 1 + f s p ≤ g s p → ((t q : ℕ) → f t q ≤ g t q) → 1 + sum_pairs f m n ≤ sum_pairs g m n
less_pairs f g zero n s p pos ls l here others = absurd (omega arith)
less_pairs f g (suc m) n s p pos ls l here others = dite (ℕ_discrete s (suc m))
    (λ e. let a = less_below (f (suc m)) (g (suc m)) n p l (subst (λ z. 1 + f z p ≤ g z p) e here) (λ q _. others (suc m) q) in let b = mono_pairs f g m n others in omega (arith, a, b))
    (λ x. let a = mono_below (f (suc m)) (g (suc m)) n (λ q _. others (suc m) q) in let b = less_pairs f g m n s p pos (omega arith) l here others in omega (arith, a, b))

-- no more entries than stand at all sessions and places
pub all_sum : (m n : ℕ) (l : List (ℕ × ℕ)) → ((s p : ℕ) → Has (s, p) l → (0 < s) × (s ≤ m) × (p < n)) → length l ≤ sum_pairs (λ s p. times s p l) m n
all_sum m n [] h = omega arith
all_sum m n (x ∷ xs) h = let mine = h x.0 x.1 (inl refl) in let rest = all_sum m n xs (λ s p y. h s p (inr y)) in
    let more = less_pairs (λ s p. times s p xs) (λ s p. times s p (x ∷ xs)) m n x.0 x.1 mine.0 mine.1 mine.2
    (let a = both_true x.0 x.0 x.1 x.1 refl refl in omega arith) (λ t q. more_times t q x xs) in omega (arith, rest, more)

pub count_least : (f : ℕ → Bool) (g : ℕ → ℕ) (n : ℕ) → ((p : ℕ) → p < n → f p ≡ true → 1 ≤ g p) → count_below f n ≤ sum_below g n
count_least f g zero h = omega arith
count_least f g (suc n) h = let a = count_least f g n (λ p l. h p (omega arith)) in let b = by_test (f n) (g n) (h n (omega arith)) in omega (arith, a, b)
  where
    by_test : (b : Bool) (k : ℕ) → (b ≡ true → 1 ≤ k) → one_if b ≤ k
    by_test true k h = h refl
    by_test false k h = omega arith

count_most : (f : ℕ → Bool) (g : ℕ → ℕ) (n : ℕ) → ((p : ℕ) → p < n → g p ≤ one_if (f p)) → sum_below g n ≤ count_below f n
count_most f g zero h = omega arith
count_most f g (suc n) h = let a = count_most f g n (λ p l. h p (omega arith)) in let b = h n (omega arith) in omega (arith, a, b)

pub pairs_most : (f : ℕ → ℕ → Bool) (g : ℕ → ℕ → ℕ) (m n : ℕ) → ((s p : ℕ) → 0 < s → s ≤ m → p < n → g s p ≤ (if f s p then 1 else 0)) → sum_pairs g m n ≤ count_pairs f m n
pairs_most f g zero n h = omega arith
pairs_most f g (suc m) n h = let a = pairs_most f g m n (λ s p pos ls. h s p pos (omega arith)) in let b = count_most (f (suc m)) (g (suc m)) n (λ p. h (suc m) p (omega arith) (omega arith)) in omega (arith, a, b)

pub pairs_same : (f g : ℕ → ℕ → Bool) (m n : ℕ) → ((s p : ℕ) → 0 < s → s ≤ m → p < n → f s p ≡ g s p) → count_pairs f m n ≡ count_pairs g m n
pairs_same f g zero n h = refl
pairs_same f g (suc m) n h = let a = pairs_same f g m n (λ s p pos ls. h s p pos (omega arith)) in let b = count_same (f (suc m)) (g (suc m)) n (λ p. h (suc m) p (omega arith) (omega arith)) in omega (arith, a, b)

pub times_none : (s p : ℕ) (l : List (ℕ × ℕ)) → (Has (s, p) l → ⊥) → times s p l ≡ 0
times_none s p [] h = refl
times_none s p (x ∷ xs) h = let rest = times_none s p xs (λ y. h (inr y)) in dite (ℕ_discrete x.1 p)
    (λ e. dite (ℕ_discrete x.0 s)
    (λ e'. absurd (h (inl (λ i. (e' i, e i)))))
    (λ x'. let a : ◌≡◌ {A = ℕ} (if nat_eq x.0 s && nat_eq x.1 p then 1 else 0) 0 = ap (λ b. one_if (b && nat_eq x.1 p)) (ne_eqb x.0 s x') in omega arith))
    (λ x'. let a = second_false (nat_eq x.0 s) x.1 p x' in omega arith)

-- ---- facts
abbrev without : FactSet → Fact → FactSet
without s Ran = record s { ran = false }
without s Went = record s { went = false }
without s Stayed = record s { stayed = false }

not_same : Ran ≢ Went
not_same e = cc

not_stayed : Ran ≢ Stayed
not_stayed e = cc

went_not_stayed : Went ≢ Stayed
went_not_stayed e = cc

without_has : (s : FactSet) (f g : Fact) → has_fact (without s f) g ≡ true → (has_fact s g ≡ true) × (f ≢ g)
without_has s Ran Ran h = absurd (let x : false ≡ true = h in cc)
without_has s Ran Went h = (h, not_same)
without_has s Ran Stayed h = (h, not_stayed)
without_has s Went Ran h = (h, λ e. not_same (sym e))
without_has s Went Went h = absurd (let x : false ≡ true = h in cc)
without_has s Went Stayed h = (h, went_not_stayed)
without_has s Stayed Ran h = (h, λ e. not_stayed (sym e))
without_has s Stayed Went h = (h, λ e. went_not_stayed (sym e))
without_has s Stayed Stayed h = absurd (let x : false ≡ true = h in cc)

fewer : (r w s : Bool) (f : Fact) → fact_count (record { ran = r; went = w; stayed = s }) ≤ fact_count (without (record { ran = r; went = w; stayed = s }) f) + 1
fewer r w s Ran = one_at_most r (one_if w) (one_if s)
  where
    one_at_most : (b : Bool) (m n : ℕ) → one_if b + m + n ≤ 0 + m + n + 1
    one_at_most true m n = omega arith
    one_at_most false m n = omega arith
fewer r w s Went = one_at_most w (one_if r) (one_if s)
  where
    one_at_most : (b : Bool) (m n : ℕ) → m + one_if b + n ≤ m + 0 + n + 1
    one_at_most true m n = omega arith
    one_at_most false m n = omega arith
fewer r w s Stayed = one_at_most s (one_if r) (one_if w)
  where
    one_at_most : (b : Bool) (m n : ℕ) → m + n + one_if b ≤ m + n + 0 + 1
    one_at_most true m n = omega arith
    one_at_most false m n = omega arith

empty_count : (r w s : Bool) → ((f : Fact) → has_fact (record { ran = r; went = w; stayed = s }) f ≡ true → ⊥) → fact_count (record { ran = r; went = w; stayed = s }) ≡ 0
empty_count true w s h = absurd (h Ran refl)
empty_count false true s h = absurd (h Went refl)
empty_count false false true h = absurd (h Stayed refl)
empty_count false false false h = refl

empty_sum : (sets : List FactSet) → ((i : ℕ) (f : Fact) → i < length sets → has_fact (get_or sets i no_facts) f ≡ true → ⊥) → sum_by fact_count sets ≡ 0
empty_sum [] h = refl
empty_sum (x ∷ xs) h = let a = empty_sum xs (λ i f l y. h (suc i) f (omega arith) y) in let b = empty_count x.ran x.went x.stayed (λ f y. h 0 f (omega arith) y) in sum_by-cons fact_count x xs ∙ (let c = a in let d = b in omega arith)

-- no more facts than marks, where each fact was marked
pub facts_by_marks : (marks : List (ℕ × Fact)) (sets : List FactSet) → ((i : ℕ) (f : Fact) → i < length sets → has_fact (get_or sets i no_facts) f ≡ true → Has (i, f) marks) → sum_by fact_count sets ≤ length marks
facts_by_marks [] sets h = let e = empty_sum sets h in omega arith
facts_by_marks (x ∷ xs) sets h = dite (dec_le (suc x.0) (length sets))
    (λ inside. let old : FactSet = get_or sets x.0 no_facts in let new : FactSet = without (get_or sets x.0 no_facts) x.1 in
    let rest = facts_by_marks xs (set sets x.0 new) (λ i f l y. dite (ℕ_discrete i x.0)
    (λ e. let at : get_or (set sets x.0 new) i no_facts ≡ new = ap (λ k. get_or (set sets x.0 new) k no_facts) e ∙ get_or-set_same sets x.0 new no_facts inside in
    let had = without_has old x.1 f (subst (λ z. has_fact z f ≡ true) at y) in
    ⊎_elim (λ (z : x ≡ (i, f)). absurd (had.1 (ap (λ (k : ℕ × Fact). k.1) z))) (λ r. r) (h i f (subst (λ k. k < length sets) (sym e) inside) (subst (λ k. has_fact (get_or sets k no_facts) f ≡ true) (sym e) had.0)))
    (λ n. let at = get_or-set_other sets x.0 i new no_facts n in
    ⊎_elim (λ (z : x ≡ (i, f)). absurd (n (sym (ap (λ (k : ℕ × Fact). k.0) z)))) (λ r. r) (h i f (let len = length-set sets x.0 new in omega arith) (subst (λ z. has_fact z f ≡ true) at y)))) in
    let change = sum_by-set fact_count sets x.0 new no_facts inside in
    let few = fewer old.ran old.went old.stayed x.1 in
    omega arith)
    (λ outside. let rest = facts_by_marks xs sets (λ i f l y. ⊎_elim (λ (z : x ≡ (i, f)). let e : x.0 ≡ i = ap (λ (k : ℕ × Fact). k.0) z in absurd (outside (omega arith))) (λ r. r) (h i f l y)) in omega arith)
