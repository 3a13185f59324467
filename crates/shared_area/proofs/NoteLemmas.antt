-- The notes that a contract sees after each step.
use Rattle.std.proofs.Common.{◌≡◌, ◌⊎◌, ℕ, ◌+◌, ◌*◌, ◌%◌, ◌≤◌, Bool, true, false, not, ◌&&◌, ◌||◌, nat_eq, if◌then◌else◌, List, [], ◌∷◌, ◌++◌, max, unwrap_or, sym, refl, ap, ◌∙◌, subst, inl, inr, ⊎_elim, arith, eqb-true, eq-eqb}
use mathlib.Core.Path.{fun_ext}
use Rattle.std.proofs.lemmas.List.{map-append}
use Rattle.std.proofs.Math.Bool.{and_comm, or_assoc, or_comm, or-false}
use Rattle.std.specs.Cmp.{nat_eq_equiv}
use Rattle.std.proofs.lemmas.Bool.{and_from, and_parts, or_cases, or_left, or_right}
use Rattle.cov_base.specs.declared.facts.Fact.{Fact}
use Rattle.cov_base.specs.Meaning.{FactSet, same_fact, is_full, with_fact}
use Rattle.cov_base.proofs.Laws.{same_fact-self, same_fact-true}
use Rattle.module_area.specs.declared.cells.Cell.{Cell}
use Rattle.module_area.specs.declared.parties.View.{View}
use Rattle.module_area.specs.declared.parties.Role.TheVariants.{Task}
use Rattle.module_area.specs.declared.tallies.Tally.{Tally}
use Rattle.module_area.specs.Meaning.{PlanView, original_at, kind_at, tag_session}
use Rattle.module_area.specs.Rule.{is_controller, Has, add_if, is_lifted, window_tag, last_tag, fetching, marking, planting, has_number}
use Rattle.module_area.specs.Race.{beats_of}
use Rattle.module_area.specs.Parties.{chosen, closing, giving, newcomer, joining, bounding, reading, role_task}
use Rattle.module_area.specs.Notes.{no_tally, is_free_under, after_fetch, after_mark, after_plant, after_close, after_split, split_notes, after_boundary, after_read, after_join, bearer, is_final, same_bit, same_set}
use Rattle.module_area.proofs.Laws.{same_tests, kept_tag, dropped_tag, no_tag, first_tag}
use Rattle.shared_area.specs.Told.{has_mark, has_pair, has_settled, seen_at, told_note, bears_as, notes_in, is_given}

same_bit-true : (a b : Bool) → same_bit a b ≡ true → a ≡ b
same_bit-true true true h = refl
same_bit-true true false h = absurd cc
same_bit-true false true h = absurd cc
same_bit-true false false h = refl

same_set-true : (a b : FactSet) → same_set a b ≡ true → a ≡ b
same_set-true a b h = let rest = (and_parts (same_bit a.ran b.ran) _ h).1 in λ i. record {
  ran = same_bit-true a.ran b.ran (and_parts (same_bit a.ran b.ran) _ h).0 i;
  went = same_bit-true a.went b.went (and_parts (same_bit a.went b.went) _ rest).0 i;
  stayed = same_bit-true a.stayed b.stayed (and_parts (same_bit a.went b.went) _ rest).1 i;
}

-- ---- the tests are membership
pub pair_there : (s p : ℕ) (xs : List (ℕ × ℕ)) → has_pair s p xs ≡ true → Has (s, p) xs
pair_there s p [] h = absurd cc
pair_there s p (x ∷ xs) h = ⊎_elim (λ a. inr (pair_there s p xs a))
    (λ b. inl (λ i. (sym (eqb-true s x.0 (and_parts (nat_eq s x.0) (nat_eq p x.1) b).0) i, sym (eqb-true p x.1 (and_parts (nat_eq s x.0) (nat_eq p x.1) b).1) i)))
    (or_cases (has_pair s p xs) (nat_eq s x.0 && nat_eq p x.1) h)

pub pair_shown : (s p : ℕ) (xs : List (ℕ × ℕ)) → Has (s, p) xs → has_pair s p xs ≡ true
pair_shown s p [] h = absurd h
pair_shown s p (x ∷ xs) (inr h) = or_left (has_pair s p xs) _ (pair_shown s p xs h)
pair_shown s p (x ∷ xs) (inl e) = or_right (has_pair s p xs) (nat_eq s x.0 && nat_eq p x.1)
    (and_from (nat_eq s x.0) (nat_eq p x.1) (eq-eqb s x.0 (sym (ap (λ (z : ℕ × ℕ). z.0) e))) (eq-eqb p x.1 (sym (ap (λ (z : ℕ × ℕ). z.1) e))))

pub mark_there : (s p : ℕ) (f : Fact) (xs : List (ℕ × ℕ × Fact)) → has_mark s p f xs ≡ true → Has (s, p, f) xs
mark_there s p f [] h = absurd cc
mark_there s p f (x ∷ xs) h = ⊎_elim (λ a. inr (mark_there s p f xs a))
    (λ b. let first = (and_parts (nat_eq s x.0 && nat_eq p x.1) (same_fact f x.2) b).0 in
    inl (λ i. (sym (eqb-true s x.0 (and_parts (nat_eq s x.0) (nat_eq p x.1) first).0) i, sym (eqb-true p x.1 (and_parts (nat_eq s x.0) (nat_eq p x.1) first).1) i, sym (same_fact-true f x.2 (and_parts (nat_eq s x.0 && nat_eq p x.1) (same_fact f x.2) b).1) i)))
    (or_cases (has_mark s p f xs) (nat_eq s x.0 && nat_eq p x.1 && same_fact f x.2) h)

pub mark_shown : (s p : ℕ) (f : Fact) (xs : List (ℕ × ℕ × Fact)) → Has (s, p, f) xs → has_mark s p f xs ≡ true
mark_shown s p f [] h = absurd h
mark_shown s p f (x ∷ xs) (inr h) = or_left (has_mark s p f xs) _ (mark_shown s p f xs h)
mark_shown s p f (x ∷ xs) (inl e) = or_right (has_mark s p f xs) (nat_eq s x.0 && nat_eq p x.1 && same_fact f x.2)
    (and_from (nat_eq s x.0 && nat_eq p x.1) (same_fact f x.2)
    (and_from (nat_eq s x.0) (nat_eq p x.1) (eq-eqb s x.0 (sym (ap (λ (z : ℕ × ℕ × Fact). z.0) e))) (eq-eqb p x.1 (sym (ap (λ (z : ℕ × ℕ × Fact). z.1) e))))
    (subst (λ z. same_fact f z ≡ true) (sym (ap (λ (z : ℕ × ℕ × Fact). z.2) e)) (same_fact-self f)))

pub settled_there : (s p : ℕ) (x : FactSet) (ys : List (ℕ × ℕ × FactSet)) → has_settled s p x ys ≡ true → Has (s, p, x) ys
settled_there s p x [] h = absurd cc
settled_there s p x (y ∷ ys) h = ⊎_elim (λ a. inr (settled_there s p x ys a))
    (λ b. let first = (and_parts (nat_eq s y.0 && nat_eq p y.1) (same_set y.2 x) b).0 in
    inl (λ i. (sym (eqb-true s y.0 (and_parts (nat_eq s y.0) (nat_eq p y.1) first).0) i, sym (eqb-true p y.1 (and_parts (nat_eq s y.0) (nat_eq p y.1) first).1) i, same_set-true y.2 x (and_parts (nat_eq s y.0 && nat_eq p y.1) (same_set y.2 x) b).1 i)))
    (or_cases (has_settled s p x ys) (nat_eq s y.0 && nat_eq p y.1 && same_set y.2 x) h)

pub number_there : (t : ℕ) (us : List ℕ) → has_number t us ≡ true → Has t us
number_there t [] h = absurd cc
number_there t (u ∷ us) h = ⊎_elim (λ a. inr (number_there t us a)) (λ b. inl (sym (eqb-true t u b))) (or_cases (has_number t us) (nat_eq t u) h)

pub number_shown : (t : ℕ) (us : List ℕ) → Has t us → has_number t us ≡ true
number_shown t [] h = absurd h
number_shown t (u ∷ us) (inr h) = or_left (has_number t us) _ (number_shown t us h)
number_shown t (u ∷ us) (inl e) = or_right (has_number t us) (nat_eq t u) (eq-eqb t u (sym e))

pub not_there : (t : ℕ) (us : List ℕ) → has_number t us ≡ false → Has t us → ⊥
not_there t us e h = let x = number_shown t us h in absurd cc

most_step : (p m : ℕ) (x : ℕ × ℕ) (xs : List (ℕ × ℕ)) (b : Bool) → nat_eq p x.0 ≡ b → ((t : ℕ) → (x ≡ (p, t)) → t ≤ m) → seen_at p xs ≤ m → (if b then max x.1 (seen_at p xs) else seen_at p xs) ≤ m
most_step p m x xs true e h r = let y = h x.1 (λ i. (sym (eqb-true p x.0 e) i, x.1)) in omega arith
most_step p m x xs false e h r = r

pub seen_most : (p m : ℕ) (xs : List (ℕ × ℕ)) → ((t : ℕ) → Has (p, t) xs → t ≤ m) → seen_at p xs ≤ m
seen_most p m [] h = omega arith
seen_most p m (x ∷ xs) h = most_step p m x xs (nat_eq p x.0) refl (λ t e. h t (inl e)) (seen_most p m xs (λ t y. h t (inr y)))

last_step : (p : ℕ) (x : ℕ × ℕ) (xs : List (ℕ × ℕ)) (b : Bool) → nat_eq x.0 p ≡ b → ((last_tag p xs ≡ 0) ⊎ Has (p, last_tag p xs) xs) →
    ((if b then x.1 else last_tag p xs) ≡ 0) ⊎ Has (p, (if b then x.1 else last_tag p xs)) (x ∷ xs)
last_step p x xs true e r = inr (inl (λ i. (eqb-true x.0 p e i, x.1)))
last_step p x xs false e r = ⊎_elim (λ z. inl z) (λ h. inr (inr h)) r

pub last_has : (p : ℕ) (xs : List (ℕ × ℕ)) → (last_tag p xs ≡ 0) ⊎ Has (p, last_tag p xs) xs
last_has p [] = inl refl
last_has p (x ∷ xs) = last_step p x xs (nat_eq x.0 p) refl (last_has p xs)

seen_append_step : (p : ℕ) (x : ℕ × ℕ) (xs ys : List (ℕ × ℕ)) (b : Bool) → seen_at p (xs ++ ys) ≡ max (seen_at p ys) (seen_at p xs)
    → (if b then max x.1 (seen_at p (xs ++ ys)) else seen_at p (xs ++ ys)) ≡ max (seen_at p ys) (if b then max x.1 (seen_at p xs) else seen_at p xs)
seen_append_step p x xs ys true r = omega arith
seen_append_step p x xs ys false r = r

seen-append : (p : ℕ) (xs ys : List (ℕ × ℕ)) → seen_at p (xs ++ ys) ≡ max (seen_at p ys) (seen_at p xs)
seen-append p [] ys = omega arith
seen-append p (x ∷ xs) ys = seen_append_step p x xs ys (nat_eq p x.0) (seen-append p xs ys)

-- ---- Fetch
seen_after : (q p t : ℕ) (xs : List (ℕ × ℕ)) (b : Bool) → nat_eq q p ≡ b → seen_at p xs ≤ t → (if b then max t (seen_at q xs) else seen_at q xs) ≡ (if b then t else seen_at q xs)
seen_after q p t xs true e h = let y : seen_at q xs ≡ seen_at p xs = ap (λ k. seen_at k xs) (eqb-true q p e) in omega arith
seen_after q p t xs false e h = refl

pub seen_now : (p t : ℕ) (xs : List (ℕ × ℕ)) → seen_at p xs ≤ t → ◌≡◌ {A = ℕ → ℕ} (λ q. seen_at q ((p, t) ∷ xs)) (λ q. if nat_eq q p then t else seen_at q xs)
seen_now p t xs h = fun_ext (λ q. seen_after q p t xs (nat_eq q p) refl h)

odd_session : (s t : ℕ) → t % 2 ≡ 1 → s ≡ tag_session t → t + 1 ≡ 2 * s
odd_session s t odd e = omega arith

session_odd : (s t : ℕ) → t + 1 ≡ 2 * s → (t % 2 ≡ 1) × (s ≡ tag_session t)
session_odd s t e = (omega arith, omega arith)

lifted_tests : (b : Bool) (s q p t : ℕ) → ((b && nat_eq (t % 2) 1) && (nat_eq s (tag_session t) && nat_eq q p)) ≡ (nat_eq q p && (b && nat_eq (t + 1) (2 * s)))
lifted_tests b s q p t = same_tests _ _
    (λ h. let first = (and_parts (b && nat_eq (t % 2) 1) _ h).0 in let rest = (and_parts (b && nat_eq (t % 2) 1) _ h).1 in
    and_from (nat_eq q p) _ (and_parts (nat_eq s (tag_session t)) _ rest).1
    (and_from b _ (and_parts b _ first).0 (eq-eqb _ _ (odd_session s t (eqb-true _ _ (and_parts b _ first).1) (eqb-true _ _ (and_parts (nat_eq s (tag_session t)) _ rest).0)))))
    (λ h. let at = (and_parts (nat_eq q p) _ h).0 in let r = (and_parts (nat_eq q p) _ h).1 in let x = session_odd s t (eqb-true _ _ (and_parts b _ r).1) in
    and_from (b && nat_eq (t % 2) 1) _ (and_from b _ (and_parts b _ r).0 (eq-eqb _ _ x.0)) (and_from (nat_eq s (tag_session t)) _ (eq-eqb _ _ x.1) at))

pair_add_if : (c : Bool) (s q t p : ℕ) (xs : List (ℕ × ℕ)) → has_pair s q (add_if c (t, p) xs) ≡ (has_pair s q xs || (c && (nat_eq s t && nat_eq q p)))
pair_add_if true s q t p xs = refl
pair_add_if false s q t p xs = sym (or-false (has_pair s q xs))

fetch_pairs : (plan : PlanView) (p : ℕ) (c : Cell) (xs : List (ℕ × ℕ)) → ◌≡◌ {A = ℕ → ℕ → Bool} (λ s q. has_pair s q (add_if (is_lifted plan p c) (tag_session c.tag, p) xs)) (λ s q. has_pair s q xs || (nat_eq q p && is_free_under plan p c s))
fetch_pairs plan p c xs = fun_ext (λ s. fun_ext (λ q. pair_add_if (is_lifted plan p c) s q (tag_session c.tag) p xs
    ∙ ap (λ b. has_pair s q xs || b) (lifted_tests (nat_eq c.half (original_at plan p)) s q p c.tag)))

pub fetch_notes : (plan : PlanView) (p : ℕ) (c : Cell) (v : View) (tally : Tally) → seen_at p v.seen ≤ c.tag
    → notes_in (fetching plan p c v) (record tally { fetches = tally.fetches + 1 }) ≡ after_fetch plan (notes_in v tally) p c
fetch_notes plan p c v tally h = let full = fetch_pairs plan p c v.full in let free = fetch_pairs plan p c v.free in let seen = seen_now p c.tag v.seen h in
    λ i. record (after_fetch plan (notes_in v tally) p c) { full = full i; free = free i; seen = seen i }

-- ---- Mark, Lift, Plant
pub mark_notes : (plan : PlanView) (s p : ℕ) (f : Fact) (found : FactSet) (v : View) (tally : Tally)
    → notes_in (marking plan s p f found v) (record tally { marks = tally.marks + 1 }) ≡ after_mark plan (notes_in v tally) s p f found
mark_notes plan s p f found v tally = let b : Bool = is_full (kind_at plan p) (with_fact found f) in
    let full : (λ t q. has_pair t q (add_if (is_full (kind_at plan p) (with_fact found f)) (s, p) v.full)) ≡ (λ t q. has_pair t q v.full || (nat_eq t s && nat_eq q p && is_full (kind_at plan p) (with_fact found f))) =
    fun_ext (λ t. fun_ext (λ q. pair_add_if b t q s p v.full ∙ ap (λ x. has_pair t q v.full || x) (and_comm b (nat_eq t s && nat_eq q p)))) in
    λ i. record (after_mark plan (notes_in v tally) s p f found) { full = full i }

-- the last tags after one more
last_now : (p t : ℕ) (xs : List (ℕ × ℕ)) → ◌≡◌ {A = ℕ → ℕ} (λ q. last_tag q ((p, t) ∷ xs)) (λ q. if nat_eq q p then t else last_tag q xs)
last_now p t xs = fun_ext (λ q. ap (λ b. if b then t else last_tag q xs) (nat_eq_equiv.symm p q))

pub plant_notes : (s p : ℕ) (v : View) (tally : Tally) → seen_at p v.seen ≤ window_tag s → notes_in (planting s p v) (record tally { plants = tally.plants + 1 }) ≡ after_plant (notes_in v tally) s p
plant_notes s p v tally h = let seen = seen_now p (window_tag s) v.seen h in let last = last_now p (window_tag s) v.planted in λ i. record (after_plant (notes_in v tally) s p) { seen = seen i; last = last i }

pub close_notes : (s p : ℕ) (v : View) (tally : Tally) → seen_at p v.seen ≤ 2 * s → notes_in (closing s p v) (record tally { closes = tally.closes + 1 }) ≡ after_close (notes_in v tally) s p
close_notes s p v tally h = let seen = seen_now p (2 * s) v.seen h in let last = last_now p (2 * s) v.planted in λ i. record (after_close (notes_in v tally) s p) { seen = seen i; last = last i }

-- ---- Boundary, Read
pub bound_notes : (t w : ℕ) (ended : Bool) (v : View) (tally : Tally) → v.role ≡ Task t → w ≡ last_tag t v.numbers → notes_in (bounding t (w + (if ended then 1 else 2)) v) tally ≡ after_boundary (notes_in v tally) ended
bound_notes t w ended v tally bears own = let k : ℕ = if ended then 1 else 2 in
    let number : t ≡ bearer (notes_in v tally) = sym (ap (λ r. unwrap_or (bears_as r) 0) bears) in
    let numbers : (λ u. last_tag u ((t, w + k) ∷ v.numbers)) ≡ (λ u. if nat_eq u (bearer (notes_in v tally)) then last_tag (bearer (notes_in v tally)) v.numbers + k else last_tag u v.numbers) =
    last_now t (w + k) v.numbers ∙ ap (λ n. λ u. if nat_eq u t then n + k else last_tag u v.numbers) own ∙ ap (λ z. λ u. if nat_eq u z then last_tag z v.numbers + k else last_tag u v.numbers) number in
    λ i. record (after_boundary (notes_in v tally) ended) { numbers = numbers i }

settled_add_if : (c : Bool) (t q : ℕ) (x : FactSet) (s p : ℕ) (found : FactSet) (ys : List (ℕ × ℕ × FactSet)) → has_settled t q x (add_if c (s, p, found) ys) ≡ (has_settled t q x ys || (c && (nat_eq t s && nat_eq q p && same_set found x)))
settled_add_if true t q x s p found ys = refl
settled_add_if false t q x s p found ys = sym (or-false (has_settled t q x ys))

settled_now : (c : Bool) (s p : ℕ) (found : FactSet) (ys : List (ℕ × ℕ × FactSet)) →
    ◌≡◌ {A = ℕ → ℕ → FactSet → Bool} (λ t q x. has_settled t q x (add_if c (s, p, found) ys)) (λ t q x. has_settled t q x ys || (c && (nat_eq t s && nat_eq q p && same_set found x)))
settled_now c s p found ys = fun_ext (λ t. fun_ext (λ q. fun_ext (λ x. settled_add_if c t q x s p found ys)))

pub read_notes : (plan : PlanView) (s p : ℕ) (found : FactSet) (v : View) (tally : Tally) → notes_in (reading s p (is_final plan (notes_in v no_tally) s p) found v) tally ≡ after_read plan (notes_in v tally) s p found
read_notes plan s p found v tally = let settled = settled_now (is_final plan (notes_in v no_tally) s p) s p found v.settled in λ i. record (after_read plan (notes_in v tally) s p found) { settled = settled i }

-- ---- Split and Join
out_after : (g j e : Bool) → (e ≡ true → j ≡ false) → ((g || e) && not j) ≡ ((g && not j) || e)
out_after true true true h = let x : true ≡ false = h refl in absurd cc
out_after true true false h = refl
out_after true false true h = refl
out_after true false false h = refl
out_after false true true h = let x : true ≡ false = h refl in absurd cc
out_after false true false h = refl
out_after false false true h = refl
out_after false false false h = refl

pub given_has : (t : ℕ) (given joined : List ℕ) → is_given given joined ≡ true → has_number t joined ≡ true → has_number t given ≡ true
given_has t given [] h j = absurd cc
given_has t given (u ∷ us) h j = ⊎_elim (λ a. given_has t given us (and_parts (has_number u given) _ h).1 a)
    (λ e. subst (λ z. has_number z given ≡ true) (sym (eqb-true t u e)) (and_parts (has_number u given) _ h).0) (or_cases (has_number t us) (nat_eq t u) j)

not_given : (t : ℕ) (given joined : List ℕ) (b : Bool) → has_number t joined ≡ b → is_given given joined ≡ true → has_number t given ≡ false → b ≡ false
not_given t given joined true e h no_t = let x = given_has t given joined h e in absurd cc
not_given t given joined false e h no_t = refl

pub split_root : (t : ℕ) (v : View) (tally : Tally) → is_given v.given v.joined ≡ true → has_number t v.given ≡ false → notes_in (giving t v) tally ≡ after_split (notes_in v tally) t
split_root t v tally h no_t = let out : (λ u. (has_number u v.given || nat_eq u t) && not (has_number u v.joined)) ≡ (λ u. (has_number u v.given && not (has_number u v.joined)) || nat_eq u t) =
    fun_ext (λ u. out_after (has_number u v.given) (has_number u v.joined) (nat_eq u t) (λ e. not_given u v.given v.joined (has_number u v.joined) refl h (ap (λ k. has_number k v.given) (eqb-true u t e) ∙ no_t))) in
    λ i. record (after_split (notes_in v tally) t) { out = out i }

pub more_given : (t : ℕ) (given joined : List ℕ) → is_given given joined ≡ true → is_given (t ∷ given) joined ≡ true
more_given t given [] h = refl
more_given t given (u ∷ us) h = and_from (has_number u (t ∷ given)) _ (or_left (has_number u given) (nat_eq u t) (and_parts (has_number u given) _ h).0) (more_given t given us (and_parts (has_number u given) _ h).1)

-- ---- the last tags that are handed over
handed_by : (f : ℕ → Bool) (p : ℕ) (xs : List (ℕ × ℕ)) (b : Bool) → f p ≡ b → last_tag p (chosen f xs) ≡ (if b then last_tag p xs else 0)
handed_by f p xs true e = kept_tag f p xs e
handed_by f p xs false e = no_tag f p xs e

pub split_pass : (plan : PlanView) (t : ℕ) (v : View) (a : Tally) → notes_in (newcomer plan t v) no_tally ≡ split_notes plan (notes_in v a) t
split_pass plan t v a = let last : (λ p. last_tag p (chosen (is_controller plan t) v.planted)) ≡ (λ p. if is_controller plan t p then last_tag p v.planted else 0) = fun_ext (λ p. handed_by (is_controller plan t) p v.planted (is_controller plan t p) refl) in
    λ i. record (split_notes plan (notes_in v a) t) { last = last i }

taken_by : (f : ℕ → Bool) (p : ℕ) (xs ys : List (ℕ × ℕ)) (b : Bool) → f p ≡ b → last_tag p (chosen f xs ++ chosen (λ q. not (f q)) ys) ≡ (if b then last_tag p xs else last_tag p ys)
taken_by f p xs ys true e = first_tag p (chosen f xs) (chosen (λ q. not (f q)) ys) (no_tag (λ q. not (f q)) p ys (ap not e)) ∙ kept_tag f p xs e
taken_by f p xs ys false e = dropped_tag f p xs (chosen (λ q. not (f q)) ys) e ∙ kept_tag (λ q. not (f q)) p ys (ap not e)

pair-append : (s p : ℕ) (xs ys : List (ℕ × ℕ)) → has_pair s p (xs ++ ys) ≡ (has_pair s p ys || has_pair s p xs)
pair-append s p [] ys = or_comm false (has_pair s p ys)
pair-append s p (x ∷ xs) ys = ap (λ b. b || (nat_eq s x.0 && nat_eq p x.1)) (pair-append s p xs ys) ∙ or_assoc (has_pair s p ys) (has_pair s p xs) (nat_eq s x.0 && nat_eq p x.1)

mark-append : (s p : ℕ) (f : Fact) (xs ys : List (ℕ × ℕ × Fact)) → has_mark s p f (xs ++ ys) ≡ (has_mark s p f ys || has_mark s p f xs)
mark-append s p f [] ys = or_comm false (has_mark s p f ys)
mark-append s p f (x ∷ xs) ys = ap (λ b. b || (nat_eq s x.0 && nat_eq p x.1 && same_fact f x.2)) (mark-append s p f xs ys) ∙ or_assoc (has_mark s p f ys) (has_mark s p f xs) (nat_eq s x.0 && nat_eq p x.1 && same_fact f x.2)

settled-append : (s p : ℕ) (x : FactSet) (ys zs : List (ℕ × ℕ × FactSet)) → has_settled s p x (ys ++ zs) ≡ (has_settled s p x zs || has_settled s p x ys)
settled-append s p x [] zs = or_comm false (has_settled s p x zs)
settled-append s p x (y ∷ ys) zs = ap (λ b. b || (nat_eq s y.0 && nat_eq p y.1 && same_set y.2 x)) (settled-append s p x ys zs) ∙ or_assoc (has_settled s p x zs) (has_settled s p x ys) (nat_eq s y.0 && nat_eq p y.1 && same_set y.2 x)

and_nor : (g j e : Bool) → (g && not (j || e)) ≡ ((g && not j) && not e)
and_nor true true e = refl
and_nor true false e = refl
and_nor false j e = refl

abbrev pub both_tallies : Tally → Tally → Tally
both_tallies a b = record { plants = a.plants + b.plants; fetches = a.fetches + b.fetches; marks = a.marks + b.marks; lifts = a.lifts + b.lifts; closes = a.closes + b.closes }

pub join_notes : (plan : PlanView) (v o : View) (t : ℕ) (a b : Tally) → o.role ≡ Task t → notes_in (joining plan v o) (both_tallies a b) ≡ after_join plan (notes_in v a) (notes_in o b)
join_notes plan v o t a b bears =
    let marked : (λ s p f. has_mark s p f (o.marked ++ v.marked)) ≡ (λ s p f. has_mark s p f v.marked || has_mark s p f o.marked) = fun_ext (λ s. fun_ext (λ p. fun_ext (λ f. mark-append s p f o.marked v.marked))) in
    let full : (λ s p. has_pair s p (o.full ++ v.full)) ≡ (λ s p. has_pair s p v.full || has_pair s p o.full) = fun_ext (λ s. fun_ext (λ p. pair-append s p o.full v.full)) in
    let free : (λ s p. has_pair s p (o.free ++ v.free)) ≡ (λ s p. has_pair s p v.free || has_pair s p o.free) = fun_ext (λ s. fun_ext (λ p. pair-append s p o.free v.free)) in
    let seen : (λ p. seen_at p (o.seen ++ v.seen)) ≡ (λ p. max (seen_at p v.seen) (seen_at p o.seen)) = fun_ext (λ p. seen-append p o.seen v.seen) in
    let number : role_task o.role ≡ bearer (notes_in o b) = ap role_task bears ∙ sym (ap (λ r. unwrap_or (bears_as r) 0) bears) in
    let out : (λ u. has_number u v.given && not (has_number u v.joined || nat_eq u (role_task o.role))) ≡ (λ u. (has_number u v.given && not (has_number u v.joined)) && not (nat_eq u (bearer (notes_in o b)))) =
    fun_ext (λ u. and_nor (has_number u v.given) (has_number u v.joined) (nat_eq u (role_task o.role)) ∙ ap (λ k. (has_number u v.given && not (has_number u v.joined)) && not (nat_eq u k)) number) in
    let last : (λ p. last_tag p (chosen (is_controller plan (role_task o.role)) o.planted ++ chosen (λ q. not (is_controller plan (role_task o.role) q)) v.planted)) ≡ (λ p. if is_controller plan (bearer (notes_in o b)) p then last_tag p o.planted else last_tag p v.planted) =
    fun_ext (λ p. taken_by (is_controller plan (role_task o.role)) p o.planted v.planted (is_controller plan (role_task o.role) p) refl ∙ ap (λ k. if is_controller plan k p then last_tag p o.planted else last_tag p v.planted) number) in
    let numbers : (λ u. last_tag u (chosen (λ q. nat_eq q (role_task o.role)) o.numbers ++ chosen (λ q. not (nat_eq q (role_task o.role))) v.numbers)) ≡ (λ u. if nat_eq u (bearer (notes_in o b)) then last_tag u o.numbers else last_tag u v.numbers) =
    fun_ext (λ u. taken_by (λ q. nat_eq q (role_task o.role)) u o.numbers v.numbers (nat_eq u (role_task o.role)) refl ∙ ap (λ k. if nat_eq u k then last_tag u o.numbers else last_tag u v.numbers) number) in
    let settled : (λ s p x. has_settled s p x (o.settled ++ v.settled)) ≡ (λ s p x. has_settled s p x v.settled || has_settled s p x o.settled) = fun_ext (λ s. fun_ext (λ p. fun_ext (λ x. settled-append s p x o.settled v.settled))) in
    let noted = map-append told_note o.noted v.noted in
    let back : (λ u. beats_of u ((role_task o.role, o.beats) ∷ v.back)) ≡ (λ u. if nat_eq u (bearer (notes_in o b)) then o.beats else beats_of u v.back) = ap (λ k. λ u. if nat_eq u k then o.beats else beats_of u v.back) number in
    λ i. record (after_join plan (notes_in v a) (notes_in o b)) { marked = marked i; full = full i; free = free i; seen = seen i; last = last i; out = out i; numbers = numbers i; noted = noted i; settled = settled i; back = back i }
