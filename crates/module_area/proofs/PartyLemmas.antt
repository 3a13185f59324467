-- Lists of notes, and all parties after one of them has changed.
use Rattle.std.proofs.Common.{◌≡◌, ◌≢◌, ◌⊎◌, ℕ, zero, suc, ◌+◌, Bool, true, false, nat_eq, if◌then◌else◌, List, [], ◌∷◌, ◌++◌, length, set, sym, refl, ap, ◌∙◌, subst, inl, inr, ⊎_elim, arith, eqb-true}
use mathlib.Core.Option.{some, some-injective, some-ne-none}
use mathlib.Core.Logic.{dite}
use native.Mathlib.Decide.{ℕ_discrete}
use lib.ListN.{get_elem?}
use Rattle.module_area.specs.Rule.{Has, add_if, times, total, last_tag}
use Rattle.module_area.specs.Parties.{chosen}

module _ {X : Type 0} where
  pub has-add_if : (b : Bool) (x y : X) (ys : List X) → Has x (add_if b y ys) → ((b ≡ true) × (y ≡ x)) ⊎ Has x ys
  has-add_if true x y ys (inl e) = inl (refl, e)
  has-add_if true x y ys (inr h) = inr h
  has-add_if false x y ys h = inr h

  pub more-add_if : (b : Bool) (x y : X) (ys : List X) → Has x ys → Has x (add_if b y ys)
  more-add_if true x y ys h = inr h
  more-add_if false x y ys h = h

  pub here-add_if : (b : Bool) (x : X) (ys : List X) → b ≡ true → Has x (add_if b x ys)
  here-add_if b x ys e = subst (λ c. Has x (add_if c x ys)) (sym e) (inl refl)

  pub has-append : (x : X) (xs ys : List X) → Has x (xs ++ ys) → Has x xs ⊎ Has x ys
  has-append x [] ys h = inr h
  has-append x (z ∷ zs) ys (inl e) = inl (inl e)
  has-append x (z ∷ zs) ys (inr h) = ⊎_elim (λ a. inl (inr a)) (λ b. inr b) (has-append x zs ys h)

  pub left-append : (x : X) (xs ys : List X) → Has x xs → Has x (xs ++ ys)
  left-append x (z ∷ zs) ys (inl e) = inl e
  left-append x (z ∷ zs) ys (inr h) = inr (left-append x zs ys h)
  left-append x [] ys h = absurd h

  pub right-append : (x : X) (xs ys : List X) → Has x ys → Has x (xs ++ ys)
  right-append x [] ys h = h
  right-append x (z ∷ zs) ys h = inr (right-append x zs ys h)

module _ {V : Type 0} where
  pub at_set : (l : List V) (i j : ℕ) (a b : V) → get_elem? (set l i a) j ≡ some b → ((j ≡ i) × (a ≡ b)) ⊎ ((j ≢ i) × (get_elem? l j ≡ some b))
  at_set [] i j a b e = absurd (some-ne-none b (sym e))
  at_set (x ∷ xs) zero zero a b e = inl (refl, some-injective a b e)
  at_set (x ∷ xs) zero (suc j) a b e = inr ((λ h. omega arith), e)
  at_set (x ∷ xs) (suc i) zero a b e = inr ((λ h. omega arith), e)
  at_set (x ∷ xs) (suc i) (suc j) a b e = ⊎_elim (λ t. inl (ap suc t.0, t.1)) (λ t. let n = t.0 in inr ((λ h. n (omega arith)), t.1)) (at_set xs i j a b e)

  pub set_else : (l : List V) (i j : ℕ) (a : V) → j ≢ i → get_elem? (set l i a) j ≡ get_elem? l j
  set_else [] i j a n = refl
  set_else (x ∷ xs) zero zero a n = absurd (n refl)
  set_else (x ∷ xs) zero (suc j) a n = refl
  set_else (x ∷ xs) (suc i) zero a n = refl
  set_else (x ∷ xs) (suc i) (suc j) a n = set_else xs i j a (λ e. n (ap suc e))

  pub at_longer : (l m : List V) (i : ℕ) (a : V) → get_elem? l i ≡ some a → get_elem? (l ++ m) i ≡ some a
  at_longer [] m i a e = absurd (some-ne-none a (sym e))
  at_longer (x ∷ xs) m zero a e = e
  at_longer (x ∷ xs) m (suc i) a e = at_longer xs m i a e

  abbrev pub AllOf : (ℕ → V → Type 0) → List V → Type 0
  AllOf F views = (j : ℕ) (v : V) → get_elem? views j ≡ some v → F j v

  abbrev pub SomeOf : (V → Type 0) → List V → Type 0
  SomeOf G views = (j : ℕ) × (v : V) × (get_elem? views j ≡ some v) × G v

  pub at_put : (l : List V) (i : ℕ) (v w : V) → get_elem? l i ≡ some v → get_elem? (set l i w) i ≡ some w
  at_put [] i v w e = absurd (some-ne-none v (sym e))
  at_put (x ∷ xs) zero v w e = refl
  at_put (x ∷ xs) (suc i) v w e = at_put xs i v w e

  pub all_set : (F : ℕ → V → Type 0) (views : List V) (id : ℕ) (w : V) → F id w → ((j : ℕ) (u : V) → j ≢ id → get_elem? views j ≡ some u → F j u) → AllOf F (set views id w)
  all_set F views id w mine others j u e = ⊎_elim (λ (x : (j ≡ id) × (w ≡ u)). subst (λ (y : ℕ × V). F y.0 y.1) (λ i. (sym x.0 i, x.1 i)) mine)
      (λ (x : (j ≢ id) × (get_elem? views j ≡ some u)). others j u x.0 x.1) (at_set views id j w u e)

  pub some_set : (G : V → Type 0) (views : List V) (id : ℕ) (v w : V) → get_elem? views id ≡ some v → (G v → G w) → SomeOf G views → SomeOf G (set views id w)
  some_set G views id v w at more x = dite (ℕ_discrete x.0 id)
      (λ e. (id, w, at_put views id v w at, more (subst G (some-injective x.1 v (sym x.2 ∙ (ap (get_elem? views) e ∙ at))) x.3)))
      (λ n. (x.0, x.1, set_else views id x.0 w n ∙ x.2, x.3))

  pub at_end : (l : List V) (a b : V) (j : ℕ) → get_elem? (l ++ a ∷ []) j ≡ some b → (get_elem? l j ≡ some b) ⊎ ((j ≡ length l) × (a ≡ b))
  at_end [] a b zero e = inr (refl, some-injective a b e)
  at_end [] a b (suc j) e = absurd (some-ne-none b (sym e))
  at_end (x ∷ xs) a b zero e = inl e
  at_end (x ∷ xs) a b (suc j) e = ⊎_elim (λ h. inl h) (λ h. inr (ap suc h.0, h.1)) (at_end xs a b j e)

  pub all_snoc : (F : ℕ → V → Type 0) (views : List V) (o : V) → AllOf F views → F (length views) o → AllOf F (views ++ o ∷ [])
  all_snoc F views o old new j u e = ⊎_elim (λ h. old j u h) (λ h. subst (λ (z : ℕ × V). F z.0 z.1) (λ i. (sym h.0 i, h.1 i)) new) (at_end views o u j e)

  pub some_snoc : (G : V → Type 0) (views : List V) (o : V) → SomeOf G views → SomeOf G (views ++ o ∷ [])
  some_snoc G views o x = (x.0, x.1, at_longer views (o ∷ []) x.0 x.1 x.2, x.3)

  pub at_two : (l : List V) (i k : ℕ) (a b u : V) (j : ℕ) → get_elem? (set (set l i a) k b) j ≡ some u → ((j ≡ k) × (b ≡ u)) ⊎ (((j ≡ i) × (a ≡ u)) ⊎ ((j ≢ k) × (j ≢ i) × (get_elem? l j ≡ some u)))
  at_two l i k a b u j e = ⊎_elim (λ x. inl x) (λ x. inr (⊎_elim (λ y. inl y) (λ y. inr (x.0, y.0, y.1)) (at_set l i j a u x.1))) (at_set (set l i a) k j b u e)

  pub all_two : (F : ℕ → V → Type 0) (l : List V) (i k : ℕ) (a b : V) → F i a → F k b → ((j : ℕ) (u : V) → j ≢ k → j ≢ i → get_elem? l j ≡ some u → F j u) → AllOf F (set (set l i a) k b)
  all_two F l i k a b fa fb rest j u e = ⊎_elim (λ (x : (j ≡ k) × (b ≡ u)). subst (λ (z : ℕ × V). F z.0 z.1) (λ c. (sym x.0 c, x.1 c)) fb)
      (λ y. ⊎_elim (λ (x : (j ≡ i) × (a ≡ u)). subst (λ (z : ℕ × V). F z.0 z.1) (λ c. (sym x.0 c, x.1 c)) fa) (λ x. rest j u x.0 x.1 x.2) y)
      (at_two l i k a b u j e)

  pub some_two : (G : V → Type 0) (l : List V) (i k : ℕ) (v o a b : V) → get_elem? l i ≡ some v → get_elem? l k ≡ some o → k ≢ i → (G v → G a) → (G o → G a) → SomeOf G l → SomeOf G (set (set l i a) k b)
  some_two G l i k v o a b at there other more moved x = let now : get_elem? (set (set l i a) k b) i ≡ some a = set_else (set l i a) k i b (λ e. other (sym e)) ∙ at_put l i v a at in
      dite (ℕ_discrete x.0 k)
      (λ e. (i, a, now, moved (subst G (some-injective x.1 o (sym x.2 ∙ (ap (get_elem? l) e ∙ there))) x.3)))
      (λ n. dite (ℕ_discrete x.0 i)
      (λ e. (i, a, now, more (subst G (some-injective x.1 v (sym x.2 ∙ (ap (get_elem? l) e ∙ at))) x.3)))
      (λ m. (x.0, x.1, set_else (set l i a) k x.0 b n ∙ (set_else l i x.0 a m ∙ x.2), x.3)))

  pub total-set : (f : V → ℕ) (l : List V) (i : ℕ) (v w : V) → get_elem? l i ≡ some v → total f (set l i w) + f v ≡ total f l + f w
  total-set f [] i v w e = absurd (some-ne-none v (sym e))
  total-set f (x ∷ xs) zero v w e = let is : f x ≡ f v = ap f (some-injective x v e) in omega arith
  total-set f (x ∷ xs) (suc i) v w e = let r = total-set f xs i v w e in omega arith

  pub total-snoc : (f : V → ℕ) (l : List V) (o : V) → f o ≡ 0 → total f (l ++ o ∷ []) ≡ total f l
  total-snoc f [] o e = omega arith
  total-snoc f (x ∷ xs) o e = ap (λ n. f x + n) (total-snoc f xs o e)

  pub total_two : (f : V → ℕ) (l : List V) (i k : ℕ) (v o a b : V) (n : ℕ) → get_elem? l i ≡ some v → get_elem? l k ≡ some o → k ≢ i → total f l ≡ n → f a ≡ f o + f v → f b ≡ 0 → total f (set (set l i a) k b) ≡ n
  total_two f l i k v o a b n at there other e sum zeroes = let p = total-set f l i v a at in let q = total-set f (set l i a) k o b (set_else l i k a other ∙ there) in omega arith

  -- all of the sum is one pass's
  pub total_only : (f : V → ℕ) (l : List V) (i : ℕ) (v : V) → get_elem? l i ≡ some v → ((j : ℕ) (u : V) → j ≢ i → get_elem? l j ≡ some u → f u ≡ 0) → total f l ≡ f v
  total_only f [] i v e h = absurd (some-ne-none v (sym e))
  total_only f (x ∷ xs) zero v e h = let is : f x ≡ f v = ap f (some-injective x v e) in let rest : total f xs ≡ 0 = total_none f xs (λ j u at. h (suc j) u (λ z. absurd (omega arith)) at) in omega arith
    where
      total_none : (f : V → ℕ) (l : List V) → ((j : ℕ) (u : V) → get_elem? l j ≡ some u → f u ≡ 0) → total f l ≡ 0
      total_none f [] h = refl
      total_none f (y ∷ ys) h = let a = h 0 y refl in let b = total_none f ys (λ j u at. h (suc j) u at) in omega arith
  total_only f (x ∷ xs) (suc i) v e h = let first : f x ≡ 0 = h 0 x (λ z. absurd (omega arith)) refl in let rest = total_only f xs i v e (λ j u n at. h (suc j) u (λ z. n (omega arith)) at) in omega arith

pub times-append : (s p : ℕ) (xs ys : List (ℕ × ℕ)) → times s p (xs ++ ys) ≡ times s p xs + times s p ys
times-append s p [] ys = omega arith
times-append s p (x ∷ xs) ys = let r = times-append s p xs ys in omega arith

-- what was chosen stood there
pub has-chosen : (f : ℕ → Bool) (p t : ℕ) (xs : List (ℕ × ℕ)) → Has (p, t) (chosen f xs) → Has (p, t) xs
has-chosen f p t [] h = absurd h
has-chosen f p t (x ∷ xs) h = ⊎_elim (λ (e : (f x.0 ≡ true) × (x ≡ (p, t))). inl e.1) (λ old. inr (has-chosen f p t xs old)) (has-add_if (f x.0) (p, t) x (chosen f xs) h)

-- the test chooses the place
kept_step : (f : ℕ → Bool) (p : ℕ) (x : ℕ × ℕ) (xs : List (ℕ × ℕ)) (b c : Bool) → f x.0 ≡ b → nat_eq x.0 p ≡ c → f p ≡ true → last_tag p (chosen f xs) ≡ last_tag p xs
    → last_tag p (add_if b x (chosen f xs)) ≡ (if c then x.1 else last_tag p xs)
kept_step f p x xs true c fx same fp ih = ap (λ z. if z then x.1 else last_tag p (chosen f xs)) same ∙ ap (λ n. if c then x.1 else n) ih
kept_step f p x xs false true fx same fp ih = let e : f x.0 ≡ f p = ap f (eqb-true x.0 p same) in absurd cc
kept_step f p x xs false false fx same fp ih = ih

pub kept_tag : (f : ℕ → Bool) (p : ℕ) (xs : List (ℕ × ℕ)) → f p ≡ true → last_tag p (chosen f xs) ≡ last_tag p xs
kept_tag f p [] fp = refl
kept_tag f p (x ∷ xs) fp = kept_step f p x xs (f x.0) (nat_eq x.0 p) refl refl fp (kept_tag f p xs fp)

-- it does not
dropped_step : (f : ℕ → Bool) (p : ℕ) (x : ℕ × ℕ) (xs ys : List (ℕ × ℕ)) (b c : Bool) → f x.0 ≡ b → nat_eq x.0 p ≡ c → f p ≡ false → last_tag p (chosen f xs ++ ys) ≡ last_tag p ys
    → last_tag p (add_if b x (chosen f xs) ++ ys) ≡ last_tag p ys
dropped_step f p x xs ys false c fx same fp ih = ih
dropped_step f p x xs ys true true fx same fp ih = let e : f x.0 ≡ f p = ap f (eqb-true x.0 p same) in absurd cc
dropped_step f p x xs ys true false fx same fp ih = ap (λ z. if z then x.1 else last_tag p (chosen f xs ++ ys)) same ∙ ih

pub dropped_tag : (f : ℕ → Bool) (p : ℕ) (xs ys : List (ℕ × ℕ)) → f p ≡ false → last_tag p (chosen f xs ++ ys) ≡ last_tag p ys
dropped_tag f p [] ys fp = refl
dropped_tag f p (x ∷ xs) ys fp = dropped_step f p x xs ys (f x.0) (nat_eq x.0 p) refl refl fp (dropped_tag f p xs ys fp)

no_tag_step : (f : ℕ → Bool) (p : ℕ) (x : ℕ × ℕ) (xs : List (ℕ × ℕ)) (b c : Bool) → f x.0 ≡ b → nat_eq x.0 p ≡ c → f p ≡ false → last_tag p (chosen f xs) ≡ 0 → last_tag p (add_if b x (chosen f xs)) ≡ 0
no_tag_step f p x xs false c fx same fp ih = ih
no_tag_step f p x xs true true fx same fp ih = let e : f x.0 ≡ f p = ap f (eqb-true x.0 p same) in absurd cc
no_tag_step f p x xs true false fx same fp ih = ap (λ z. if z then x.1 else last_tag p (chosen f xs)) same ∙ ih

pub no_tag : (f : ℕ → Bool) (p : ℕ) (xs : List (ℕ × ℕ)) → f p ≡ false → last_tag p (chosen f xs) ≡ 0
no_tag f p [] fp = refl
no_tag f p (x ∷ xs) fp = no_tag_step f p x xs (f x.0) (nat_eq x.0 p) refl refl fp (no_tag f p xs fp)

-- nothing later was planted there
pub first_tag : (p : ℕ) (xs ys : List (ℕ × ℕ)) → last_tag p ys ≡ 0 → last_tag p (xs ++ ys) ≡ last_tag p xs
first_tag p [] ys e = e
first_tag p (x ∷ xs) ys e = ap (λ n. if nat_eq x.0 p then x.1 else n) (first_tag p xs ys e)
