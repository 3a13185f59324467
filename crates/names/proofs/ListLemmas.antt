-- What a map finds of names is what a search of the list finds.
use Rattle.std.proofs.Common.{◌≡◌, ℕ, ◌+◌, ◌<◌, ◌≤◌, Bool, true, false, not, ◌&&◌, ◌||◌, cond, nat_lt, Some, None, List, [], ◌∷◌, length, map, get_or, position, is_some, if◌then◌else◌, refl, ap, sym, ◌∙◌, arith, ◌⊎◌, inl, inr}
use Rattle.std.specs.List.{list_any, prefix_len, position_or_len, IsDistinct}
use Rattle.std.specs.Str.{bytes_eq}
use Rattle.std.specs.Cmp.Lexicographic.{nat_list_eq_equiv}
use Rattle.std.proofs.lemmas.Bool.{cases_lt, false_from_ne_true}
use Rattle.std.proofs.lemmas.Bool.Decides.{nat_tests}
use Rattle.std.proofs.lemmas.Slice.Eq.{bytes_eq-Decides}
use Rattle.std.proofs.lemmas.List.{length-map, get_or-map}
use Rattle.std.proofs.lemmas.List.Quantifiers.{position-Some}
use Rattle.std.proofs.lemmas.List.Sums.{position_or_len_is, fails_before_first}
use Rattle.std.proofs.lemmas.Map.Made.{AllPairs-from_IsDistinct}
use Rattle.cov_base.specs.Lists.{Differ}
use Rattle.names.specs.Lists.{index_of, has}

-- either order of the two names

pub index_is : (names : List (List ℕ)) (name : List ℕ) → position (bytes_eq name) names ≡ index_of names name
index_is names name = λ j. position (λ n. nat_list_eq_equiv.symm name n j) names

pub has_is : (names : List (List ℕ)) (name : List ℕ) → list_any (bytes_eq name) names ≡ has names name
has_is names name = λ j. list_any (λ n. nat_list_eq_equiv.symm name n j) names

pub differ_is : (names : List (List ℕ)) → IsDistinct bytes_eq names → Differ names
differ_is names d = AllPairs-from_IsDistinct bytes_eq-Decides names d

-- a test that some element passes has a first

any_before : {X : Type 0} (p : X → Bool) (xs : List X) → list_any p xs ≡ nat_lt (position_or_len p xs) (length xs)
any_before p [] = refl
any_before p (x ∷ xs) = by (any_before p xs) (p x) refl
  where
    by : list_any p xs ≡ nat_lt (position_or_len p xs) (length xs) → (b : Bool) → p x ≡ b → list_any p (x ∷ xs) ≡ nat_lt (position_or_len p (x ∷ xs)) (length (x ∷ xs))
    by rest true e = rw e (grind (arith, nat_tests))
    by rest false e = rw e (rest ∙ grind (arith, nat_tests))

pub index_some : (name : List ℕ) (names : List (List ℕ)) → list_any (bytes_eq name) names ≡ true → index_of names name ≡ Some (position_or_len (bytes_eq name) names)
index_some name names h = sym (index_is names name) ∙ ap (λ b. cond b (Some (position_or_len (bytes_eq name) names)) None) (sym (any_before (bytes_eq name) names) ∙ h)

pub index_none : (name : List ℕ) (names : List (List ℕ)) → list_any (bytes_eq name) names ≡ false → index_of names name ≡ None
index_none name names h = sym (index_is names name) ∙ ap (λ b. cond b (Some (position_or_len (bytes_eq name) names)) None) (sym (any_before (bytes_eq name) names) ∙ h)

found : (b : Bool) (i : ℕ) → is_some (cond b (Some i) None) ≡ b
found true i = refl
found false i = refl

pub any_found : {X : Type 0} (p : X → Bool) (xs : List X) → list_any p xs ≡ is_some (position p xs)
any_found p xs = any_before p xs ∙ sym (found (nat_lt (position_or_len p xs) (length xs)) (position_or_len p xs))

-- the names of a list's elements

prefix_len-map : {X Y : Type 0} (p : Y → Bool) (f : X → Y) (xs : List X) → prefix_len p (map f xs) ≡ prefix_len (λ x. p (f x)) xs
prefix_len-map p f [] = refl
prefix_len-map p f (x ∷ xs) = ap (λ n. cond (p (f x)) (1 + n) 0) (prefix_len-map p f xs)

pub index_of-map : {X : Type 0} (name : X → List ℕ) (xs : List X) (n : List ℕ) → index_of (map name xs) n ≡ position (λ x. bytes_eq (name x) n) xs
index_of-map name xs n = rw (prefix_len-map (λ y. not (bytes_eq y n)) name xs, length-map xs name) refl

pub has-map : {X : Type 0} (name : X → List ℕ) (xs : List X) (n : List ℕ) → has (map name xs) n ≡ list_any (λ x. bytes_eq (name x) n) xs
has-map name [] n = refl
has-map name (x ∷ xs) n = ap (λ b. bytes_eq (name x) n || b) (has-map name xs n)

-- an element that has the name and passes a further test: where names differ the one with the name, if it passes

first_at : {X : Type 0} (p : X → Bool) (xs : List X) (i : ℕ) → position_or_len p xs ≡ i → i < length xs → position p xs ≡ Some i
first_at p xs i e h = let inside : nat_lt i (length xs) ≡ true = grind (arith, nat_tests) in rw (e, inside) refl

no_first : {X : Type 0} (p : X → Bool) (xs : List X) → position_or_len p xs ≡ length xs → position p xs ≡ None
no_first p xs e = let past : nat_lt (length xs) (length xs) ≡ false = grind (arith, nat_tests) in rw (e, past) refl

all_before : {X : Type 0} (p : X → Bool) (xs : List X) → position p xs ≡ None → length xs ≤ position_or_len p xs
all_before p xs e = by (nat_lt (position_or_len p xs) (length xs)) refl e
  where
    by : (b : Bool) → nat_lt (position_or_len p xs) (length xs) ≡ b → cond b (Some (position_or_len p xs)) None ≡ None → length xs ≤ position_or_len p xs
    by true q f = absurd cc
    by false q f = grind (arith, nat_tests)

module _ {X : Type 0} (name : X → List ℕ) (more : X → Bool) (xs : List X) (n : List ℕ) (d : X) where
  abbrev is_named : X → Bool
  is_named x = bytes_eq (name x) n

  abbrev is_it : X → Bool
  is_it x = bytes_eq (name x) n && more x

  other : (x : X) → is_named x ≡ false → is_it x ≡ false
  other x e = rw e refl

  pub none_named : position is_named xs ≡ None → position is_it xs ≡ None
  none_named e =
      let long = all_before is_named xs e in
      no_first is_it xs (position_or_len_is is_it xs (length xs) d (omega arith) (λ k l. other (get_or xs k d) (fails_before_first is_named xs k d (omega (arith, l, long)))) (λ h. absurd (omega (arith, h))))

  pub one_named : (i : ℕ) → Differ (map name xs) → position is_named xs ≡ Some i → position is_it xs ≡ (if more (get_or xs i d) then Some i else None)
  one_named i differ e = by (more (get_or xs i d)) refl
    where
      here : (i < length xs) × (is_named (get_or xs i d) ≡ true) × ((k : ℕ) → k < i → is_named (get_or xs k d) ≡ false)
      here = position-Some is_named xs i d e

      apart : (k : ℕ) → i < k → k < length xs → is_named (get_or xs k d) ≡ false
      apart k h l = false_from_ne_true _ (λ t. let same = (bytes_eq-Decides (name (get_or xs k d)) n).0 t in
          differ i k (name d) h (omega (arith, length-map xs name, l))
          (get_or-map name xs i d (name d) here.0 ∙ ((bytes_eq-Decides (name (get_or xs i d)) n).0 here.1 ∙ (sym same ∙ sym (get_or-map name xs k d (name d) l)))))

      by : (b : Bool) → more (get_or xs i d) ≡ b → position is_it xs ≡ (if b then Some i else None)
      by true q = first_at is_it xs i (position_or_len_is is_it xs i d (omega (arith, here.0)) (λ k l. other (get_or xs k d) (here.2 k l)) (λ h. rw (here.1, q) refl)) here.0
      by false q = no_first is_it xs (position_or_len_is is_it xs (length xs) d (omega arith) (λ k l. each k (cases_lt k i) l) (λ h. absurd (omega (arith, h))))
        where
          each : (k : ℕ) → (k < i) ⊎ (i ≤ k) → k < length xs → is_it (get_or xs k d) ≡ false
          each k c l = elim c [
            | inl h ↦ other (get_or xs k d) (here.2 k h)
            | inr h ↦ elim (cases_lt i k) [
              | inl m ↦ other (get_or xs k d) (apart k m l)
              | inr m ↦ (let same : k ≡ i = omega (arith, h, m) in rw (same, here.1) q)
            ]
          ]
