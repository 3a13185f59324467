-- The views of all passes, and what they have added.
use Rattle.std.proofs.Common.{◌≡◌, ◌≢◌, ℕ, zero, suc, ◌+◌, ◌*◌, ◌^◌, ◌<◌, ◌≤◌, nat_eq, List, [], ◌∷◌, ◌++◌, length, sym, refl, ap, arith}
use mathlib.Core.Option.{some, some-injective, some-ne-none}
use lib.ListN.{get_elem?}
use Rattle.std.proofs.lemmas.Bool.{cond_both}
use Rattle.module_area.specs.Rule.{total}
use Rattle.count_session.specs.declared.rule.CountView.{CountView}
use Rattle.count_session.specs.Rule.{times}

module _ {V : Type 0} where
  pub total_end : (f : V → ℕ) (l : List V) (o : V) → total f (l ++ o ∷ []) ≡ total f l + f o
  total_end f [] o = omega arith
  total_end f (x ∷ xs) o = let r = total_end f xs o in omega arith

  pub at_below : (l : List V) (j : ℕ) (u : V) → get_elem? l j ≡ some u → j < length l
  at_below [] j u e = absurd (some-ne-none u (sym e))
  at_below (x ∷ xs) zero u e = omega arith
  at_below (x ∷ xs) (suc j) u e = let r = at_below xs j u e in omega arith

  one_of_all : (f : V → ℕ) (l : List V) (j : ℕ) (u : V) → get_elem? l j ≡ some u → f u ≤ total f l
  one_of_all f [] j u e = absurd (some-ne-none u (sym e))
  one_of_all f (x ∷ xs) zero u e = let is : f x ≡ f u = ap f (some-injective x u e) in omega arith
  one_of_all f (x ∷ xs) (suc j) u e = let r = one_of_all f xs j u e in omega arith

  -- where one has the whole sum, each other has nothing
  pub rest_zero : (f : V → ℕ) (l : List V) (i : ℕ) (v : V) → get_elem? l i ≡ some v → total f l ≡ f v → (j : ℕ) (u : V) → j ≢ i → get_elem? l j ≡ some u → f u ≡ 0
  rest_zero f [] i v at e j u n there = absurd (some-ne-none v (sym at))
  rest_zero f (x ∷ xs) zero v at e zero u n there = absurd (n refl)
  rest_zero f (x ∷ xs) zero v at e (suc j) u n there = let is : f x ≡ f v = ap f (some-injective x v at) in let most = one_of_all f xs j u there in omega arith
  rest_zero f (x ∷ xs) (suc i) v at e zero u n there = let is : f x ≡ f u = ap f (some-injective x u there) in let most = one_of_all f xs i v at in omega arith
  rest_zero f (x ∷ xs) (suc i) v at e (suc j) u n there = let most = one_of_all f xs i v at in rest_zero f xs i v at (omega arith) j u (λ z. n (omega arith)) there

pub times_most : (i : ℕ) (xs : List ℕ) → times i xs ≤ length xs
times_most i [] = omega arith
times_most i (x ∷ xs) = cond_both (nat_eq i x) 1 0 (λ n. n + times i xs ≤ length (x ∷ xs)) (λ e. let r = times_most i xs in omega arith) (λ e. let r = times_most i xs in omega arith)

pub times-append : (i : ℕ) (xs ys : List ℕ) → times i (xs ++ ys) ≡ times i xs + times i ys
times-append i [] ys = omega arith
times-append i (x ∷ xs) ys = let r = times-append i xs ys in omega arith

-- the adds at one word are no more than all passes may make
pub sum_most : (i : ℕ) (views : List CountView) → ((j : ℕ) (v : CountView) → get_elem? views j ≡ some v → length v.added ≤ v.passes * 2 ^ 40) → total (λ (v : CountView). times i v.added) views ≤ total (λ (v : CountView). v.passes) views * 2 ^ 40
sum_most i [] few = omega arith
sum_most i (v ∷ vs) few = let r = sum_most i vs (λ j u at. few (suc j) u at) in let a = few 0 v refl in let b = times_most i v.added in omega arith
