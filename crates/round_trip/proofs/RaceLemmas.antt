-- A race in which one party alone gives tags: what each fetch answers is read from that party's beats before it.
use Rattle.std.proofs.Common.{◌≡◌, ◌≢◌, ◌⊎◌, ℕ, Bool, true, false, not, ◌&&◌, ◌||◌, nat_eq, if◌then◌else◌, List, [], ◌∷◌, sym, refl, ap, ◌∙◌, subst, inl, inr, ⊎_elim, eq-eqb, ne_eqb}
use Rattle.std.proofs.lemmas.Bool.{and_parts}
use mathlib.Core.Logic.{dite}
use native.Mathlib.Decide.{ℕ_discrete}
use Rattle.module_area.specs.declared.parties.Beat.{Beat}
use Rattle.module_area.specs.declared.parties.Beat.TheVariants.{Met, Gave}
use Rattle.module_area.specs.Meaning.{Race, tag_next, tag_in, Finds, IsRace, part}

-- the tag that these beats gave the place last
abbrev pub last_in : ℕ → List Beat → ℕ
last_in q [] = 0
last_in q (x ∷ xs) = tag_next q (last_in q xs) x

-- no party but k gives tags
abbrev pub OnlyGiver : ℕ → Race → Type 0
OnlyGiver k [] = Unit {0}
OnlyGiver k (e ∷ r) = OnlyGiver k r × (e.0 ≢ k → (p tag : ℕ) → tag_next p tag e.1 ≡ tag)

given_by : (k q : ℕ) (r : Race) → OnlyGiver k r → tag_in q r ≡ last_in q (part k r)
given_by k q [] o = refl
given_by k q (e ∷ r) o = dite (ℕ_discrete e.0 k)
    (λ h. ap (λ t. tag_next q t e.1) (given_by k q r o.0) ∙ sym (ap (λ b. last_in q (if b then e.1 ∷ part k r else part k r)) (eq-eqb e.0 k h)))
    (λ n. o.1 n q (tag_in q r) ∙ (given_by k q r o.0 ∙ sym (ap (λ b. last_in q (if b then e.1 ∷ part k r else part k r)) (ne_eqb e.0 k n))))

-- the beats up to some moment
abbrev pub IsTail : List Beat → List Beat → Type 0
IsTail xs [] = xs ≡ []
IsTail xs (y ∷ ys) = (xs ≡ y ∷ ys) ⊎ IsTail xs ys

tail_self : (xs : List Beat) → IsTail xs xs
tail_self [] = refl
tail_self (x ∷ xs) = inl refl

tail_more : (k : ℕ) (xs : List Beat) (e : ℕ × Beat) (r : Race) (b : Bool) → IsTail xs (part k r) → IsTail xs (if b then e.1 ∷ part k r else part k r)
tail_more k xs e r true t = inr t
tail_more k xs e r false t = t

-- the race before the last fetch of party j, which gives no tags
pub record Before (k j q x : ℕ) (rest : List Beat) (r : Race) : Type 0 where
  pub race : Race
  pub is_race : IsRace race
  pub giver : OnlyGiver k race
  pub own : part j race ≡ rest
  pub found : x ≡ tag_in q race
  pub others : IsTail (part k race) (part k r)

heads : (x y : Beat) (xs ys : List Beat) → x ∷ xs ≡ y ∷ ys → (x ≡ y) × (xs ≡ ys)
heads x y xs ys e = (cc, cc)

before : (k j q x : ℕ) (rest : List Beat) (r : Race) → IsRace r → OnlyGiver k r → part j r ≡ Met q x ∷ rest → Before k j q x rest r
before k j q x rest [] is o own = absurd cc
before k j q x rest (e ∷ r) is o own = by_test (nat_eq e.0 j) refl (λ own_r. before k j q x rest r is.0 o.0 own_r)
  where
    by_test : (b : Bool) → nat_eq e.0 j ≡ b → (part j r ≡ Met q x ∷ rest → Before k j q x rest r) → Before k j q x rest (e ∷ r)
    by_test true h more =
        let here : e.1 ∷ part j r ≡ Met q x ∷ rest = sym (ap (λ b. if b then e.1 ∷ part j r else part j r) h) ∙ own in
        let parts = heads e.1 (Met q x) (part j r) rest here in record {
          race = r;
          is_race = is.0;
          giver = o.0;
          own = parts.1;
          found = subst (Finds r) parts.0 is.1;
          others = tail_more k (part k r) e r (nat_eq e.0 k) (tail_self (part k r));
        }
    by_test false h more =
        let m = more (sym (ap (λ b. if b then e.1 ∷ part j r else part j r) h) ∙ own) in record {
          race = m.race;
          is_race = m.is_race;
          giver = m.giver;
          own = m.own;
          found = m.found;
          others = tail_more k (part k m.race) e r (nat_eq e.0 k) m.others;
        }

abbrev pub all_tails : (List Beat → Bool) → List Beat → Bool
all_tails f [] = f []
all_tails f (y ∷ ys) = f (y ∷ ys) && all_tails f ys

at_tail : (f : List Beat → Bool) (xs ys : List Beat) → all_tails f ys ≡ true → IsTail xs ys → f xs ≡ true
at_tail f xs [] h t = ap f t ∙ h
at_tail f xs (y ∷ ys) h t = let both = and_parts (f (y ∷ ys)) (all_tails f ys) h in ⊎_elim (λ e. ap f e ∙ both.0) (λ u. at_tail f xs ys both.1 u) t

tail_of_tail : (xs ys zs : List Beat) → IsTail xs ys → IsTail ys zs → IsTail xs zs
tail_of_tail xs ys [] t u = subst (IsTail xs) u t
tail_of_tail xs ys (z ∷ zs) t u = ⊎_elim (λ e. subst (IsTail xs) e t) (λ v. inr (tail_of_tail xs ys zs t v)) u

-- what opening session 1, closing it, opening session 2 and closing it gives at three places, the last first
abbrev pub two_sessions : List Beat
two_sessions = Gave 2 4 ∷ Gave 1 4 ∷ Gave 0 4 ∷ Gave 2 3 ∷ Gave 1 3 ∷ Gave 0 3 ∷ Gave 2 2 ∷ Gave 1 2 ∷ Gave 0 2 ∷ Gave 2 1 ∷ Gave 1 1 ∷ Gave 0 1 ∷ []

-- where place 1 has tag 1, place 0 had no tag 3 before
abbrev pub fits : List Beat → Bool
fits xs = not (nat_eq (last_in 1 xs) 1) || all_tails (λ ys. not (nat_eq (last_in 0 ys) 3)) xs

all_fit : all_tails fits two_sessions ≡ true
all_fit = refl

or_right_is : (a b : Bool) → (not a || b) ≡ true → a ≡ true → b ≡ true
or_right_is true b h e = h
or_right_is false b h e = absurd (let z : false ≡ true = e in cc)

-- no race has a fetch of place 0 that answers tag 3, and behind it one of place 1, by the same party, that answers tag 1
pub no_race : (q x : ℕ) (r : Race) → IsRace r → OnlyGiver 1 r → part 1 r ≡ two_sessions → part 2 r ≡ Met q x ∷ Met 1 1 ∷ Met 0 3 ∷ [] → ⊥
no_race q x r is o by_one by_two =
    let br = before 1 2 q x (Met 1 1 ∷ Met 0 3 ∷ []) r is o by_two in
    let ar = before 1 2 1 1 (Met 0 3 ∷ []) br.race br.is_race br.giver br.own in
    let la = before 1 2 0 3 [] ar.race ar.is_race ar.giver ar.own in
    let tag_ar : last_in 1 (part 1 ar.race) ≡ 1 = sym (given_by 1 1 ar.race ar.giver) ∙ sym ar.found in
    let tag_la : last_in 0 (part 1 la.race) ≡ 3 = sym (given_by 1 0 la.race la.giver) ∙ sym la.found in
    let tails = tail_of_tail (part 1 ar.race) (part 1 br.race) (part 1 r) ar.others br.others in
    let fit = at_tail fits (part 1 ar.race) two_sessions all_fit (subst (IsTail (part 1 ar.race)) by_one tails) in
    let inner = or_right_is (nat_eq (last_in 1 (part 1 ar.race)) 1) _ fit (eq-eqb _ 1 tag_ar) in
    let none = at_tail (λ ys. not (nat_eq (last_in 0 ys) 3)) (part 1 la.race) (part 1 ar.race) inner la.others in
    let z : false ≡ true = sym (ap not (eq-eqb _ 3 tag_la)) ∙ none in absurd cc

-- these beats give no tags
abbrev pub NoGives : List Beat → Type 0
NoGives [] = Unit {0}
NoGives (x ∷ xs) = ((p tag : ℕ) → tag_next p tag x ≡ tag) × NoGives xs

pub only : (k : ℕ) (r : Race) → ((j : ℕ) → j ≢ k → NoGives (part j r)) → OnlyGiver k r
only k [] n = tt
only k (e ∷ r) n = (
  only k r (λ j d. rest j (nat_eq e.0 j) (n j d)),
  λ d. (subst NoGives (ap (λ b. if b then e.1 ∷ part e.0 r else part e.0 r) (eq-eqb e.0 e.0 refl)) (n e.0 d)).0,
)
  where
    rest : (j : ℕ) (b : Bool) → NoGives (if b then e.1 ∷ part j r else part j r) → NoGives (part j r)
    rest j true h = h.1
    rest j false h = h
