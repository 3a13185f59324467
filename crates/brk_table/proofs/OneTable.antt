-- The places of a listing's table are determined.
use Rattle.std.proofs.Common.{◌≡◌, ℕ, ◌<◌, zero, suc, Option, Some, None, List, [], ◌∷◌, length, get_or, AllPairs, refl, sym, ap, ◌∙◌, subst, arith}
use Rattle.std.proofs.lemmas.List.{get_or_default}
use Rattle.module_area.specs.Meaning.{no_place, place_of}
use Rattle.module_area.specs.declared.places.Place.{Place}
use Rattle.listing_reader.specs.declared.lines.Line.{Line}
use Rattle.listing_reader.specs.declared.lines.Line.TheVariants.{Text}
use Rattle.listing_reader.specs.declared.lines.Line.TheVariants as says
use Rattle.brk_table.specs.Meaning.{TableView, IsEntry, IsTable}

abbrev Rising : List Place → Type 0
Rising ps = AllPairs (λ p q. p.at < q.at) ps

-- the place is one of these
record IsOneOf (ps : List Place) (p : Place) : Type 0 where
  k : ℕ
  below : k < length ps
  is : place_of ps k ≡ p

abbrev AreOf : List Place → List Place → Type 0
AreOf ps qs = (k : ℕ) → k < length ps → IsOneOf qs (place_of ps k)

behind : (p : Place) (ps : List Place) → Rising (p ∷ ps) → (k : ℕ) → k < length ps → p.at < (place_of ps k).at
behind p ps r k h = r 0 (suc k) no_place (omega arith) (omega (arith, h))

later : (p : Place) (ps : List Place) → Rising (p ∷ ps) → Rising ps
later p ps r i j d h l = r (suc i) (suc j) d (omega (arith, h)) (omega (arith, l))

-- the first of each is the other's first
same_first : (p q : Place) (ps qs : List Place) → Rising (p ∷ ps) → Rising (q ∷ qs) → (k j : ℕ) → k < length (q ∷ qs) → j < length (p ∷ ps) → place_of (q ∷ qs) k ≡ p → place_of (p ∷ ps) j ≡ q → p ≡ q
same_first p q ps qs r s zero j h l e f = sym e
same_first p q ps qs r s (suc k) zero h l e f = f
same_first p q ps qs r s (suc k) (suc j) h l e f =
    let a : q.at < (place_of qs k).at = behind q qs s k (omega (arith, h)) in
    let b : p.at < (place_of ps j).at = behind p ps r j (omega (arith, l)) in
    let c : (place_of qs k).at ≡ p.at = ap (λ (x : Place). x.at) e in
    let d : (place_of ps j).at ≡ q.at = ap (λ (x : Place). x.at) f in
    absurd (omega (arith, a, b, c, d))

one_less : (p q x : Place) (qs : List Place) → p ≡ q → p.at < x.at → IsOneOf (q ∷ qs) x → IsOneOf qs x
one_less p q x qs same more o = by o.k o.below o.is
  where
    by : (k : ℕ) → k < length (q ∷ qs) → place_of (q ∷ qs) k ≡ x → IsOneOf qs x
    by zero h e =
        let a : q.at ≡ x.at = ap (λ (y : Place). y.at) e in
        let b : p.at ≡ q.at = ap (λ (y : Place). y.at) same in
        absurd (omega (arith, a, b, more))
    by (suc k) h e = record { k = k; below = omega (arith, h); is = e }

others : (p q : Place) (ps qs : List Place) → Rising (p ∷ ps) → p ≡ q → AreOf (p ∷ ps) (q ∷ qs) → AreOf ps qs
others p q ps qs r same are k h = one_less p q (place_of ps k) qs same (behind p ps r k h) (are (suc k) (omega (arith, h)))

-- rising lists with the same places are one
same_places : (ps qs : List Place) → Rising ps → Rising qs → AreOf ps qs → AreOf qs ps → ps ≡ qs
same_places [] [] r s a b = refl
same_places [] (q ∷ qs) r s a b = let o = b 0 (omega arith) in absurd (omega (arith, o.below))
same_places (p ∷ ps) [] r s a b = let o = a 0 (omega arith) in absurd (omega (arith, o.below))
same_places (p ∷ ps) (q ∷ qs) r s a b =
    let x = a 0 (omega arith) in
    let y = b 0 (omega arith) in
    let same : p ≡ q = same_first p q ps qs r s x.k y.k x.below y.below x.is y.is in
    let rest : ps ≡ qs = same_places ps qs (later p ps r) (later q qs s) (others p q ps qs r same a) (others q p qs ps s (sym same) b) in
    rw (same, rest) refl

-- the place that a line has in one table is in the other
in_other : (m base k : ℕ) (ps qs : List Place) (line : Line) (e : Option ℕ) → IsEntry m base ps line (Some k) → IsEntry m base qs line e → IsOneOf qs (place_of ps k)
in_other m base k ps qs Text e a b = absurd cc
in_other m base k ps qs (says.Code loc code) None a b = absurd b
in_other m base k ps qs (says.Code loc code) (Some j) a b = record { k = j; below = b.0; is = b.1 ∙ sym a.1 }

are_of : (m base : ℕ) (lines : List Line) (a b : TableView) → IsTable m base lines a → IsTable m base lines b → AreOf a.places b.places
are_of m base lines a b is other k h =
    let c = is.of_lines k h in
    let below : c.0 < length lines = omega (arith, c.1, is.count) in
    let n : get_or a.lines c.0 None ≡ Some k = get_or_default a.lines c.0 None (Some k) c.1 ∙ c.2 in
    in_other m base k a.places b.places (get_or lines c.0 Text) (get_or b.lines c.0 None) (subst (λ e. IsEntry m base a.places (get_or lines c.0 Text) e) n (is.entries c.0 below)) (other.entries c.0 below)

-- two tables of one listing have the same places
pub one_table : (m base : ℕ) (lines : List Line) (a b : TableView) → IsTable m base lines a → IsTable m base lines b → a.places ≡ b.places
one_table m base lines a b p q = same_places a.places b.places p.rising q.rising (are_of m base lines a b p q) (are_of m base lines b a q p)
