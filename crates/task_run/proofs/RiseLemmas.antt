-- The tags of a pass's fetches at one place never fall.
use Rattle.std.proofs.Common.{◌≡◌, ℕ, suc, zero, ◌<◌, ◌≤◌, Bool, true, false, if◌then◌else◌, min, nat_eq, List, [], ◌∷◌, ◌++◌, length, get_or, AllPairs, refl, sym, ◌∙◌, ap, subst, arith, eqb-true, eq-eqb}
use Rattle.module_area.specs.declared.cells.Cell.{Cell}
use Rattle.module_area.specs.Meaning.{PlanView}
use Rattle.module_area.specs.Notes.{Notes, keeps, keeps_as, IsAnswer}
use Rattle.task_run.specs.Answered.{RisesAt, known_tag}

pub rises_low : (p a b c : ℕ) (xs : List (ℕ × Cell)) → a ≤ b → RisesAt p b xs c → RisesAt p a xs c
rises_low p a b c [] le r = omega (arith, le, r)
rises_low p a b c (x ∷ xs) le r = (r.0, omega (arith, le, r.1), λ e. (omega (arith, le, (r.2 e).0), (r.2 e).1), r.3)

pub rises_high : (p a b c : ℕ) (xs : List (ℕ × Cell)) → RisesAt p a xs b → b ≤ c → RisesAt p a xs c
rises_high p a b c [] r le = omega (arith, le, r)
rises_high p a b c (x ∷ xs) r le = (r.0, r.1, r.2, rises_high p r.0 b c xs r.3 le)

pub rises_append : (p a b c : ℕ) (xs ys : List (ℕ × Cell)) → RisesAt p a xs b → RisesAt p b ys c → RisesAt p a (xs ++ ys) c
rises_append p a b c [] ys r s = rises_low p a b c ys r s
rises_append p a b c (x ∷ xs) ys r s = (r.0, r.1, r.2, rises_append p r.0 b c xs ys r.3 s)

-- a fetch

fetched_known : (k q : Bool) (last seen tag : ℕ) → (k ≡ true → q ≡ true → tag ≡ last) → (q ≡ true → seen ≤ tag) →
    (if k then min last seen else seen) ≤ (if k then min last (if q then tag else seen) else (if q then tag else seen))
fetched_known true true last seen tag kept later = let t = kept refl refl in let l = later refl in omega (arith, t, l)
fetched_known true false last seen tag kept later = omega arith
fetched_known false true last seen tag kept later = later refl
fetched_known false false last seen tag kept later = omega arith

fetched_there : (k : Bool) (last seen tag : ℕ) → (k ≡ true → tag ≡ last) → seen ≤ tag → ((if k then min last seen else seen) ≤ tag) × (tag ≤ (if k then min last tag else tag))
fetched_there true last seen tag kept later = let t = kept refl in (omega (arith, t), omega (arith, t))
fetched_there false last seen tag kept later = (later, omega arith)

-- of which the new notes tell what the pass keeps, and the tags
pub rises_fetched : (plan : PlanView) (old new : Notes) (q : ℕ) (cell : Cell) → IsAnswer plan old q cell → new.bears ≡ old.bears → new.out ≡ old.out → new.last ≡ old.last →
    ((p : ℕ) → new.seen p ≡ (if nat_eq p q then cell.tag else old.seen p)) → (p : ℕ) → RisesAt p (known_tag plan old p) ((q, cell) ∷ []) (known_tag plan new p)
rises_fetched plan old new q cell a bears out last seen p =
    let k : Bool = keeps plan old p in
    let is : known_tag plan new p ≡ (if k then min (old.last p) (if nat_eq p q then cell.tag else old.seen p) else (if nat_eq p q then cell.tag else old.seen p)) =
    (λ i. if keeps_as plan (bears i) (out i) p then min (last i p) (seen p i) else seen p i) in (
      known_tag plan new p,
      subst (λ (x : ℕ). known_tag plan old p ≤ x) (sym is) (fetched_known k (nat_eq p q) (old.last p) (old.seen p) cell.tag (λ kept here. its_last (eqb-true p q here) kept) (λ here. its_seen (eqb-true p q here))),
      λ here.
          let e : p ≡ q = sym here in
          let at : nat_eq p q ≡ true = eq-eqb p q e in
          let is_tag : known_tag plan new p ≡ (if k then min (old.last p) cell.tag else cell.tag) = is ∙ ap (λ (b : Bool). if k then min (old.last p) (if b then cell.tag else old.seen p) else (if b then cell.tag else old.seen p)) at in
          let both = fetched_there k (old.last p) (old.seen p) cell.tag (its_last e) (its_seen e) in
          (both.0, subst (λ (x : ℕ). cell.tag ≤ x) (sym is_tag) both.1),
      omega arith,
    )
  where
    its_last : p ≡ q → keeps plan old p ≡ true → cell.tag ≡ old.last p
    its_last e kept = a.kept (ap (keeps plan old) (sym e) ∙ kept) ∙ ap old.last (sym e)

    its_seen : p ≡ q → old.seen p ≤ cell.tag
    its_seen e = subst (λ (r : ℕ). old.seen r ≤ cell.tag) (sym e) a.later

-- what this says of a list

pub rises_between : (p a b : ℕ) (xs : List (ℕ × Cell)) → RisesAt p a xs b → (i : ℕ) (d : ℕ × Cell) → i < length xs → (get_or xs i d).0 ≡ p → (a ≤ (get_or xs i d).1.tag) × ((get_or xs i d).1.tag ≤ b)
rises_between p a b [] r i d l e = absurd (omega (arith, l))
rises_between p a b (x ∷ xs) r zero d l e = ((r.2 e).0, omega (arith, (r.2 e).1, ordered p r.0 b xs r.3))
  where
    ordered : (p a b : ℕ) (xs : List (ℕ × Cell)) → RisesAt p a xs b → a ≤ b
    ordered p a b [] r = r
    ordered p a b (x ∷ xs) r = omega (arith, r.1, ordered p r.0 b xs r.3)
rises_between p a b (x ∷ xs) r (suc i) d l e = let rest = rises_between p r.0 b xs r.3 i d (omega (arith, l)) e in (omega (arith, r.1, rest.0), rest.1)

pub rises_all : (low high : ℕ → ℕ) (xs : List (ℕ × Cell)) → ((p : ℕ) → RisesAt p (low p) xs (high p)) → AllPairs (λ (x y : ℕ × Cell). x.0 ≡ y.0 → x.1.tag ≤ y.1.tag) xs
rises_all low high [] r i j d lt l = absurd (omega (arith, l))
rises_all low high (x ∷ xs) r zero zero d lt l = absurd (omega (arith, lt))
rises_all low high (x ∷ xs) r zero (suc j) d lt l = λ e.
    let y : ℕ × Cell = get_or xs j d in
    let at = r y.0 in
    let behind = rises_between y.0 at.0 (high y.0) xs at.3 j d (omega (arith, l)) refl in
    omega (arith, (at.2 e).1, behind.0)
rises_all low high (x ∷ xs) r (suc i) zero d lt l = absurd (omega (arith, lt))
rises_all low high (x ∷ xs) r (suc i) (suc j) d lt l = rises_all (λ p. (r p).0) high xs (λ p. (r p).3) i j d (omega (arith, lt)) (omega (arith, l))
