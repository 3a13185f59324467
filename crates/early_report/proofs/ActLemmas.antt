-- What any call of the area leaves of a session that is closed and of its drain.
use Rattle.std.proofs.Common.{◌≡◌, ℕ, ◌+◌, ◌-◌, ◌*◌, ◌/◌, ◌<◌, ◌≤◌, Bool, true, false, if◌then◌else◌, ◌&&◌, nat_eq, Some, None, List, [], ◌∷◌, ◌++◌, length, All, refl, sym, ◌∙◌, ap, subst, arith, eqb-true, ⊎_elim}
use Rattle.cov_base.specs.Meaning.{FactSet, breakpoint}
use Rattle.cov_base.specs.declared.numbers.PlaceNo.{PlaceNo}
use Rattle.module_area.specs.declared.cells.Cell.{Cell}
use Rattle.module_area.specs.Meaning.{PlanView, is_controlled, is_over, window_at, places_under}
use Rattle.module_area.specs.Rule.{IsPlan}
use Rattle.module_area.specs.Notes.{Notes, NotedView, IsAnswer, after_fetch, after_plant, after_close, after_note, is_at, is_closed}
use Rattle.module_area.proofs.Laws.{over_cases, no_session, closed_place}
use Rattle.early_report.specs.Acts.{Acts}
use Rattle.early_report.specs.Acts.Acts.{Fetches, Marks, Lifts, Plants, Closes, Bounds, NotesTask, ReadsSet}
use Rattle.early_report.specs.DrainView.{DrainView}
use Rattle.early_report.specs.Drains.{HasClosed, IsDrainOf, AreKnown}
use Rattle.early_report.proofs.FollowLemmas.{known_later}
use Rattle.early_report.proofs.LookLemmas.{looking_noted}
use Rattle.early_report.proofs.ReadLemmas.{session_of, closed_at, from_one, read_keeps}
use Rattle.early_report.proofs.StepLemmas.{closed_by}
use Rattle.early_report.proofs.TieLemmas.{closed_looks, tied_later}

-- tags that fall nowhere in a session's places leave it closed

higher : (plan : PlanView) (old new : ℕ → ℕ) (s : ℕ) → IsPlan plan → All (λ (p : PlaceNo). 2 * s ≤ old p.0) (places_under plan s) → ((p : ℕ) → 2 * s ≤ old p → 2 * s ≤ new p) → is_closed plan new s ≡ true
higher plan old new s ok over more = closed_by plan new s ok (λ i p l. more _ (over i p l))

one_tag : (b : Bool) (x y k : ℕ) → (b ≡ true → k ≤ x) → k ≤ y → k ≤ (if b then x else y)
one_tag true x y k h l = h refl
one_tag false x y k h l = l

-- no fetch answers the odd tag of a closed session
not_its : (plan : PlanView) (n : Notes) (s p : ℕ) (cell : Cell) → IsPlan plan → HasClosed plan n s → p < length plan.places → IsAnswer plan n p cell → cell.tag ≡ 2 * s - 1 → ⊥
not_its plan n s p cell ok h l answer tag =
    let pos = from_one plan s ok h.controlled in
    let session : (cell.tag + 1) / 2 ≡ s = omega (arith, tag, pos) in
    let over : is_over plan s p ≡ true = subst (λ k. is_over plan k p ≡ true) session (answer.over (λ z. absurd (omega (arith, z, tag, pos)))) in
    ⊎_elim
    (λ (w : window_at plan p ≡ s). let r = session_of plan s h.controlled in ok.no_windows r.index no_session r.within p l (w ∙ sym r.is_it))
    (λ (c : is_controlled plan s p ≡ true). let high = closed_place plan n.seen s p h.seen c in let later = answer.later in absurd (omega (arith, high, later, tag, pos)))
    (over_cases plan s p over)

idle_at : (b : Bool) (p tag q s : ℕ) → (tag ≡ 2 * s - 1 → ⊥) → is_at (if b then Some (p, tag) else None) q (2 * s - 1) ≡ false
idle_at false p tag q s other = refl
idle_at true p tag q s other = by_tag (nat_eq tag (2 * s - 1)) refl
  where
    by_tag : (c : Bool) → nat_eq tag (2 * s - 1) ≡ c → (nat_eq p q && c) ≡ false
    by_tag true e = absurd (other (eqb-true tag (2 * s - 1) e))
    by_tag false e = and_none (nat_eq p q)
      where
        and_none : (b : Bool) → (b && false) ≡ false
        and_none true = refl
        and_none false = refl

module _ (plan : PlanView) (old : Notes) (s : ℕ) (ok : IsPlan plan) (h : HasClosed plan old s) where
  fetched : (p : ℕ) (cell : Cell) → p < length plan.places → IsAnswer plan old p cell → HasClosed plan (after_fetch plan old p cell) s
  fetched p cell l answer = record {
    controlled = h.controlled;
    own = h.own;
    seen = higher plan old.seen (after_fetch plan old p cell).seen s ok (closed_at plan old.seen s h.controlled h.seen)
        (λ q le. one_tag (nat_eq q p) cell.tag (old.seen q) (2 * s) (λ e. let same = eqb-true q p e in let up : 2 * s ≤ old.seen p = subst (λ k. 2 * s ≤ old.seen k) same le in let later = answer.later in omega (arith, up, later)) le);
    given = h.given;
    idle = λ q. idle_at (nat_eq cell.half breakpoint) p cell.tag q s (not_its plan old s p cell ok h l answer);
  }

  planted : (t p : ℕ) → old.last p + 1 < 2 * t → HasClosed plan (after_plant old t p) s
  planted t p later =
      let up : (q : ℕ) → nat_eq q p ≡ true → 2 * s ≤ old.last q → 2 * s ≤ 2 * t - 1 = λ q e le. let low : 2 * s ≤ old.last p = subst (λ k. 2 * s ≤ old.last k) (eqb-true q p e) le in omega (arith, low, later) in
      let both = both_tags (λ q. if nat_eq q p then 2 * t - 1 else old.seen q) (λ q. if nat_eq q p then 2 * t - 1 else old.last q)
      (λ q seen last. (one_tag (nat_eq q p) (2 * t - 1) (old.seen q) (2 * s) (λ e. up q e last) seen, one_tag (nat_eq q p) (2 * t - 1) (old.last q) (2 * s) (λ e. up q e last) last)) in
      record { controlled = h.controlled; own = h.own; seen = both.0; given = both.1; idle = h.idle }
    where
      both_tags : (seen last : ℕ → ℕ) → ((q : ℕ) → 2 * s ≤ old.seen q → 2 * s ≤ old.last q → (2 * s ≤ seen q) × (2 * s ≤ last q)) → (is_closed plan seen s ≡ true) × (is_closed plan last s ≡ true)
      both_tags seen last more = let a = closed_at plan old.seen s h.controlled h.seen in let b = closed_at plan old.last s h.controlled h.given in
          (closed_by plan seen s ok (λ i p l. (more _ (a i p l) (b i p l)).0), closed_by plan last s ok (λ i p l. (more _ (a i p l) (b i p l)).1))

  closed : (t p : ℕ) → old.last p + 1 ≡ 2 * t → HasClosed plan (after_close old t p) s
  closed t p planted =
      let up : (q : ℕ) → nat_eq q p ≡ true → 2 * s ≤ old.last q → 2 * s ≤ 2 * t = λ q e le. let low : 2 * s ≤ old.last p = subst (λ k. 2 * s ≤ old.last k) (eqb-true q p e) le in omega (arith, low, planted) in
      let a = closed_at plan old.seen s h.controlled h.seen in
      let b = closed_at plan old.last s h.controlled h.given in
      record {
        controlled = h.controlled;
        own = h.own;
        seen = closed_by plan (after_close old t p).seen s ok (λ i q l. one_tag (nat_eq _ p) (2 * t) (old.seen _) (2 * s) (λ e. up _ e (b i q l)) (a i q l));
        given = closed_by plan (after_close old t p).last s ok (λ i q l. one_tag (nat_eq _ p) (2 * t) (old.last _) (2 * s) (λ e. up _ e (b i q l)) (b i q l));
        idle = h.idle;
      }

pub closed_stays : (plan : PlanView) (old new : Notes) (s : ℕ) → IsPlan plan → Acts plan old new → HasClosed plan old s → HasClosed plan new s
closed_stays plan old new s ok (Fetches p cell l answer e) h = subst (λ (n : Notes). HasClosed plan n s) (sym e) (fetched plan old s ok h p cell l answer)
closed_stays plan old new s ok (Marks t p f found e) h = subst (λ (n : Notes). HasClosed plan n s) (sym e) (record { controlled = h.controlled; own = h.own; seen = h.seen; given = h.given; idle = h.idle })
closed_stays plan old new s ok (Lifts t p x e) h = subst (λ (n : Notes). HasClosed plan n s) (sym e) (record { controlled = h.controlled; own = h.own; seen = h.seen; given = h.given; idle = h.idle })
closed_stays plan old new s ok (Plants t p later e) h = subst (λ (n : Notes). HasClosed plan n s) (sym e) (planted plan old s ok h t p later)
closed_stays plan old new s ok (Closes t p last e) h = subst (λ (n : Notes). HasClosed plan n s) (sym e) (closed plan old s ok h t p last)
closed_stays plan old new s ok (Bounds ended e) h = subst (λ (n : Notes). HasClosed plan n s) (sym e) (record { controlled = h.controlled; own = h.own; seen = h.seen; given = h.given; idle = λ p. refl })
closed_stays plan old new s ok (NotesTask t found e) h = subst (λ (n : Notes). HasClosed plan n s) (sym e) (closed_looks plan old (after_note old t found) s (looking_noted old t found) h)
closed_stays plan old new s ok (ReadsSet t p x e) h = subst (λ (n : Notes). HasClosed plan n s) (sym e) (record { controlled = h.controlled; own = h.own; seen = h.seen; given = h.given; idle = h.idle })

-- what a call leaves of the looks and of the pass's task
record Keeps (old new : Notes) : Type 0 where
  pub bears : new.bears ≡ old.bears
  pub more : List NotedView
  pub noted : new.noted ≡ more ++ old.noted
  pub known : (s p : ℕ) (x : FactSet) → old.settled s p x ≡ true → new.settled s p x ≡ true

same_looks : (old new m : Notes) → new ≡ m → m.bears ≡ old.bears → m.noted ≡ old.noted → m.settled ≡ old.settled → Keeps old new
same_looks old new m e bears noted settled = subst (Keeps old) (sym e) (record { bears = bears; more = []; noted = noted; known = λ s p x h. ap (λ (g : ℕ → ℕ → FactSet → Bool). g s p x) settled ∙ h })

keeps : (plan : PlanView) (old new : Notes) → Acts plan old new → Keeps old new
keeps plan old new (Fetches p cell l answer e) = same_looks old new _ e refl refl refl
keeps plan old new (Marks t p f found e) = same_looks old new _ e refl refl refl
keeps plan old new (Lifts t p x e) = same_looks old new _ e refl refl refl
keeps plan old new (Plants t p later e) = same_looks old new _ e refl refl refl
keeps plan old new (Closes t p last e) = same_looks old new _ e refl refl refl
keeps plan old new (Bounds ended e) = same_looks old new _ e refl refl refl
keeps plan old new (NotesTask t found e) = subst (Keeps old) (sym e) (record { bears = refl; more = record { task = t; number = found; seen = old.seen } ∷ []; noted = refl; known = λ s p x h. h })
keeps plan old new (ReadsSet t p x e) = subst (Keeps old) (sym e) (record { bears = refl; more = []; noted = refl; known = λ s q y h. read_keeps plan old t p s q x y h })

pub tied_stays : (plan : PlanView) (old new : Notes) (d : DrainView) → IsPlan plan → Acts plan old new → IsDrainOf plan old d → IsDrainOf plan new d
tied_stays plan old new d ok acts tie = let k = keeps plan old new acts in tied_later plan old new d k.more k.noted k.bears (closed_stays plan old new d.session ok acts tie.closed) tie

pub known_stays : (plan : PlanView) (old new : Notes) (s : ℕ) (xs : List FactSet) → Acts plan old new → AreKnown old s (places_under plan s) xs → AreKnown new s (places_under plan s) xs
known_stays plan old new s xs acts k = known_later old new s (places_under plan s) xs (keeps plan old new acts).known k
