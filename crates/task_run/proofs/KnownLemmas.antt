-- A task's calls lower no tag that its pass knows.
use Rattle.std.proofs.Common.{◌≡◌, ℕ, ◌+◌, ◌-◌, ◌*◌, ◌<◌, ◌≤◌, Bool, true, false, if◌then◌else◌, ◌==◌, min, Option, Some, None, All, refl, arith}
use Rattle.std.proofs.lemmas.Bool.{cond_both}
use Rattle.cov_base.specs.declared.numbers.PlaceNo.{PlaceNo}
use Rattle.cov_base.specs.declared.numbers.SessNo.{SessNo}
use Rattle.module_area.specs.Meaning.{PlanView, has_place, ControlView, places_under, to_open}
use Rattle.module_area.specs.Rule.{IsPlan}
use Rattle.module_area.specs.Notes.{Notes, keeps}
use Rattle.module_area.specs.Control.{after_open, after_end, after_call}
use Rattle.module_area.specs.Tied.{IsTied}
use Rattle.module_area.proofs.Laws.{may_plant, may_close, next_kept, next_later, open_kept, at_place}
use Rattle.task_run.specs.Answered.{known_tag}

-- by whether it keeps the place, and whether the session is over it
changed_known : (k b : Bool) (last seen tag : ℕ) → (b ≡ true → (k ≡ true) × (last ≤ tag)) → (if k then min last seen else seen) ≤ (if k then min (if b then tag else last) (if b then tag else seen) else (if b then tag else seen))
changed_known true true last seen tag own = let h = (own refl).1 in omega (arith, h)
changed_known true false last seen tag own = omega arith
changed_known false true last seen tag own = let h : false ≡ true = (own refl).0 in absurd cc
changed_known false false last seen tag own = omega arith

module _ (plan : PlanView) (is : IsPlan plan) (n : Notes) (c : ControlView) (tie : IsTied plan n c) (p : ℕ) where
  open_known : (o : Option SessNo) → to_open c ≡ o → known_tag plan n p ≤ known_tag plan (after_open plan n o) p
  open_known None e = omega arith
  open_known (Some s) e =
      let later : All (λ (q : PlaceNo). n.last q.0 + 1 < 2 * s.0) (places_under plan s.0) = next_later plan n c tie s e in
      let may = may_plant plan n is s.0 (next_kept plan n c tie s e) later in
      changed_known (keeps plan n p) (has_place (places_under plan s.0) p) (n.last p) (n.seen p) (2 * s.0 - 1) (λ has. (
        at_place (λ (q : ℕ). keeps plan n q ≡ true) (places_under plan s.0) p may.keeper has,
        (let low : n.last p + 1 < 2 * s.0 = at_place (λ (q : ℕ). n.last q + 1 < 2 * s.0) (places_under plan s.0) p later has in omega (arith, low)),
      ))

  end_known : (o : Option SessNo) → c.opened ≡ o → known_tag plan n p ≤ known_tag plan (after_end plan n o) p
  end_known None e = omega arith
  end_known (Some s) e =
      let planted : All (λ (q : PlaceNo). n.last q.0 + 1 ≡ 2 * s.0) (places_under plan s.0) = tie.planted s e in
      let may = may_close plan n is s.0 (open_kept plan n c s tie e) planted in
      changed_known (keeps plan n p) (has_place (places_under plan s.0) p) (n.last p) (n.seen p) (2 * s.0) (λ has. (
        at_place (λ (q : ℕ). keeps plan n q ≡ true) (places_under plan s.0) p may.keeper has,
        (let low : n.last p + 1 ≡ 2 * s.0 = at_place (λ (q : ℕ). n.last q + 1 ≡ 2 * s.0) (places_under plan s.0) p planted has in omega (arith, low)),
      ))

  pub call_rises : (call : Option ℕ) → known_tag plan n p ≤ known_tag plan (after_call plan n c call) p
  call_rises None = omega arith
  call_rises (Some k) =
      cond_both (k == 4) (after_open plan n (to_open c)) (if k == 5 then after_end plan n c.opened else n) (λ (m : Notes). known_tag plan n p ≤ known_tag plan m p)
      (λ e. open_known (to_open c) refl)
      (λ e. cond_both (k == 5) (after_end plan n c.opened) n (λ (m : Notes). known_tag plan n p ≤ known_tag plan m p) (λ f. end_known c.opened refl) (λ f. omega arith))
