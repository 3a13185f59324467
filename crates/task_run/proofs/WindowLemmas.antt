-- The tags of a task's sessions while its calls open and close them.
use Rattle.std.proofs.Common.{◌≡◌, ◌≢◌, ◌⊎◌, ◌↔◌, ℕ, ◌+◌, ◌-◌, ◌*◌, ◌<◌, ◌≤◌, Bool, true, false, ◌==◌, if◌then◌else◌, nat_eq, Option, Some, None, List, [], ◌∷◌, take, drop, get_or, All, inl, inr, refl, sym, ◌∙◌, ap, subst, arith, eqb-true, eq-eqb, eq-or-lt_of_le}
use Rattle.std.proofs.lemmas.Bool.{cases_Bool, both_ways, cases_lt}
use Rattle.std.proofs.lemmas.List.{get_or-drop, length-drop, get_or_default}
use Rattle.std.proofs.lemmas.Option.{same_Some}
use Rattle.cov_base.specs.declared.numbers.PlaceNo.{PlaceNo}
use Rattle.cov_base.specs.declared.numbers.SessNo.{SessNo}
use Rattle.module_area.specs.Meaning.{PlanView, has_place, ControlView, places_under, to_open, opening, closing, control_after, has_session}
use Rattle.module_area.specs.Rule.{IsPlan}
use Rattle.module_area.specs.Notes.{Notes}
use Rattle.module_area.specs.Control.{after_plants, after_closes, after_open, after_end, after_call}
use Rattle.module_area.specs.Tied.{IsTied}
use Rattle.module_area.proofs.Laws.{any_at, next_at, next_kept, from_one, has_here, tied_open, tied_close, at_place}
use Rattle.task_run.specs.Meaning.{control_by}
use Rattle.task_run.specs.Controlled.{notes_by, HasWindows}

-- of the sessions that were opened, those that aren't open are over at each of their places
pub record IsPast (plan : PlanView) (n : Notes) (c : ControlView) : Type 0 where
  pub over : (i : ℕ) (t : SessNo) → i < c.next → get_or c.sessions i t ≡ t → c.opened ≢ Some t → All (λ p. 2 * t.0 ≤ n.last p.0) (places_under plan t.0)

-- the tie, and this
pub record IsBound (plan : PlanView) (n : Notes) (c : ControlView) : Type 0 where
  pub tied : IsTied plan n c
  pub past : IsPast plan n c

abbrev session : ℕ → SessNo
session k = record { 0 = k }

is_one : (o : Option SessNo) (s : SessNo) → (o ≡ Some s) ⊎ (o ≢ Some s)
is_one None s = inr (λ e. absurd cc)
is_one (Some t) s = elim (cases_Bool (nat_eq t.0 s.0)) [
  | inl e ↦ inl (ap (λ k. Some (session k)) (eqb-true t.0 s.0 e))
  | inr e ↦ inr (λ z. both_ways (nat_eq t.0 s.0) e (eq-eqb t.0 s.0 (ap (λ (x : SessNo). x.0) (same_Some _ _ z))))
]

open_over : (b : Bool) (s t k : ℕ) → t < s → 2 * t ≤ k → 2 * t ≤ (if b then 2 * s - 1 else k)
open_over true s t k lt h = omega arith
open_over false s t k lt h = h

bound_open : (plan : PlanView) (n : Notes) (c : ControlView) (s : SessNo) → IsPlan plan → IsBound plan n c → to_open c ≡ Some s → IsBound plan (after_plants n s.0 (places_under plan s.0)) (opening c (Some s))
bound_open plan n c s is b to = let a = next_at plan n c b.tied s to in record {
  tied = tied_open plan n c b.tied s to (from_one plan n is s.0 (next_kept plan n c b.tied s to));
  past = record {
    over = λ i t lt at other. let low : i < c.next = lower i t lt at other in
        let before = b.past.over i t low at (λ e. let none : None ≡ Some t = sym a.0 ∙ e in absurd cc) in
        let up : (get_or c.sessions i t).0 < (get_or c.sessions c.next t).0 = b.tied.rising i c.next t low a.1 in
        let first : get_or c.sessions c.next t ≡ s = get_or_default c.sessions c.next t s a.1 ∙ a.2 in
        let below : t.0 < s.0 = let x = ap (λ (z : SessNo). z.0) at in let y = ap (λ (z : SessNo). z.0) first in omega (arith, up, x, y) in
        λ k p l. open_over (has_place (places_under plan s.0) (get_or (places_under plan t.0) k p).0) s.0 t.0 (n.last (get_or (places_under plan t.0) k p).0) below (before k p l);
  };
}
  where
    lower : (i : ℕ) (t : SessNo) → i < c.next + 1 → get_or c.sessions i t ≡ t → Some s ≢ Some t → i < c.next
    lower i t lt at other = let a = next_at plan n c b.tied s to in elim (eq-or-lt_of_le {n = i} {m = c.next} (omega (arith, lt))) [
      | inr l ↦ l
      | inl e ↦ absurd (other (ap (λ (z : SessNo). Some z) (sym (sym at ∙ (ap (λ j. get_or c.sessions j t) e ∙ (get_or_default c.sessions c.next t s a.1 ∙ a.2))))))
    ]

close_over : (b : Bool) (s t k : ℕ) → (b ≡ true → k + 1 ≡ 2 * s) → 2 * t ≤ k → 2 * t ≤ (if b then 2 * s else k)
close_over true s t k planted h = let e = planted refl in omega arith
close_over false s t k planted h = h

closed_here : (b : Bool) (s t k : ℕ) → b ≡ true → t ≡ s → 2 * t ≤ (if b then 2 * s else k)
closed_here true s t k here e = omega arith
closed_here false s t k here e = absurd cc

bound_close : (plan : PlanView) (n : Notes) (c : ControlView) (s : SessNo) → IsBound plan n c → c.opened ≡ Some s → IsBound plan (after_closes n s.0 (places_under plan s.0)) (closing c)
bound_close plan n c s b is_open = record {
  tied = tied_close plan n c s b.tied is_open;
  past = record {
    over = λ i t lt at other k p l. let q : ℕ = (get_or (places_under plan t.0) k p).0 in elim (cases_Bool (nat_eq t.0 s.0)) [
      | inl e ↦ closed_here (has_place (places_under plan s.0) q) s.0 t.0 (n.last q)
          (subst (λ z. has_place (places_under plan z) q ≡ true) (eqb-true t.0 s.0 e) (has_here (places_under plan t.0) k p l)) (eqb-true t.0 s.0 e)
      | inr e ↦ close_over (has_place (places_under plan s.0) q) s.0 t.0 (n.last q)
          (λ has. at_place (λ r. n.last r + 1 ≡ 2 * s.0) (places_under plan s.0) q (b.tied.planted s is_open) has)
          (b.past.over i t lt at (λ z. both_ways (nat_eq t.0 s.0) e (eq-eqb t.0 s.0 (sym (ap (λ (x : SessNo). x.0) (same_Some _ _ (sym is_open ∙ z)))))) k p l)
    ];
  };
}

bound_opening : (plan : PlanView) (n : Notes) (c : ControlView) (o : Option SessNo) → IsPlan plan → IsBound plan n c → to_open c ≡ o → IsBound plan (after_open plan n o) (opening c o)
bound_opening plan n c None is b e = b
bound_opening plan n c (Some s) is b e = bound_open plan n c s is b e

bound_closing : (plan : PlanView) (n : Notes) (c : ControlView) (o : Option SessNo) → IsBound plan n c → c.opened ≡ o → IsBound plan (after_end plan n o) (closing c)
bound_closing plan n c None b e = subst (IsBound plan n) (λ i. record c { opened = e i }) b
bound_closing plan n c (Some s) b e = bound_close plan n c s b e

pub bound_call : (plan : PlanView) (n : Notes) (c : ControlView) (call : Option ℕ) → IsPlan plan → IsBound plan n c → IsBound plan (after_call plan n c call) (control_after c call)
bound_call plan n c None is b = b
bound_call plan n c (Some k) is b = by_test (k == 4) (k == 5)
  where
    by_test : (f g : Bool) → IsBound plan (if f then after_open plan n (to_open c) else (if g then after_end plan n c.opened else n)) (if f then opening c (to_open c) else (if g then closing c else c))
    by_test true g = bound_opening plan n c (to_open c) is b refl
    by_test false true = bound_closing plan n c c.opened b refl
    by_test false false = b

bound_by : (plan : PlanView) (n : Notes) (c : ControlView) (calls : List (Option ℕ)) → IsPlan plan → IsBound plan n c → IsBound plan (notes_by plan n c calls) (control_by c calls)
bound_by plan n c [] is b = b
bound_by plan n c (k ∷ ks) is b = bound_by plan (after_call plan n c k) (control_after c k) ks is (bound_call plan n c k is b)

opening_sessions : (c : ControlView) (o : Option SessNo) → (opening c o).sessions ≡ c.sessions
opening_sessions c None = refl
opening_sessions c (Some s) = refl

after_sessions : (c : ControlView) (call : Option ℕ) → (control_after c call).sessions ≡ c.sessions
after_sessions c None = refl
after_sessions c (Some k) = by_test (k == 4) (k == 5)
  where
    by_test : (f g : Bool) → (if f then opening c (to_open c) else (if g then closing c else c)).sessions ≡ c.sessions
    by_test true g = opening_sessions c (to_open c)
    by_test false true = refl
    by_test false false = refl

sessions_stay : (c : ControlView) (calls : List (Option ℕ)) → (control_by c calls).sessions ≡ c.sessions
sessions_stay c [] = refl
sessions_stay c (k ∷ ks) = sessions_stay (control_after c k) ks ∙ after_sessions c k

-- the last tag at a place is the session's odd one exactly while the session is open
window_there : (plan : PlanView) (n : Notes) (c : ControlView) (s : SessNo) (p : ℕ) → IsBound plan n c → has_session c.sessions s.0 ≡ true → has_place (places_under plan s.0) p ≡ true →
    (n.last p + 1 ≡ 2 * s.0) ↔ (c.opened ≡ Some s)
window_there plan n c s p b own there =
    let a = any_at (λ (t : SessNo). nat_eq t.0 s.0) c.sessions s own in
    let at : get_or c.sessions a.0 s ≡ s = ap session (eqb-true (get_or c.sessions a.0 s).0 s.0 a.2) in (
      λ tag. elim (cases_lt a.0 c.next) [
        | inl low ↦ elim (is_one c.opened s) [
          | inl there_is ↦ there_is
          | inr other ↦ let over : 2 * s.0 ≤ n.last p = at_place (λ r. 2 * s.0 ≤ n.last r) (places_under plan s.0) p (b.past.over a.0 s low at other) there in absurd (omega (arith, over, tag))
        ]
        | inr high ↦
            let l = a.1 in
            let size = length-drop c.next c.sessions in
            let index : c.next + (a.0 - c.next) ≡ a.0 = omega (arith, high) in
            let here : get_or (drop c.next c.sessions) (a.0 - c.next) s ≡ s = get_or-drop c.next c.sessions (a.0 - c.next) s ∙ (ap (λ j. get_or c.sessions j s) index ∙ at) in
            let later : All (λ (q : PlaceNo). n.last q.0 + 1 < 2 * s.0) (places_under plan s.0) =
            subst (λ (z : SessNo). All (λ (q : PlaceNo). n.last q.0 + 1 < 2 * z.0) (places_under plan z.0)) here (b.tied.later (a.0 - c.next) s (omega (arith, l, high, size))) in
            let below : n.last p + 1 < 2 * s.0 = at_place (λ r. n.last r + 1 < 2 * s.0) (places_under plan s.0) p later there in absurd (omega (arith, below, tag))
      ],
      λ now. at_place (λ r. n.last r + 1 ≡ 2 * s.0) (places_under plan s.0) p (b.tied.planted s now) there,
    )

-- while the task runs
windows_follow : (plan : PlanView) (n : Notes) (c : ControlView) (calls : List (Option ℕ)) (s : SessNo) (p : ℕ) → IsPlan plan → IsBound plan n c → has_session c.sessions s.0 ≡ true →
    has_place (places_under plan s.0) p ≡ true → ((notes_by plan n c calls).last p + 1 ≡ 2 * s.0) ↔ ((control_by c calls).opened ≡ Some s)
windows_follow plan n c calls s p is start own there =
    window_there plan (notes_by plan n c calls) (control_by c calls) s p (bound_by plan n c calls is start) (ap (λ (ss : List SessNo). has_session ss s.0) (sessions_stay c calls) ∙ own) there

-- a tie to a control that has opened nothing stays through the calls
pub tied_by : (plan : PlanView) (n : Notes) (c : ControlView) (calls : List (Option ℕ)) → IsPlan plan → IsTied plan n c → c.next ≡ 0 → IsTied plan (notes_by plan n c calls) (control_by c calls)
tied_by plan n c calls is tie none = (bound_by plan n c calls is (record { tied = tie; past = record { over = λ i t lt. absurd (omega (arith, lt, none)) } })).tied

-- from a control that has opened nothing
pub has_windows : (plan : PlanView) (n : Notes) (c : ControlView) (calls : List (Option ℕ)) → IsPlan plan → IsTied plan n c → c.next ≡ 0 → HasWindows plan n c calls
has_windows plan n c calls is tie none = record {
  exact = λ before s p own there. windows_follow plan n c (take before calls) s p is (record { tied = tie; past = record { over = λ i t lt. absurd (omega (arith, lt, none)) } }) own there;
}
