-- The pass that is split for a task is tied to the task's first control.
use Rattle.std.proofs.Common.{◌≡◌, ℕ, ◌+◌, ◌*◌, ◌<◌, Bool, true, false, ◌&&◌, ◌||◌, nat_eq, if◌then◌else◌, List, [], ◌∷◌, map, length, drop, get_or, All, AllPairs, sym, refl, ap, subst, ◌∙◌, arith}
use Rattle.std.specs.List.{list_any, filter}
use Rattle.std.proofs.lemmas.List.{get_or-map, length-map}
use Rattle.std.proofs.lemmas.List.Kept.{AllPairs-filter}
use Rattle.std.proofs.lemmas.List.Elements.{All-filter}
use Rattle.cov_base.specs.declared.numbers.PlaceNo.{PlaceNo}
use Rattle.cov_base.specs.declared.numbers.SessNo.{SessNo}
use Rattle.module_area.specs.Meaning.{PlanView, ControlledView, ControlView, number_of, first_control, places_under, has_session}
use Rattle.module_area.specs.Rule.{IsPlan, IsControlled, AreApart, is_controller}
use Rattle.module_area.specs.Notes.{Notes, split_notes}
use Rattle.module_area.specs.Tied.{keeps_session_as, IsTied}

abbrev by_task : ℕ → ControlledView → Bool
by_task t c = nat_eq c.by t

both_there : (x y r q : Bool) → y ≡ true → r ≡ q → (x || r) ≡ ((x && y) || q)
both_there true y r q e same = rw e refl
both_there false y r q e same = same

not_there : (x y r q : Bool) → y ≡ false → r ≡ q → r ≡ ((x && y) || q)
not_there true y r q e same = rw e same
not_there false y r q e same = same

had_step : (t s : ℕ) (c : ControlledView) (cs : List ControlledView) (b : Bool) → nat_eq c.by t ≡ b
    → has_session (map number_of (filter (by_task t) cs)) s ≡ list_any (λ (c : ControlledView). nat_eq c.session s && nat_eq c.by t) cs
    → has_session (map number_of (if b then c ∷ filter (by_task t) cs else filter (by_task t) cs)) s ≡ list_any (λ (c : ControlledView). nat_eq c.session s && nat_eq c.by t) (c ∷ cs)
had_step t s c cs true e rest = both_there (nat_eq c.session s) (nat_eq c.by t) _ _ e rest
had_step t s c cs false e rest = not_there (nat_eq c.session s) (nat_eq c.by t) _ _ e rest

had : (t s : ℕ) (cs : List ControlledView) → has_session (map number_of (filter (by_task t) cs)) s ≡ list_any (λ (c : ControlledView). nat_eq c.session s && nat_eq c.by t) cs
had t s [] = refl
had t s (c ∷ cs) = had_step t s c cs (nat_eq c.by t) refl (had t s cs)

abbrev no_session : ControlledView
no_session = record { session = 0; by = 0; places = [] }

-- what holds of a session's row holds of its number
at_numbers : (cs : List ControlledView) (i : ℕ) (d : SessNo) → i < length (map number_of cs) → (i < length cs) × (get_or (map number_of cs) i d ≡ number_of (get_or cs i no_session))
at_numbers cs i d l = let size = length-map cs number_of in let in_cs : i < length cs = omega arith in (in_cs, get_or-map number_of cs i no_session d in_cs)

rising_numbers : (cs : List ControlledView) → AllPairs AreApart cs → AllPairs (λ (s t : SessNo). s.0 < t.0) (map number_of cs)
rising_numbers cs apart i j d lt l = let b = at_numbers cs j d l in let a = at_numbers cs i d (omega arith) in let up = (apart i j no_session lt b.0).rising in
    let ea : (get_or (map number_of cs) i d).0 ≡ (get_or cs i no_session).session = ap (λ (s : SessNo). s.0) a.1 in
    let eb : (get_or (map number_of cs) j d).0 ≡ (get_or cs j no_session).session = ap (λ (s : SessNo). s.0) b.1 in omega arith

-- a task's pass has no tags yet at the places of its sessions
fresh_tag : (b : Bool) (k s : ℕ) → 0 < s → (b ≡ true → k ≡ 0) → (if b then k else 0) + 1 < 2 * s
fresh_tag true k s pos none = let z = none refl in omega arith
fresh_tag false k s pos none = omega arith

-- The root has planted nothing at the places that the task controls.
pub first_tied : (plan : PlanView) (n : Notes) (t : ℕ) → IsPlan plan → ((p : ℕ) → is_controller plan t p ≡ true → n.last p ≡ 0) → IsTied plan (split_notes plan n t) (first_control plan t)
first_tied plan n t ok none = record {
  keeps = λ s. had t s plan.controlled;
  rising = rising_numbers _ (AllPairs-filter AreApart (by_task t) plan.controlled ok.apart);
  next = omega arith;
  opened = λ s e. absurd cc;
  planted = λ s e. absurd cc;
  later = λ i s l. let its : List ControlledView = filter (by_task t) plan.controlled in let a = at_numbers its i s l in
      let from : 0 < (get_or its i no_session).session = (All-filter (by_task t) (IsControlled plan) plan.controlled ok.controlled i no_session a.0).from in
      let e : (get_or (map number_of its) i s).0 ≡ (get_or its i no_session).session = ap (λ (s : SessNo). s.0) a.1 in
      λ j p lj. fresh_tag (is_controller plan t _) (n.last _) _ (omega arith) (none _);
}

-- the tie speaks of the pass's task and last tags alone
pub tied_same : (plan : PlanView) (old new : Notes) (c : ControlView) → new.last ≡ old.last → new.bears ≡ old.bears → new.out ≡ old.out → IsTied plan old c → IsTied plan new c
tied_same plan old new c last bears out tie = record {
  keeps = λ s. tie.keeps s ∙ sym (λ i. keeps_session_as plan (bears i) (out i) s);
  rising = tie.rising;
  next = tie.next;
  opened = tie.opened;
  planted = λ s e. subst (λ (g : ℕ → ℕ). All (λ (p : PlaceNo). g p.0 + 1 ≡ 2 * s.0) (places_under plan s.0)) (sym last) (tie.planted s e);
  later = subst (λ (g : ℕ → ℕ). All (λ (s : SessNo). All (λ (p : PlaceNo). g p.0 + 1 < 2 * s.0) (places_under plan s.0)) (drop c.next c.sessions)) (sym last) tie.later;
}
