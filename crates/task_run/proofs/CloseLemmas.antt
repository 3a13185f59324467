-- The closes of a task's run: those of the sessions that it has opened, but for the one that is still open.
use Rattle.std.proofs.Common.{◌≡◌, ℕ, suc, ◌+◌, ◌<◌, true, false, not, nat_eq, Option, Some, None, List, [], ◌∷◌, take, get_or, All, AllPairs, inl, inr, refl, sym, ap, arith, eqb-true, eq-eqb, ne_eqb}
use Rattle.std.specs.List.{filter, sum_by}
use Rattle.std.proofs.lemmas.Bool.{cases_Bool, both_ways, or_cases}
use Rattle.std.proofs.lemmas.List.{get_or-take, length-take}
use Rattle.std.proofs.lemmas.List.Sums.{sum_by-cons}
use Rattle.cov_base.specs.declared.numbers.SessNo.{SessNo}
use Rattle.module_area.specs.Meaning.{ControlView, PlanView, has_session}
use Rattle.module_area.specs.Notes.{Notes}
use Rattle.module_area.specs.Tied.{IsTied}
use Rattle.task_run.specs.Meaning.{places_of, places_in_all, opened_by, closed_by}
use Rattle.task_run.specs.Controlled.{HasPlanted}

abbrev session : ℕ → SessNo
session k = record { 0 = k }

-- the sessions but this one
abbrev but : SessNo → List SessNo → List SessNo
but s sessions = filter (λ (t : SessNo). not (nat_eq s.0 t.0)) sessions

all_of : (sessions : List SessNo) → filter (λ (t : SessNo). true) sessions ≡ sessions
all_of [] = refl
all_of (t ∷ ts) = ap (λ (us : List SessNo). t ∷ us) (all_of ts)

all_others : (s : SessNo) (sessions : List SessNo) → All (λ t. nat_eq s.0 t.0 ≡ false) sessions → but s sessions ≡ sessions
all_others s [] others = refl
all_others s (t ∷ ts) others = rw (others 0 t (omega arith)) (ap (λ (us : List SessNo). t ∷ us) (all_others s ts (λ k d l. others (suc k) d (omega arith))))

later : (t : SessNo) (ts : List SessNo) → AllPairs (λ s u. s.0 < u.0) (t ∷ ts) → AllPairs (λ s u. s.0 < u.0) ts
later t ts rise i j d lt l = rise (suc i) (suc j) d (omega arith) (omega arith)

sum_but : (f : SessNo → ℕ) (s : SessNo) (sessions : List SessNo) → AllPairs (λ s t. s.0 < t.0) sessions → has_session sessions s.0 ≡ true → sum_by f sessions ≡ sum_by f (but s sessions) + f s
sum_but f s [] rise has = absurd cc
sum_but f s (t ∷ ts) rise has = elim (cases_Bool (nat_eq s.0 t.0)) [
  | inl e ↦
      let same : s ≡ t = ap session (eqb-true s.0 t.0 e) in
      let number = eqb-true s.0 t.0 e in
      let others : but s ts ≡ ts = all_others s ts (λ k d l. let up : t.0 < (get_or ts k d).0 = rise 0 (suc k) d (omega arith) (omega arith) in ne_eqb s.0 (get_or ts k d).0 (λ z. absurd (omega (arith, up, number, z)))) in
      let all = sum_by-cons f t ts in
      let its : f s ≡ f t = ap f same in
      rw (e, others) (omega (arith, all, its))
  | inr e ↦
      let here : has_session ts s.0 ≡ true = elim (or_cases (nat_eq t.0 s.0) (has_session ts s.0) has) [
        | inl same ↦ absurd (both_ways (nat_eq s.0 t.0) e (eq-eqb s.0 t.0 (sym (eqb-true t.0 s.0 same))))
        | inr there ↦ there
      ] in
      let all = sum_by-cons f t ts in
      let kept = sum_by-cons f t (but s ts) in
      let rest = sum_but f s ts (later t ts rise) here in
      rw e (omega (arith, all, kept, rest))
]

rising_first : (n : ℕ) (sessions : List SessNo) → AllPairs (λ s t. s.0 < t.0) sessions → AllPairs (λ s t. s.0 < t.0) (take n sessions)
rising_first n sessions rise i j d lt l =
    let size = length-take n sessions in
    let below : j < n = omega (arith, size, l) in
    rw (get_or-take n sessions i d (omega (arith, lt, below)), get_or-take n sessions j d below) (rise i j d lt (omega (arith, size, l)))

but_open : (plan : PlanView) (o : Option SessNo) (d : ControlView) → d.opened ≡ o → AllPairs (λ s t. s.0 < t.0) d.sessions → ((s : SessNo) → d.opened ≡ Some s → has_session (opened_by d) s.0 ≡ true) →
    places_in_all plan (opened_by d) ≡ places_in_all plan (closed_by d) + places_of plan d.opened
but_open plan None d e rise has = let all = ap (places_in_all plan) (all_of (opened_by d)) in rw e (omega (arith, all))
but_open plan (Some s) d e rise has = rw e (sum_but (λ (t : SessNo). places_of plan (Some t)) s (opened_by d) (rising_first d.next d.sessions rise) (has s e))

-- a run's closes are those of the sessions that it has closed
pub closes_closed : (plan : PlanView) (old new : Notes) (d : ControlView) → HasPlanted plan old new d → IsTied plan new d → new.tally.closes ≡ old.tally.closes + places_in_all plan (closed_by d)
closes_closed plan old new d planted tie = let all = but_open plan d.opened d refl tie.rising tie.opened in omega (arith, planted.closes, all)
