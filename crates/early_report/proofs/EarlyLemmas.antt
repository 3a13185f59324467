-- A controller's run instruction by instruction, with its drains.
use Rattle.std.proofs.Common.{◌≡◌, ℕ, zero, suc, ◌+◌, ◌%◌, ◌<◌, Bool, true, false, if◌then◌else◌, ◌&&◌, nat_eq, is_some, unwrap_or, Option, Some, None, List, [], ◌∷◌, ◌++◌, length, get_or, map, All, AllPairs, refl, sym, ◌∙◌, ap, subst, arith, eqb-true, eq-eqb, ne_eqb}
use Rattle.std.proofs.lemmas.Bool.{and_parts}
use Rattle.std.specs.List.{filter, list_any}
use Rattle.std.proofs.lemmas.List.{same_lists, get_or-map, get_or_default, length-map}
use Rattle.std.proofs.lemmas.List.Folds.{list_any_none}
use Rattle.std.proofs.lemmas.List.Elements.{All-tail, All-cons}
use Rattle.cov_base.specs.Meaning.{FactSet, Visit}
use Rattle.cov_base.specs.declared.numbers.SessNo.{SessNo}
use Rattle.module_area.specs.Meaning.{PlanView, ControlledView, ControlView, number_of, sessions_of, control_after}
use Rattle.module_area.specs.Rule.{IsPlan, AreApart}
use Rattle.module_area.specs.Notes.{Notes, after_boundary, bearer, is_working, own_number}
use Rattle.module_area.proofs.Laws.{any_shown, no_session}
use Rattle.task_run.specs.Answered.{Turns}
use Rattle.task_run.specs.Aside.{IsAside}
use Rattle.task_run.specs.Meaning.{control_by, is_opened}
use Rattle.task_run.proofs.Laws.{step_known, same_number, aside_more, aside_boundary, boundary_number}
use Rattle.early_report.specs.DrainView.{DrainView}
use Rattle.early_report.specs.Drains.{unused, has_controlled, controller_in, controller_of, IsLooking}
use Rattle.early_report.specs.Followed.{HaveGone, Stands, closed_since, first_drains, is_begun}
use Rattle.early_report.specs.Meaning.{closes, closing_count}
use Rattle.early_report.specs.declared.drains.Stage.TheVariants.{Unused}
use Rattle.early_report.proofs.StandLemmas.{stands_on, closing_count-more, count_after}
use Rattle.early_report.proofs.StepLemmas.{closed_is}

-- looks are aside of the run

pub aside_looking : (a b : Notes) → IsLooking a b → IsAside a b
aside_looking a b r = subst (IsAside a) (sym r.same) (record { same = refl })

pub aside_behind : (mid new : Notes) → IsLooking (after_boundary mid false) new → IsAside mid new
aside_behind mid new looking = aside_more mid (after_boundary mid false) new (aside_boundary mid false) (aside_looking (after_boundary mid false) new looking)

-- behind an instruction, a boundary and looks
module _ (plan : PlanView) (old mid new : Notes) (visits : List Visit) (c : ControlView) (call : Option ℕ) (turns : Turns plan old mid visits c call) (looking : IsLooking (after_boundary mid false) new) where
  pub bears_on : new.bears ≡ old.bears
  bears_on = ap (λ (n : Notes). n.bears) looking.same ∙ (step_known plan old mid visits c call turns).bears

  pub known_on : (s p : ℕ) (x : FactSet) → old.settled s p x ≡ true → new.settled s p x ≡ true
  known_on s p x h = looking.known s p x (ap (λ (g : ℕ → ℕ → FactSet → Bool). g s p x) (step_known plan old mid visits c call turns).settled ∙ h)

  pub number_on : own_number new ≡ own_number old + 2
  number_on = ap own_number looking.same ∙ (boundary_number mid false ∙ ap (λ k. k + 2) (same_number old mid (step_known plan old mid visits c call turns)))

-- the drains behind one instruction more

abbrev pub StandAll : PlanView → Notes → ControlView → List (Option ℕ) → ℕ → List DrainView → Type 0
StandAll plan n c called done ds = All (λ (d : DrainView). Stands plan n (closing_count c called d.session) done d) ds

no_drain : DrainView
no_drain = record { session = 0; stage = Unused; noted = []; last = None; polls = 0; at = 0; sets = [] }

sessions_same : (ds es : List DrainView) → length es ≡ length ds → ((i : ℕ) (d : DrainView) → i < length ds → (get_or es i d).session ≡ (get_or ds i d).session) → map (λ (d : DrainView). d.session) es ≡ map (λ (d : DrainView). d.session) ds
sessions_same ds es size same = same_lists (map (λ (d : DrainView). d.session) es) (map (λ (d : DrainView). d.session) ds)
    (length-map es (λ (d : DrainView). d.session) ∙ (size ∙ sym (length-map ds (λ (d : DrainView). d.session))))
    (λ k x l. let l' : k < length es = (let a = length-map es (λ (d : DrainView). d.session) in omega (arith, a, l)) in
    let none : DrainView = no_drain in
    get_or-map (λ (d : DrainView). d.session) es k none x l' ∙ (same k none (omega (arith, l', size)) ∙ sym (get_or-map (λ (d : DrainView). d.session) ds k none x (omega (arith, l', size)))))

module _ (plan : PlanView) (old new : Notes) (c d : ControlView) (called : List (Option ℕ)) (call : Option ℕ) (i : ℕ) (ds es : List DrainView) (bears : new.bears ≡ old.bears)
    (known : (s p : ℕ) (x : FactSet) → old.settled s p x ≡ true → new.settled s p x ≡ true) (control : d ≡ control_by c called) (count : length called ≡ i)
    (stand : StandAll plan old c called i ds) (gone : HaveGone plan new (closed_since d.opened (control_after d call).opened) (i + 1) ds es) where
  one_on : (k : ℕ) (x : DrainView) → k < length ds → Stands plan new (closing_count c (called ++ call ∷ []) (get_or ds k x).session) (i + 1) (get_or es k x) × ((get_or es k x).session ≡ (get_or ds k x).session)
  one_on k x l =
      let a : DrainView = get_or ds k x in
      let s = stands_on plan old new known (closed_since d.opened (control_after d call).opened) i (closing_count c called a.session) a (get_or es k x) bears (stand k x l) (gone.each k x l) in
      let more : count_after (closing_count c called a.session) (is_opened a.session (closed_since d.opened (control_after d call).opened)) (i + 1) ≡ closing_count c (called ++ call ∷ []) a.session =
      (λ j. count_after (closing_count c called a.session) ((closed_is d call a.session ∙ ap (λ (z : ControlView). closes z call a.session) control) j) (sym count j + 1)) ∙ sym (closing_count-more c called call a.session) in
      (subst (λ o. Stands plan new o (i + 1) (get_or es k x)) more s.0, s.1)

  pub stand_next : StandAll plan new c (called ++ call ∷ []) (i + 1) es
  stand_next k x l = let o = one_on k x (let size = gone.count in omega (arith, size, l)) in subst (λ s. Stands plan new (closing_count c (called ++ call ∷ []) s) (i + 1) (get_or es k x)) (sym o.1) o.0

  pub sessions_next : map (λ (d : DrainView). d.session) es ≡ map (λ (d : DrainView). d.session) ds
  sessions_next = sessions_same ds es gone.count (λ k x l. (one_on k x l).1)

-- the first drains

by_its : (cs : List ControlledView) (i : ℕ) → AllPairs AreApart cs → i < length cs → controller_in cs (get_or cs i no_session).session ≡ (get_or cs i no_session).by
by_its [] i apart l = absurd (omega arith)
by_its (c ∷ cs) zero apart l = ap (λ b. if b then c.by else controller_in cs c.session) (eq-eqb c.session c.session refl)
by_its (c ∷ cs) (suc i) apart l =
    let up : c.session < (get_or cs i no_session).session = (apart 0 (suc i) no_session (omega arith) l).rising in
    ap (λ b. if b then c.by else controller_in cs (get_or cs i no_session).session) (ne_eqb c.session (get_or cs i no_session).session (λ e. absurd (omega (arith, up, e))))
    ∙ by_its cs i (λ a b d lt lb. apart (suc a) (suc b) d (omega arith) (omega arith)) (omega arith)

pub record IsOf (plan : PlanView) (t s : ℕ) : Type 0 where
  pub controlled : has_controlled plan s ≡ true
  pub by : controller_of plan s ≡ t

own_rows : (plan : PlanView) (t : ℕ) (cs : List ControlledView) → All (λ (c : ControlledView). (has_controlled plan c.session ≡ true) × (controller_of plan c.session ≡ c.by)) cs →
    All (λ (s : SessNo). IsOf plan t s.0) (map number_of (filter (λ (c : ControlledView). nat_eq c.by t) cs))
own_rows plan t [] all = λ i d l. absurd (omega arith)
own_rows plan t (c ∷ cs) all = by_test (nat_eq c.by t) refl (own_rows plan t cs (All-tail (λ (c : ControlledView). (has_controlled plan c.session ≡ true) × (controller_of plan c.session ≡ c.by)) c cs all))
  where
    by_test : (b : Bool) → nat_eq c.by t ≡ b → All (λ (s : SessNo). IsOf plan t s.0) (map number_of (filter (λ (c : ControlledView). nat_eq c.by t) cs)) →
        All (λ (s : SessNo). IsOf plan t s.0) (map number_of (if b then c ∷ filter (λ (c : ControlledView). nat_eq c.by t) cs else filter (λ (c : ControlledView). nat_eq c.by t) cs))
    by_test true e rest = let h = all 0 c (omega arith) in
        All-cons (λ (s : SessNo). IsOf plan t s.0) (number_of c) (map number_of (filter (λ (c : ControlledView). nat_eq c.by t) cs)) (record { controlled = h.0; by = h.1 ∙ eqb-true c.by t e }) rest
    by_test false e rest = rest

pub own_sessions : (plan : PlanView) (t : ℕ) → IsPlan plan → All (λ (s : SessNo). IsOf plan t s.0) (sessions_of plan t)
own_sessions plan t ok = own_rows plan t plan.controlled (λ i d l. subst (λ (c : ControlledView). (has_controlled plan c.session ≡ true) × (controller_of plan c.session ≡ c.by)) (get_or_default plan.controlled i no_session d l)
    (any_shown (λ (c : ControlledView). nat_eq c.session (get_or plan.controlled i no_session).session) plan.controlled no_session i l (eq-eqb _ _ refl), by_its plan.controlled i ok.apart l))

bears_by : (o : Option ℕ) → is_some o ≡ true → o ≡ Some (unwrap_or o 0)
bears_by None h = absurd cc
bears_by (Some t) h = refl

pub bears_of : (n : Notes) → is_working n ≡ true → n.bears ≡ Some (bearer n)
bears_of n w = bears_by n.bears (and_parts (is_some n.bears) _ w).0

pub stand_first : (plan : PlanView) (n : Notes) (c : ControlView) (ds : List DrainView) → IsPlan plan → is_working n ≡ true → ds ≡ first_drains plan (bearer n) → StandAll plan n c [] 0 ds
stand_first plan n c ds ok working is = subst (StandAll plan n c [] 0) (sym is) (λ k x l.
    let t : ℕ = bearer n in
    let l' : k < length (sessions_of plan t) = (let size = length-map (sessions_of plan t) (λ (s : SessNo). unused plan s.0) in omega (arith, size, l)) in
    let none : SessNo = record { 0 = 0 } in
    let s : SessNo = get_or (sessions_of plan t) k none in
    let of = own_sessions plan t ok k none l' in
    subst (Stands plan n None 0) (sym (get_or-map (λ (s : SessNo). unused plan s.0) (sessions_of plan t) k none x l'))
    (record { own = record { controlled = of.controlled; own = bears_of n working ∙ ap Some (sym of.by) }; by = refl }))

-- no drain waits before the first instruction
pub none_begun : (plan : PlanView) (n : Notes) (c : ControlView) (ds : List DrainView) → StandAll plan n c [] 0 ds → false ≡ list_any (λ (d : DrainView). is_begun d.stage) ds
none_begun plan n c ds stand = sym (list_any_none (λ (d : DrainView). is_begun d.stage) ds (λ i d l. ap (λ (d : DrainView). is_begun d.stage) (stand i d l).by))

-- behind its last boundary a pass works no more
ended_by : (b : Bool) (k : ℕ) → (b && nat_eq (k % 2) 0) ≡ true → (b && nat_eq ((k + 1) % 2) 0) ≡ false
ended_by false k h = refl
ended_by true k h = let even : k % 2 ≡ 0 = eqb-true (k % 2) 0 h in ne_eqb ((k + 1) % 2) 0 (λ e. absurd (omega (arith, even, e)))

pub ended : (n : Notes) → is_working n ≡ true → is_working (after_boundary n true) ≡ false
ended n working = ap (λ k. is_some n.bears && nat_eq (k % 2) 0) (boundary_number n true) ∙ ended_by (is_some n.bears) (own_number n) working
