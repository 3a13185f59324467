-- How a drain stands instruction by instruction.
use Rattle.std.proofs.Common.{◌≡◌, ℕ, ◌+◌, ◌<◌, ◌≤◌, Bool, true, false, if◌then◌else◌, Option, Some, None, option_map, List, [], ◌∷◌, ◌++◌, length, map, inl, inr, refl, sym, ◌∙◌, ap, subst, arith}
use Rattle.std.proofs.lemmas.List.{length-map}
use Rattle.cov_base.specs.Meaning.{FactSet}
use Rattle.cov_base.specs.declared.numbers.SessNo.{SessNo}
use Rattle.cov_base.specs.declared.numbers.TaskNo.{TaskNo}
use Rattle.module_area.specs.Meaning.{PlanView, ControlView, places_under, control_after}
use Rattle.module_area.specs.Notes.{Notes, bearer}
use Rattle.task_run.specs.Meaning.{control_by, is_opened}
use Rattle.early_report.specs.DrainView.{DrainView}
use Rattle.early_report.specs.Meaning.{others, closes, closing_count}
use Rattle.early_report.specs.Drains.{unused, controller_of, IsDrainOf, AreKnown}
use Rattle.early_report.specs.Followed.{IsOwn, IsAsked, WentAt, Went, StandsBy, Stands}
use Rattle.early_report.specs.declared.drains.Stage.{Stage}
use Rattle.early_report.proofs.FollowLemmas.{own_later, known_later}

-- the count at which a session was closed, after one instruction more
abbrev pub count_after : Option ℕ → Bool → ℕ → Option ℕ
count_after None b done = if b then Some done else None
count_after (Some k) b done = Some k

-- some task is waited for only where there is another
waited : (plan : PlanView) (n : Notes) (d : DrainView) (e : TaskNo × ℕ) → IsDrainOf plan n d → d.last ≡ Some e → others plan.tasks (controller_of plan d.session) ≡ [] → ⊥
waited plan n d e tie last none =
    let tasks : map (λ (e : TaskNo × ℕ). e.0) d.noted ≡ [] = tie.tasks ∙ (ap (λ (o : Option ℕ). others plan.tasks (bearer (record n { bears = o }))) tie.closed.own ∙ none) in
    let size : length d.noted ≡ 0 = sym (length-map d.noted (λ (e : TaskNo × ℕ). e.0)) ∙ ap (λ (ts : List TaskNo). length ts) tasks in
    let l = (tie.last e last).within in omega (arith, size, l)

module _ (plan : PlanView) (old new : Notes) (known : (s p : ℕ) (x : FactSet) → old.settled s p x ≡ true → new.settled s p x ≡ true) (closed : Option SessNo) (done : ℕ) where
  asked_by : (d e : DrainView) (polls closing : ℕ) → IsAsked plan new d.session polls (done + 1) e → polls + closing ≡ done + 1 → 0 < closing → closing ≤ done + 1 →
      (others plan.tasks (controller_of plan d.session) ≡ [] → done + 1 ≡ closing) → StandsBy plan new (Some closing) (done + 1) e
  asked_by d e polls closing (inl w) sum some within alone = inr record {
    stage = w.stage;
    tie = w.tie;
    entry = w.entry;
    last = w.last;
    working = w.working;
    polls = let a = w.polled in omega (arith, a, sum);
    some = some;
    within = within;
  }
  asked_by d e polls closing (inr t) sum some within alone = inl record {
    stage = t.stage;
    known = subst (λ s. AreKnown new s (places_under plan s) e.sets) (sym t.session) t.known;
    polls = let a = t.at in let p = t.polled in omega (arith, a, p, sum);
    to = let a = t.at in omega (arith, a);
    alone = λ none. t.at ∙ alone (ap (λ s. others plan.tasks (controller_of plan s)) (sym t.session) ∙ none);
  }

  asked_session : (s polls n : ℕ) (e : DrainView) → IsAsked plan new s polls n e → e.session ≡ s
  asked_session s polls n e (inl w) = w.session
  asked_session s polls n e (inr t) = t.session

  -- the drain has followed one more
  gone_by : (closing : Option ℕ) (d e : DrainView) → StandsBy plan old closing done d → Went plan new closed (done + 1) d e → StandsBy plan new (count_after closing (is_opened d.session closed) (done + 1)) (done + 1) e × (e.session ≡ d.session)
  gone_by None d e is went = elim (subst (λ (t : Stage). WentAt t plan new closed (done + 1) d e) (ap (λ (d : DrainView). d.stage) is) went) [
    | inl w ↦ (subst (λ b. StandsBy plan new (if b then Some (done + 1) else None) (done + 1) e) (sym w.0) (w.1 ∙ is ∙ ap (λ (d : DrainView). unused plan d.session) (sym w.1)), ap (λ (d : DrainView). d.session) w.1)
    | inr w ↦ (
      subst (λ b. StandsBy plan new (if b then Some (done + 1) else None) (done + 1) e) (sym w.0) (asked_by d e 0 (done + 1) w.1 (omega arith) (omega arith) (omega arith) (λ none. refl)),
      asked_session d.session 0 (done + 1) e w.1,
    )
  ]
  gone_by (Some k) d e (inl t) went = let same : e ≡ d = subst (λ (t : Stage). WentAt t plan new closed (done + 1) d e) t.stage went in (
    subst (λ (d : DrainView). StandsBy plan new (Some k) (done + 1) d) (sym same) (inl record {
      stage = t.stage;
      known = known_later old new d.session (places_under plan d.session) d.sets known t.known;
      polls = t.polls;
      to = let a = t.to in omega (arith, a);
      alone = t.alone;
    }),
    ap (λ (d : DrainView). d.session) same,
  )
  gone_by (Some k) d e (inr w) went = let asked : IsAsked plan new d.session d.polls (done + 1) e = subst (λ (t : Stage). WentAt t plan new closed (done + 1) d e) w.stage went in (
    asked_by d e d.polls k asked (let a = w.polls in omega (arith, a)) w.some (let a = w.within in omega (arith, a)) (λ none. absurd (waited plan old d w.entry w.tie w.last none)),
    asked_session d.session d.polls (done + 1) e asked,
  )

  pub stands_on : (closing : Option ℕ) (d e : DrainView) → new.bears ≡ old.bears → Stands plan old closing done d → Went plan new closed (done + 1) d e →
      Stands plan new (count_after closing (is_opened d.session closed) (done + 1)) (done + 1) e × (e.session ≡ d.session)
  stands_on closing d e bears r went = let g = gone_by closing d e r.by went in (record { own = subst (IsOwn plan new) (sym g.1) (own_later plan old new d.session bears r.own); by = g.0 }, g.1)

-- the closing count with one call more

abbrev one_more : Option ℕ → Option ℕ
one_more o = option_map (λ n. n + 1) o

more_first : (b : Bool) (r : Option ℕ) (x : Bool) (n : ℕ) → (if b then Some 1 else one_more (count_after r x n)) ≡ count_after (if b then Some 1 else one_more r) x (n + 1)
more_first true r x n = refl
more_first false None true n = refl
more_first false None false n = refl
more_first false (Some k) x n = refl

more_of : (k : Option ℕ) (ks : List (Option ℕ)) → length (k ∷ ks) + 1 ≡ length ks + 1 + 1
more_of k ks = omega arith

none_first : (b : Bool) → (if b then Some 1 else one_more None) ≡ count_after None b 1
none_first true = refl
none_first false = refl

pub closing_count-more : (c : ControlView) (calls : List (Option ℕ)) (call : Option ℕ) (s : ℕ) →
    closing_count c (calls ++ call ∷ []) s ≡ count_after (closing_count c calls s) (closes (control_by c calls) call s) (length calls + 1)
closing_count-more c [] call s = none_first (closes c call s)
closing_count-more c (k ∷ ks) call s =
    ap (λ (o : Option ℕ). if closes c k s then Some 1 else one_more o) (closing_count-more (control_after c k) ks call s)
    ∙ (more_first (closes c k s) (closing_count (control_after c k) ks s) (closes (control_by (control_after c k) ks) call s) (length ks + 1)
    ∙ ap (count_after (closing_count c (k ∷ ks) s) (closes (control_by c (k ∷ ks)) call s)) (sym (more_of k ks)))
