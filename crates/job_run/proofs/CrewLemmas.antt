-- The slots of a phase's tasks, step by step.
use Rattle.std.proofs.Common.{◌≡◌, ℕ, ◌<◌, Bool, true, false, Option, Some, None, List, length, get_or, refl, sym, ◌∙◌, ap, subst, arith}
use Rattle.std.proofs.lemmas.Bool.{false_from_ne_true}
use Rattle.std.proofs.lemmas.Option.{same_Some}
use Rattle.job_run.specs.Crews.{PhaseView, IsTaskOf, is_its, EachAt, Each, Own, AreReady, GetsPass, CanGo, HasGone, GoesWith, Goes, IsBack}
use Rattle.job_run.specs.declared.outcome.Done.{Done}
use Rattle.job_run.specs.declared.slots.Slot.{Slot}

module _ {P E : Type 0} (fresh run : ℕ → P → Type 0) (can : ℕ → Done → Option E → Type 0) (ends : ℕ → Done → Done → Option E → P → Type 0) (p : PhaseView) where
  -- passes were split off

  none_of : (t : ℕ) (old mid : Slot P E) → old.pass ≡ None → Own p (GetsPass fresh) t old mid → is_its p t ≡ false → mid.pass ≡ None
  none_of t old mid none s e = ap (λ (x : Slot P E). x.pass) (s.other e) ∙ none

  pub others_none : (old mid : List (Slot P E)) → AreReady can p old → Each (Own p (GetsPass fresh)) old mid → EachAt (λ t s. is_its p t ≡ false → s.pass ≡ None) mid
  others_none old mid r s t d l e =
      let here : t < length old = omega (arith, l, s.count) in none_of t (get_or old t d) (get_or mid t d) (r.empty t d here) (s.each t d here) e

  can_go : (t : ℕ) (old mid : Slot P E) → old.pass ≡ None → (IsTaskOf p t → can t old.done old.extra) → t < length p.job.tasks → Own p (GetsPass fresh) t old mid → (b : Bool) → is_its p t ≡ b → CanGo fresh can p t mid
  can_go t old mid none ready l s true e =
      let g = s.its e in
      let its : IsTaskOf p t = record { exists = l; its = e } in
      subst (CanGo fresh can p t) (sym g.is) (record { task = its; fresh = g.fresh; can = ready its })
  can_go t old mid none ready l s false e = let n = none_of t old mid none s e in record { task = rw n tt; fresh = rw n tt; can = rw n tt }

  pub can_all : (old mid : List (Slot P E)) → AreReady can p old → Each (Own p (GetsPass fresh)) old mid → EachAt (CanGo fresh can p) mid
  can_all old mid r s t d l =
      let here : t < length old = omega (arith, l, s.count) in
      can_go t (get_or old t d) (get_or mid t d) (r.empty t d here) (r.can t d) (omega (arith, here, r.count)) (s.each t d here) (is_its p t) refl

  -- tasks have run

  pub stands_still : (t : ℕ) (s : Slot P E) → s.pass ≡ None → Goes run ends t s s
  stands_still t s none = subst (λ (o : Option P). GoesWith run ends t s s o) (sym none) refl

  has_gone : (t : ℕ) (old mid new : Slot P E) → old.pass ≡ None → Own p (GetsPass fresh) t old mid → Goes run ends t mid new → Own p (HasGone run ends) t old new
  has_gone t old mid new none s g = record {
    its = λ e.
        let got = s.its e in
        let has : mid.pass ≡ Some got.pass = ap (λ (x : Slot P E). x.pass) got.is in
        let gone : HasGone run ends t mid new = subst (λ (o : Option P). GoesWith run ends t mid new o) has g in
        let done : mid.done ≡ old.done = ap (λ (x : Slot P E). x.done) got.is in
        record { pass = gone.pass; has = gone.has; run = gone.run; ends = subst (λ (d : Done). ends t d new.done new.extra gone.pass) done gone.ends };
    other = λ e.
        let same : new ≡ mid = subst (λ (o : Option P). GoesWith run ends t mid new o) (none_of t old mid none s e) g in
        same ∙ s.other e;
  }

  pub all_gone : (old mid new : List (Slot P E)) → AreReady can p old → Each (Own p (GetsPass fresh)) old mid → Each (Goes run ends) mid new → Each (Own p (HasGone run ends)) old new
  all_gone old mid new r s g = record {
    count = g.count ∙ s.count;
    each = λ t d l. has_gone t (get_or old t d) (get_or mid t d) (get_or new t d) (r.empty t d l) (s.each t d l) (g.each t d (omega (arith, l, s.count)));
  }

  -- passes are taken back

  -- what is taken of a slot is the pass that its task, one of the phase's, has run with
  pub record IsTaken (t : ℕ) (old mid : Slot P E) (pass : P) : Type 0 where
    pub its : is_its p t ≡ true
    pub seen : run t pass
    pub told : ends t old.done mid.done mid.extra pass

  pub is_taken : (t : ℕ) (old mid : Slot P E) (pass : P) → old.pass ≡ None → Own p (HasGone run ends) t old mid → mid.pass ≡ Some pass → IsTaken t old mid pass
  is_taken t old mid pass none g h = by_phase (is_its p t) refl
    where
      by_phase : (b : Bool) → is_its p t ≡ b → IsTaken t old mid pass
      by_phase true e =
          let gone = g.its e in
          let same : gone.pass ≡ pass = same_Some gone.pass pass (sym gone.has ∙ h) in
          record { its = e; seen = subst (run t) same gone.run; told = subst (ends t old.done mid.done mid.extra) same gone.ends }
      by_phase false e = let never : None ≡ Some pass = sym (ap (λ (x : Slot P E). x.pass) (g.other e) ∙ none) ∙ h in absurd cc

  pub is_back : (known : P → Type 0) (t : ℕ) (old mid : Slot P E) (pass : P) → IsTaken t old mid pass → known pass → Own p (IsBack ends known) t old (record mid { pass = None })
  is_back known t old mid pass taken knows = record {
    its = λ e. record { pass = pass; ends = taken.told; known = knows; none = refl };
    other = λ e. let i = taken.its in let never : true ≡ false = sym i ∙ e in absurd cc;
  }

  -- where there is none the task is none of the phase
  pub not_its : (t : ℕ) (old mid : Slot P E) → Own p (HasGone run ends) t old mid → mid.pass ≡ None → is_its p t ≡ false
  not_its t old mid g h = false_from_ne_true (is_its p t) (λ e. let gone = g.its e in let never : None ≡ Some gone.pass = sym h ∙ gone.has in absurd cc)

  pub stays_out : (known : P → Type 0) (t : ℕ) (old mid : Slot P E) → Own p (HasGone run ends) t old mid → mid.pass ≡ None → Own p (IsBack ends known) t old (record mid { pass = None })
  stays_out known t old mid g h = record {
    its = λ e. let gone = g.its e in let never : None ≡ Some gone.pass = sym h ∙ gone.has in absurd cc;
    other = λ e. without mid h ∙ g.other e;
  }
    where
      without : (s : Slot P E) → s.pass ≡ None → record s { pass = None } ≡ s
      without s e = λ i. record s { pass = sym e i }

  -- what one root knows another does too
  pub still_known : (known known' : P → Type 0) → ((q : P) → known q → known' q) → (t : ℕ) (x y : Slot P E) → Own p (IsBack ends known) t x y → Own p (IsBack ends known') t x y
  still_known known known' still t x y b = record {
    its = λ e. let k = b.its e in record { pass = k.pass; ends = k.ends; known = still k.pass k.known; none = k.none };
    other = b.other;
  }
