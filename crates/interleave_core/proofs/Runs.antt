-- Runs of the core, event by event, and what a possible event was made of.
use Rattle.std.proofs.Common.{◌≡◌, ℕ, zero, suc, ◌<◌, Bool, true, false, if◌then◌else◌, Option, Some, None, option_map, List, [], ◌∷◌, ◌++◌, get_or, replicate, refl, sym, ◌∙◌, ap, subst, arith}
use Rattle.std.proofs.lemmas.Option.{same_Some}
use Rattle.std.specs.Option.{option_and_then}
use Rattle.cov_base.specs.Meaning.{no_facts}
use Rattle.module_area.specs.Meaning.{tag_session}
use Rattle.module_area.specs.Rule.{window_tag}
use Rattle.module_area.specs.declared.cells.Cell.{Cell}
use Rattle.interleave_core.specs.Meaning.{World, Parts, Stepped, parts_step, run_on, in_hand, same_due, with_cell}
use Rattle.interleave_core.specs.CoreState.{CoreState, CoreStepped, core_step, core_from, go_on}
use Rattle.interleave_core.specs.declared.events.Event.{Event}
use Rattle.interleave_core.specs.declared.stage.Due.{Due}
use Rattle.interleave_core.specs.declared.stage.Due.TheVariants.{Marking, Lifting, Nothing}
use Rattle.interleave_core.specs.declared.stage.Hand.{Hand}
use Rattle.interleave_core.specs.declared.stage.Stage.{Stage}
use Rattle.interleave_core.specs.declared.stage.Stage.TheVariants.{Ready, Awaiting, Holding, Ended}

-- sets of which none has a fact
pub no_set_at : (n i : ℕ) → get_or (replicate n no_facts) i no_facts ≡ no_facts
no_set_at zero i = refl
no_set_at (suc n) zero = refl
no_set_at (suc n) (suc i) = no_set_at n i

pub same_due-true : (a b : Due) → same_due a b ≡ true → a ≡ b
same_due-true Marking Marking h = refl
same_due-true Lifting Lifting h = refl
same_due-true Nothing Nothing h = refl
same_due-true Marking Lifting h = absurd cc
same_due-true Marking Nothing h = absurd cc
same_due-true Lifting Marking h = absurd cc
same_due-true Lifting Nothing h = absurd cc
same_due-true Nothing Marking h = absurd cc
same_due-true Nothing Lifting h = absurd cc

-- the session of a window's tag
pub session_of_window : (s : ℕ) → 0 < s → tag_session (window_tag s) ≡ s
session_of_window s h = omega arith

pub got : (A : Type 0) (f : A → Stepped) (o : Option A) (x : Stepped) → option_map f o ≡ Some x → (a : A) × (o ≡ Some a) × (x ≡ f a)
got A f None x h = let n : None ≡ Some x = h in absurd cc
got A f (Some a) x h = (a, refl, sym (same_Some (f a) x h))

pub lifted_tasks : (b : Bool) (P : Parts) (p : ℕ) (x : Cell) → (if b then with_cell P p x else P).tasks ≡ P.tasks
lifted_tasks true P p x = refl
lifted_tasks false P p x = refl

pub exists_by : {A : Type 0} (b : Bool) (o : Option A) (x : A) → (if b then o else None) ≡ Some x → (b ≡ true) × (o ≡ Some x)
exists_by true o x h = (refl, h)
exists_by false o x h = let n : None ≡ Some x = h in absurd cc

-- a hand of which something is due
pub in_hand-stage : (due : Due) (stage : Stage) (h : Hand) → in_hand due stage ≡ Some h → (stage ≡ Holding h) × (same_due h.due due ≡ true)
in_hand-stage due Ready h e = let n : None ≡ Some h = e in absurd cc
in_hand-stage due Awaiting h e = let n : None ≡ Some h = e in absurd cc
in_hand-stage due (Ended x) h e = let n : None ≡ Some h = e in absurd cc
in_hand-stage due (Holding g) h e = by (same_due g.due due) refl e
  where
    by : (b : Bool) → same_due g.due due ≡ b → (if b then Some g else None) ≡ Some h → (Holding g ≡ Holding h) × (same_due h.due due ≡ true)
    by true s k = let f : Some g ≡ Some h = k in let same : g ≡ h = cc in (ap Holding same, subst (λ (x : Hand). same_due x.due due ≡ true) same s)
    by false s k = let n : None ≡ Some h = k in absurd cc

pub through : (more : CoreState → Option CoreState) (x : Option CoreStepped) (c : CoreState) → go_on more x ≡ Some c → (y : CoreStepped) × (x ≡ Some y) × (more y.core ≡ Some c)
through more None c h = let n : None ≡ Some c = h in absurd cc
through more (Some y) c h = (y, refl, h)

-- one event more
pub core_from-push : (w : World) (d c : CoreState) (events : List Event) (e : Event) (x : CoreStepped) → core_from w d events ≡ Some c → core_step w c e ≡ Some x →
    core_from w d (events ++ e ∷ []) ≡ Some x.core
core_from-push w d c [] e x h step =
    let same : d ≡ c = same_Some d c h in
    ap (go_on (λ b. core_from w b [])) (ap (λ (b : CoreState). core_step w b e) same ∙ step)
core_from-push w d c (f ∷ events) e x h step =
    let at = through (λ b. core_from w b events) (core_step w d f) c h in
    ap (go_on (λ b. core_from w b (events ++ e ∷ []))) at.1 ∙ core_from-push w at.0.core c events e x at.2 step

-- the events before a point, and those behind it
pub core_from-append : (w : World) (c d : CoreState) (xs ys : List Event) → core_from w c xs ≡ Some d → core_from w c (xs ++ ys) ≡ core_from w d ys
core_from-append w c d [] ys h = ap (λ (b : CoreState). core_from w b ys) (same_Some c d h)
core_from-append w c d (e ∷ xs) ys h =
    let at = through (λ b. core_from w b xs) (core_step w c e) d h in
    ap (go_on (λ b. core_from w b (xs ++ ys))) at.1 ∙ core_from-append w at.0.core d xs ys at.2

pub run_on-append : (w : World) (c d : Parts) (xs ys : List Event) → run_on w c xs ≡ Some d → run_on w c (xs ++ ys) ≡ run_on w d ys
run_on-append w c d [] ys h = ap (λ (b : Parts). run_on w b ys) (same_Some c d h)
run_on-append w c d (e ∷ xs) ys h = by (λ b q. run_on-append w b d xs ys q) (parts_step w c e) h
  where
    by : ((b : Parts) → run_on w b xs ≡ Some d → run_on w b (xs ++ ys) ≡ run_on w d ys) → (o : Option Stepped) →
        option_and_then (λ (x : Stepped). run_on w x.parts xs) o ≡ Some d → option_and_then (λ (x : Stepped). run_on w x.parts (xs ++ ys)) o ≡ run_on w d ys
    by more None q = let n : None ≡ Some d = q in absurd cc
    by more (Some x) q = more x.parts q
