-- The parties of a core, what its tasks have in hand, and what one task's event has to keep of the rule.
use Rattle.std.proofs.Common.{◌≡◌, ◌≢◌, ℕ, zero, suc, ◌+◌, ◌*◌, ◌<◌, ◌≤◌, Bool, true, nat_eq, if◌then◌else◌, Option, Some, None, List, [], ◌∷◌, length, get_or, set, refl, sym, ◌∙◌, ap, subst, arith, ne_eqb, eq-eqb}
use mathlib.Core.Option.{some, some-injective}
use lib.ListN.{get_elem?}
use Rattle.std.proofs.lemmas.Grind.{get_or-set_at}
use Rattle.std.proofs.lemmas.List.{length-set}
use Rattle.cov_base.specs.Meaning.{FactSet, with_fact, is_full}
use Rattle.cov_base.specs.declared.facts.Fact.{Fact}
use Rattle.module_area.specs.Meaning.{word_at, tag_session, PlanView, kind_at, is_over}
use Rattle.module_area.specs.Rule.{planted, Held, is_breakpoint, fetching}
use Rattle.module_area.specs.declared.cells.Cell.{Cell}
use Rattle.module_area.specs.declared.parties.Role.TheVariants.{Root, Task}
use Rattle.module_area.specs.declared.parties.View.{View}
use Rattle.session_book.specs.Meaning.{no_task}
use Rattle.interleave_core.specs.Meaning.{World, TaskPart, Parts, part_of, plan_in, first_part, in_hand, set_of, fact_in}
use Rattle.interleave_core.specs.CoreState.{CoreState, log_after, Entry, Item, Met, Gave, with_mark, with_lift, task_view, task_views}
use Rattle.interleave_core.specs.declared.events.Shown.{Shown}
use Rattle.interleave_core.specs.declared.stage.Hand.{Hand}
use Rattle.interleave_core.specs.declared.stage.Due.{Due}
use Rattle.interleave_core.specs.declared.stage.Due.TheVariants.{Marking, Lifting, Nothing}
use Rattle.interleave_core.specs.declared.stage.Stage.{Stage}
use Rattle.interleave_core.specs.declared.stage.Stage.TheVariants.{Holding}
use Rattle.interleave_core.proofs.Runs.{in_hand-stage, same_due-true, session_of_window}
use Rattle.interleave_core.proofs.Logs.{one_log}

-- ---- the parties

note_role : (plan : PlanView) (e : Entry) (l : Option Bool) (f : Option FactSet) (k : Option Fact) (v : View) → (with_lift e l (with_mark plan e f k (fetching plan e.place e.cell v))).role ≡ v.role
note_role plan e None None k v = refl
note_role plan e None (Some f) None v = refl
note_role plan e None (Some f) (Some k) v = refl
note_role plan e (Some b) None k v = refl
note_role plan e (Some b) (Some f) None v = refl
note_role plan e (Some b) (Some f) (Some k) v = refl

pub task_role : (w : World) (t : ℕ) (log : List Item) → (task_view w t log).role ≡ Task t
task_role w t [] = refl
task_role w t (Met e ∷ log) = note_role (plan_in w) e e.lifted e.found e.fact (task_view w t log) ∙ task_role w t log
task_role w t (Gave p tag ∷ log) = task_role w t log

pub view_at : (w : World) (logs : ℕ → List Item) (t n k m : ℕ) → t + k ≡ m → k < n → get_elem? (task_views w logs t n) k ≡ some (task_view w m (logs m))
view_at w logs t zero k m e lt = absurd (omega (arith, lt))
view_at w logs t (suc n) zero m e lt = let same : t ≡ m = omega (arith, e) in ap (λ (x : ℕ). some (task_view w x (logs x))) same
view_at w logs t (suc n) (suc k) m e lt = view_at w logs (t + 1) n k m (omega (arith, e)) (omega (arith, lt))

both_are : (x y : View) (xs ys : List View) → x ≡ y → xs ≡ ys → x ∷ xs ≡ y ∷ ys
both_are x y xs ys h k = ap (λ (z : View). z ∷ xs) h ∙ ap (λ (zs : List View). y ∷ zs) k

pub views_same : (w : World) (logs more : ℕ → List Item) (t n : ℕ) → ((s : ℕ) → t ≤ s → more s ≡ logs s) → task_views w logs t n ≡ task_views w more t n
views_same w logs more t zero h = refl
views_same w logs more t (suc n) h = both_are _ _ _ _ (ap (task_view w t) (sym (h t (omega arith)))) (views_same w logs more (t + 1) n (λ s l. h s (omega (arith, l))))

pub views_set : (w : World) (logs more : ℕ → List Item) (t n k m : ℕ) (x : View) → t + k ≡ m → k < n → x ≡ task_view w m (more m) → ((s : ℕ) → s ≢ m → more s ≡ logs s) → set (task_views w logs t n) k x ≡ task_views w more t n
views_set w logs more t zero k m x e lt is other = absurd (omega (arith, lt))
views_set w logs more t (suc n) zero m x e lt is other =
    let same : m ≡ t = omega (arith, e) in
    both_are _ _ _ _ (is ∙ ap (λ (y : ℕ). task_view w y (more y)) same) (views_same w logs more (t + 1) n (λ s l. other s (λ h. omega (arith, h, l, same))))
views_set w logs more t (suc n) (suc k) m x e lt is other =
    both_are _ _ _ _ (ap (task_view w t) (sym (other t (λ h. omega (arith, h, e))))) (views_set w logs more (t + 1) n k m x (omega (arith, e)) (omega (arith, lt)) is other)

pub set_same : (l : List View) (i : ℕ) (v : View) → get_elem? l i ≡ some v → set l i v ≡ l
set_same [] i v h = refl
set_same (x ∷ xs) zero v h = ap (λ (y : View). y ∷ xs) (sym (some-injective x v h))
set_same (x ∷ xs) (suc i) v h = ap (λ (ys : List View). x ∷ ys) (set_same xs i v h)

-- ---- cells in hand

pub record HasBreakpoint (w : World) (h : Hand) : Type 0 where
  pub session : ℕ
  pub some_session : 0 < session
  pub inside : h.place.0 < length w.places
  pub over : is_over (plan_in w) session h.place.0 ≡ true
  pub cell : h.cell ≡ planted session

-- a begun execution whose fetch answered the breakpoint is marked
abbrev pub IsMarked : Entry → Type 0
IsMarked e = (f : Fact) → is_breakpoint e.cell ≡ true → e.fact ≡ Some f → (found : FactSet) × (e.found ≡ Some found)

abbrev pub AreMarked : List Item → Type 0
AreMarked [] = Unit {0}
AreMarked (Met e ∷ log) = IsMarked e × AreMarked log
AreMarked (Gave p tag ∷ log) = AreMarked log

abbrev pub entry_in : World → ℕ → TaskPart → Hand → Option FactSet → Entry
entry_in w t u h found = record { place = h.place.0; cell = h.cell; fact = Some (fact_in w t u h); found = found; lifted = None }

abbrev pub InHand : World → ℕ → TaskPart → List Item → Hand → Due → Type 0
InHand w t u log h Marking = (rest : List Item) × (log ≡ Met (entry_in w t u h None) ∷ rest) × AreMarked rest × HasBreakpoint w h
InHand w t u log h Lifting = (rest : List Item) × (found : FactSet) × (log ≡ Met (entry_in w t u h (Some found)) ∷ rest) × (is_full (kind_at (plan_in w) h.place.0) (with_fact found (fact_in w t u h)) ≡ true) × AreMarked rest × HasBreakpoint w h
InHand w t u log h Nothing = AreMarked log

abbrev pub InStage : World → ℕ → TaskPart → List Item → Stage → Type 0
InStage w t u log (Holding h) = InHand w t u log h h.due
InStage w t u log stage = AreMarked log

pub held_hand : (w : World) (t : ℕ) (u : TaskPart) (log : List Item) (stage : Stage) (due : Due) (h : Hand) → InStage w t u log stage → in_hand due stage ≡ Some h → InHand w t u log h due
held_hand w t u log stage due h is e =
    let at = in_hand-stage due stage h e in
    subst (λ (d : Due). InHand w t u log h d) (same_due-true h.due due at.1) (subst (λ (s : Stage). InStage w t u log s) at.0 is)

pub hand_of : (w : World) (h : Hand) (b : HasBreakpoint w h) → tag_session h.cell.tag ≡ b.session
hand_of w h b = ap (λ (c : Cell). tag_session c.tag) b.cell ∙ session_of_window b.session b.some_session

-- ---- the rule, and what the events need besides

pub record Ruled (w : World) (c : CoreState) (v : View) : Type 0 where
  pub count : length c.parts.tasks ≡ length w.job.tasks
  pub sets : length c.parts.sets ≡ length w.job.sessions * length w.places
  pub cells : length c.parts.cells ≡ length w.places
  pub role : v.role ≡ Root
  pub held : Held (plan_in w) (λ p. word_at c.parts.cells p) (λ s p. set_of w c.parts s p) (v ∷ task_views w c.logs 0 (length w.job.tasks))
  pub hands : (t : ℕ) → t < length c.parts.tasks → InStage w t (part_of c.parts t) (c.logs t) (part_of c.parts t).stage

abbrev pub logs_after : World → CoreState → Parts → ℕ → Shown → ℕ → List Item
logs_after w c d t shown s = if nat_eq t s then log_after w s (part_of d s) shown (c.logs s) else c.logs s

own_log : (w : World) (c : CoreState) (d : Parts) (t : ℕ) (u : TaskPart) (shown : Shown) → d.tasks ≡ set c.parts.tasks t u → t < length c.parts.tasks → log_after w t u shown (c.logs t) ≡ logs_after w c d t shown t
own_log w c d t u shown e lt =
    let part : part_of d t ≡ u = ap (λ (x : List TaskPart). get_or x t (first_part no_task)) e ∙ get_or-set_at c.parts.tasks t t u (first_part no_task) refl lt in
    ap (λ (x : TaskPart). log_after w t x shown (c.logs t)) (sym part) ∙ ap (λ (b : Bool). if b then log_after w t (part_of d t) shown (c.logs t) else c.logs t) (sym (eq-eqb t t refl))

other_log : (w : World) (c : CoreState) (d : Parts) (t : ℕ) (shown : Shown) (s : ℕ) → s ≢ t → logs_after w c d t shown s ≡ c.logs s
other_log w c d t shown s h = ap (λ (b : Bool). if b then log_after w s (part_of d s) shown (c.logs s) else c.logs s) (ne_eqb t s (λ e. h (sym e)))

-- one task's event, by its view after it
pub after_task : (w : World) (c : CoreState) (v : View) (d : Parts) (t : ℕ) (u : TaskPart) (shown : Shown) (x : View) → Ruled w c v → t < length c.parts.tasks → d.tasks ≡ set c.parts.tasks t u → length d.cells ≡ length w.places →
    length d.sets ≡ length w.job.sessions * length w.places → Held (plan_in w) (λ p. word_at d.cells p) (λ s p. set_of w d s p) (set (v ∷ task_views w c.logs 0 (length w.job.tasks)) (suc t) x) →
    x ≡ task_view w t (log_after w t u shown (c.logs t)) → InStage w t u (log_after w t u shown (c.logs t)) u.stage → Ruled w (record { parts = d; logs = logs_after w c d t shown }) v
after_task w c v d t u shown x is lt tasks cells sets held view stage =
    let there : t < length w.job.tasks = subst (λ (n : ℕ). t < n) is.count lt in
    let views : set (task_views w c.logs 0 (length w.job.tasks)) t x ≡ task_views w (logs_after w c d t shown) 0 (length w.job.tasks) =
    views_set w c.logs (logs_after w c d t shown) 0 (length w.job.tasks) t t x (omega arith) there (view ∙ ap (task_view w t) (own_log w c d t u shown tasks lt)) (other_log w c d t shown) in
    record {
      count = ap (λ (ts : List TaskPart). length ts) tasks ∙ (length-set c.parts.tasks t u ∙ is.count);
      sets = sets;
      cells = cells;
      role = is.role;
      held = subst (λ (vs : List View). Held (plan_in w) (λ p. word_at d.cells p) (λ s p. set_of w d s p) (v ∷ vs)) views held;
      hands = one_log w (λ n y log. InStage w n y log y.stage) c d t u shown tasks lt stage is.hands;
    }
