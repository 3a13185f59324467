-- The sets are exact once all tasks have ended.
use Rattle.std.proofs.Common.{◌≡◌, ◌↔◌, ◌⊎◌, inl, inr, ℕ, zero, suc, ◌+◌, ◌*◌, ◌%◌, ◌<◌, Bool, true, false, nat_lt, if◌then◌else◌, Option, Some, None, is_none, List, [], ◌∷◌, length, set, refl, sym, ◌∙◌, ap, subst, arith, eq-eqb, option_map}
use Rattle.std.proofs.lemmas.Option.{same_Some}
use Rattle.std.proofs.lemmas.Bool.{and_from, ltb-true}
use mathlib.Core.Option.{some, some-injective, some-ne-none}
use lib.ListN.{get_elem?}
use Rattle.cov_base.specs.Meaning.{FactSet, has_fact, with_fact, is_full, fact_of}
use Rattle.cov_base.specs.FactKind.{is_of_kind}
use Rattle.cov_base.specs.declared.facts.Fact.{Fact}
use Rattle.cov_base.specs.declared.facts.Kind.{Kind}
use Rattle.cov_base.proofs.Laws.{is_of_kind-fact_of, has_fact-full_of, is_full-true}
use Rattle.s370_state.specs.declared.endings.Ending.{Ending}
use Rattle.module_area.specs.Rule.{planted, IsForm, Has, window_tag, is_breakpoint, is_lifted, fetching, planting}
use Rattle.module_area.specs.Meaning.{tag_session, word_at, PlanView, original_at, kind_at}
use Rattle.module_area.specs.declared.cells.Cell.{Cell}
use Rattle.module_area.specs.declared.parties.View.{View}
use Rattle.module_area.proofs.Laws.{here-add_if, more-add_if}
use Rattle.interleave_core.specs.Meaning.{World, TaskPart, Parts, part_of, plan_in, Stepped, parts_step, cell_fetched, fact_marked, lifted, done_by, with_due, with_stage, original_under, same_cell, in_hand, hand_at, step_of, place_due, is_awaiting, task_done, set_of, fact_in, controller_of}
use Rattle.interleave_core.specs.World.{IsWorld}
use Rattle.s370_exec.specs.Meaning.{visit_of}
use Rattle.interleave_core.specs.CoreState.{CoreState, core_start, core_step, core_after, core_from, core_run, log_after, entry_of, Entry, Item, Met, Gave, with_mark, with_lift, with_notes, task_view, task_views, first_planter, planted_by, planter_from}
use Rattle.interleave_core.specs.MeaningOfEvents.{HaveEnded}
use Rattle.interleave_core.specs.declared.events.Event.{Event}
use Rattle.interleave_core.specs.declared.events.Event.TheVariants.{Fetch, Mark, Lift, Do, Plant, Close}
use Rattle.interleave_core.specs.declared.events.Shown.TheVariants.{Fetched, Marked, Lifted, Done}
use Rattle.interleave_core.specs.declared.stage.Hand.{Hand}
use Rattle.interleave_core.specs.declared.stage.Due.TheVariants.{Marking, Lifting, Nothing}
use Rattle.interleave_core.specs.declared.stage.Stage.{Stage}
use Rattle.interleave_core.specs.declared.stage.Stage.TheVariants.{Holding, Ended}
use Rattle.interleave_core.specs.Views.{AreTied}
use Rattle.interleave_core.proofs.Changes.{Changed, plant_cases, close_by, logs_whole, logs_plant, logs_close}
use Rattle.interleave_core.proofs.Runs.{got, lifted_tasks, exists_by, through, session_of_window}
use Rattle.interleave_core.proofs.Logs.{one_log, changed_log, got_step}
use Rattle.interleave_core.proofs.Tied.{tied_step, tied_first}
use Rattle.interleave_core.proofs.Rule.{Ruled, HasBreakpoint, IsMarked, AreMarked, entry_in, InStage, held_hand, view_at}
use Rattle.interleave_core.proofs.Ruled.{fetch_due, ruled_step, ruled_first}

-- ---- what a log shows

-- an execution at place p in the window of session s showed the fact
abbrev pub HasShown : ℕ → ℕ → Fact → List Item → Type 0
HasShown s p f [] = ⊥
HasShown s p f (Met e ∷ log) = ((e.place ≡ p) × (e.cell.tag ≡ window_tag s) × (e.fact ≡ Some f)) ⊎ HasShown s p f log
HasShown s p f (Gave q t ∷ log) = HasShown s p f log

abbrev pub AreExact : World → Parts → (ℕ → List Item) → Type 0
AreExact w c logs = HaveEnded c → (s p : ℕ) (f : Fact) → 0 < s → p < length w.places → (has_fact (set_of w c s p) f ≡ true) ↔ ((t : ℕ) × (t < length c.tasks) × HasShown s p f (logs t))

-- ---- what is so of each entry

pub record IsSettled (w : World) (e : Entry) : Type 0 where
  pub inside : e.place < length w.places
  pub form : IsForm (plan_in w) e.place e.cell
  pub kind : (f : Fact) → e.fact ≡ Some f → is_of_kind (kind_at (plan_in w) e.place) f ≡ true
  pub marked : (found : FactSet) → e.found ≡ Some found → (s : ℕ) × (0 < s) × (e.cell ≡ planted s)

abbrev pub AreSettled : World → List Item → Type 0
AreSettled w [] = Unit {0}
AreSettled w (Met e ∷ log) = IsSettled w e × AreSettled w log
AreSettled w (Gave p tag ∷ log) = AreSettled w log

no_set : (A : Type 0) (found : FactSet) → None ≡ Some found → A
no_set A found h = absurd cc

shown_kind : (b : Bool) (k : Kind) (went : Bool) (f : Fact) → (if b then Some (fact_of k went) else None) ≡ Some f → is_of_kind k f ≡ true
shown_kind true k went f h = subst (λ (g : Fact). is_of_kind k g ≡ true) (same_Some (fact_of k went) f h) (is_of_kind-fact_of k went)
shown_kind false k went f h = let n : None ≡ Some f = h in absurd cc

fetch_settled : (w : World) (t : ℕ) (u : TaskPart) (h : Hand) → h.place.0 < length w.places → IsForm (plan_in w) h.place.0 h.cell → IsSettled w (entry_of w t u h)
fetch_settled w t u h lt form = record {
  inside = lt;
  form = form;
  kind = λ f e. shown_kind (visit_of (step_of w t u) h.subject).begun (kind_at (plan_in w) h.place.0) (visit_of (step_of w t u) h.subject).went f e;
  marked = λ found e. no_set _ found e;
}

mark_settled : (w : World) (e : Entry) (found : FactSet) (s : ℕ) → 0 < s → e.cell ≡ planted s → IsSettled w e → IsSettled w (record e { found = Some found })
mark_settled w e found s pos cell is = record { inside = is.inside; form = is.form; kind = is.kind; marked = λ g h. (s, pos, cell) }

lift_settled : (w : World) (e : Entry) (taken : Bool) → IsSettled w e → IsSettled w (record e { lifted = Some taken })
lift_settled w e taken is = record { inside = is.inside; form = is.form; kind = is.kind; marked = is.marked }

-- ---- each event keeps it

pub record Sound (w : World) (c : CoreState) (v : View) : Type 0 where
  pub ruled : Ruled w c v
  pub tied : AreTied w c.parts
  pub quiet : v.marked ≡ []
  pub settled : (t : ℕ) → t < length c.parts.tasks → AreSettled w (c.logs t)

log_marked : (w : World) (t : ℕ) (u : TaskPart) (found : FactSet) (e : Entry) (rest log : List Item) (s : ℕ) → log ≡ Met e ∷ rest → 0 < s → e.cell ≡ planted s → AreSettled w log → AreSettled w (log_after w t u (Marked found) log)
log_marked w t u found e rest log s is pos cell h =
    let both : IsSettled w e × AreSettled w rest = subst (AreSettled w) is h in
    subst (λ (l : List Item). AreSettled w (log_after w t u (Marked found) l)) (sym is) (mark_settled w e found s pos cell both.0, both.1)

log_lifted : (w : World) (t : ℕ) (u : TaskPart) (taken : Bool) (log : List Item) → AreSettled w log → AreSettled w (log_after w t u (Lifted taken) log)
log_lifted w t u taken [] h = h
log_lifted w t u taken (Met e ∷ log) h = (lift_settled w e taken h.0, h.1)
log_lifted w t u taken (Gave p tag ∷ log) h = h

abbrev Settle : World → CoreState → Type 0
Settle w c = (t : ℕ) → t < length c.parts.tasks → AreSettled w (c.logs t)

settled_step : (w : World) (c : CoreState) (v : View) (e : Event) (x : Stepped) → IsWorld w → parts_step w c.parts e ≡ Some x → Sound w c v → Settle w (core_after w c e x).core
settled_step w c v (Fetch t) x world h is =
    let u : TaskPart = part_of c.parts t.0 in
    let at = exists_by (nat_lt t.0 (length c.parts.tasks)) (option_map (cell_fetched w c.parts t.0 u) (place_due w t.0 u u.stage)) x h in
    let lt : t.0 < length c.parts.tasks = ltb-true t.0 (length c.parts.tasks) at.0 in
    let p = got ℕ (cell_fetched w c.parts t.0 u) (place_due w t.0 u u.stage) x at.1 in
    let there : t.0 < length w.job.tasks = subst (λ (n : ℕ). t.0 < n) is.ruled.count lt in
    let due = fetch_due w t.0 u (c.logs t.0) u.stage p.0 world there (is.ruled.hands t.0 lt) p.1 in
    let hand : Hand = hand_at w c.parts (is_awaiting u.stage) p.0 in
    subst (λ (y : Stepped). Settle w (core_after w c (Fetch t) y).core) (sym p.2)
    (one_log w (λ n y log. AreSettled w log) c (cell_fetched w c.parts t.0 u p.0).parts t.0 (with_stage u (Holding hand)) (Fetched (word_at c.parts.cells p.0)) refl lt
    (fetch_settled w t.0 (with_stage u (Holding hand)) hand due.0 (is.ruled.held.site p.0 due.0).form, is.settled t.0 lt) is.settled)
settled_step w c v (Mark t) x world h is =
    let u : TaskPart = part_of c.parts t.0 in
    let at = exists_by (nat_lt t.0 (length c.parts.tasks)) (option_map (fact_marked w c.parts t.0 u) (in_hand Marking u.stage)) x h in
    let lt : t.0 < length c.parts.tasks = ltb-true t.0 (length c.parts.tasks) at.0 in
    let p = got Hand (fact_marked w c.parts t.0 u) (in_hand Marking u.stage) x at.1 in
    let hand = held_hand w t.0 u (c.logs t.0) u.stage Marking p.0 (is.ruled.hands t.0 lt) p.1 in
    let b : HasBreakpoint w p.0 = hand.3 in
    let found : FactSet = set_of w c.parts (tag_session p.0.cell.tag) p.0.place.0 in
    let u2 : TaskPart = with_due u p.0 (if is_full (kind_at (plan_in w) p.0.place.0) (with_fact found (fact_in w t.0 u p.0)) then Lifting else Nothing) in
    subst (λ (y : Stepped). Settle w (core_after w c (Mark t) y).core) (sym p.2)
    (one_log w (λ n y log. AreSettled w log) c (fact_marked w c.parts t.0 u p.0).parts t.0 u2 (Marked found) refl lt
    (log_marked w t.0 u2 found (entry_in w t.0 u p.0 None) hand.0 (c.logs t.0) b.session hand.1 b.some_session b.cell (is.settled t.0 lt)) is.settled)
settled_step w c v (Lift t) x world h is =
    let u : TaskPart = part_of c.parts t.0 in
    let at = exists_by (nat_lt t.0 (length c.parts.tasks)) (option_map (lifted w c.parts t.0 u) (in_hand Lifting u.stage)) x h in
    let lt : t.0 < length c.parts.tasks = ltb-true t.0 (length c.parts.tasks) at.0 in
    let p = got Hand (lifted w c.parts t.0 u) (in_hand Lifting u.stage) x at.1 in
    let taken : Bool = same_cell (word_at c.parts.cells p.0.place.0) p.0.cell in
    let tasks : (lifted w c.parts t.0 u p.0).parts.tasks ≡ set c.parts.tasks t.0 (with_due u p.0 Nothing) = ap (λ (ts : List TaskPart). set ts t.0 (with_due u p.0 Nothing)) (lifted_tasks taken c.parts p.0.place.0 (original_under w p.0.place.0 p.0.cell)) in
    subst (λ (y : Stepped). Settle w (core_after w c (Lift t) y).core) (sym p.2)
    (one_log w (λ n y log. AreSettled w log) c (lifted w c.parts t.0 u p.0).parts t.0 (with_due u p.0 Nothing) (Lifted taken) tasks lt (log_lifted w t.0 (with_due u p.0 Nothing) taken (c.logs t.0) (is.settled t.0 lt)) is.settled)
settled_step w c v (Do t) x world h is =
    let u : TaskPart = part_of c.parts t.0 in
    let at = exists_by (nat_lt t.0 (length c.parts.tasks)) (option_map (done_by c.parts t.0) (task_done w t.0 u u.stage)) x h in
    let lt : t.0 < length c.parts.tasks = ltb-true t.0 (length c.parts.tasks) at.0 in
    let n = got TaskPart (done_by c.parts t.0) (task_done w t.0 u u.stage) x at.1 in
    subst (λ (y : Stepped). Settle w (core_after w c (Do t) y).core) (sym n.2)
    (one_log w (λ m y log. AreSettled w log) c (done_by c.parts t.0 n.0).parts t.0 n.0 Done refl lt (is.settled t.0 lt) is.settled)
settled_step w c v (Plant s p) x world h is = elim (plant_cases w c.parts s.0 p.0 x h) [
  | inl whole ↦
      subst (λ (ts : List TaskPart). (t : ℕ) → t < length ts → AreSettled w ((core_after w c (Plant s p) x).core.logs t)) (ap (λ (y : Stepped). y.parts.tasks) (sym whole.made))
      (λ t l. subst (AreSettled w) (sym (logs_whole w c s p x whole t)) (is.settled t l))
  | inr by ↦ changed_log w (λ n y log. AreSettled w log) c false s.0 p.0 (window_tag s.0) x (core_after w c (Plant s p) x).core.logs by (logs_plant w c s p x by) (is.settled by.task by.there) is.settled
]
settled_step w c v (Close s p) x world h is =
    let by : Changed w c.parts true s.0 p.0 x = close_by w c.parts s.0 p.0 x h in
    changed_log w (λ n y log. AreSettled w log) c true s.0 p.0 (2 * s.0) x (core_after w c (Close s p) x).core.logs by (logs_close w c s p x by) (is.settled by.task by.there) is.settled

quiet_by : (w : World) (v : View) (e : Event) → v.marked ≡ [] → (planted_by w v e).marked ≡ []
quiet_by w v (Fetch t) h = h
quiet_by w v (Mark t) h = h
quiet_by w v (Lift t) h = h
quiet_by w v (Do t) h = h
quiet_by w v (Plant s p) h = by (is_none (controller_of w s.0))
  where
    by : (b : Bool) → (if b then planting s.0 p.0 v else v).marked ≡ []
    by true = h
    by false = h
quiet_by w v (Close s p) h = h

pub sound_step : (w : World) (c : CoreState) (v : View) (e : Event) (x : Stepped) → IsWorld w → parts_step w c.parts e ≡ Some x → Sound w c v → Sound w (core_after w c e x).core (planted_by w v e)
sound_step w c v e x world h is = record {
  ruled = ruled_step w c v e x world h is.tied is.ruled;
  tied = tied_step w c.parts e x world.is_plan is.ruled.cells h is.tied;
  quiet = quiet_by w v e is.quiet;
  settled = settled_step w c v e x world h is;
}

sound_from : (w : World) (d c : CoreState) (v : View) (events : List Event) → IsWorld w → Sound w d v → core_from w d events ≡ Some c → Sound w c (planter_from w v events)
sound_from w d c v [] world is h = subst (λ (x : CoreState). Sound w x v) (same_Some d c h) is
sound_from w d c v (e ∷ events) world is h =
    let at = through (λ b. core_from w b events) (core_step w d e) c h in
    let made = got_step w d e (parts_step w d.parts e) at.0 at.1 in
    sound_from w at.0.core c (planted_by w v e) events world (subst (λ (x : CoreState). Sound w x (planted_by w v e)) made.2 (sound_step w d v e made.0 world made.1 is)) at.2

pub sound_first : (w : World) → IsWorld w → Sound w (core_start w) (first_planter (length w.job.tasks))
sound_first w world = record { ruled = ruled_first w world; tied = tied_first w world.is_plan; quiet = refl; settled = λ t l. tt }

pub run_sound : (w : World) (c : CoreState) (events : List Event) → IsWorld w → core_run w events ≡ Some c → Sound w c (planter_from w (first_planter (length w.job.tasks)) events)
run_sound w c events world h = sound_from w (core_start w) c (first_planter (length w.job.tasks)) events world (sound_first w world) h

-- ---- what a party marked, its log shows

marked_by : (plan : PlanView) (e : Entry) (l : Option Bool) (o : Option FactSet) (k : Option Fact) (v : View) (s p : ℕ) (f : Fact) → Has (s, p, f) (with_lift e l (with_mark plan e o k v)).marked →
    ((found : FactSet) × (o ≡ Some found) × (k ≡ Some f) × (tag_session e.cell.tag ≡ s) × (e.place ≡ p)) ⊎ Has (s, p, f) v.marked
marked_by plan e None None k v s p f h = inr h
marked_by plan e (Some b) None k v s p f h = inr h
marked_by plan e None (Some o) None v s p f h = inr h
marked_by plan e (Some b) (Some o) None v s p f h = inr h
marked_by plan e None (Some o) (Some k) v s p f (inl same) = inl (o, refl, ap (λ (z : ℕ × ℕ × Fact). Some z.2) same, ap (λ (z : ℕ × ℕ × Fact). z.0) same, ap (λ (z : ℕ × ℕ × Fact). z.1) same)
marked_by plan e None (Some o) (Some k) v s p f (inr h) = inr h
marked_by plan e (Some b) (Some o) (Some k) v s p f (inl same) = inl (o, refl, ap (λ (z : ℕ × ℕ × Fact). Some z.2) same, ap (λ (z : ℕ × ℕ × Fact). z.0) same, ap (λ (z : ℕ × ℕ × Fact). z.1) same)
marked_by plan e (Some b) (Some o) (Some k) v s p f (inr h) = inr h

tag_is : (t s n : ℕ) → 0 < n → t ≡ window_tag n → tag_session t ≡ s → t ≡ window_tag s
tag_is t s n pos h k = omega arith

marked_shown : (w : World) (t : ℕ) (log : List Item) (s p : ℕ) (f : Fact) → AreSettled w log → Has (s, p, f) (task_view w t log).marked → HasShown s p f log
marked_shown w t [] s p f is h = absurd h
marked_shown w t (Met e ∷ log) s p f is h = elim (marked_by (plan_in w) e e.lifted e.found e.fact (fetching (plan_in w) e.place e.cell (task_view w t log)) s p f h) [
  | inl at ↦
      let cell = is.0.marked at.0 at.1 in
      inl (at.4, tag_is e.cell.tag s cell.0 cell.1 (ap (λ (c : Cell). c.tag) cell.2) at.3, at.2)
  | inr old ↦ inr (marked_shown w t log s p f is.1 old)
]
marked_shown w t (Gave q tag ∷ log) s p f is h = marked_shown w t log s p f is h

-- ---- what a log shows, the party marked, or met full

marked_more : (plan : PlanView) (e : Entry) (l : Option Bool) (o : Option FactSet) (k : Option Fact) (v : View) (x : ℕ × ℕ × Fact) → Has x v.marked → Has x (with_lift e l (with_mark plan e o k v)).marked
marked_more plan e None None k v x h = h
marked_more plan e (Some b) None k v x h = h
marked_more plan e None (Some o) None v x h = h
marked_more plan e (Some b) (Some o) None v x h = h
marked_more plan e None (Some o) (Some k) v x h = inr h
marked_more plan e (Some b) (Some o) (Some k) v x h = inr h

full_more : (plan : PlanView) (e : Entry) (l : Option Bool) (o : Option FactSet) (k : Option Fact) (v : View) (x : ℕ × ℕ) → Has x v.full → Has x (with_lift e l (with_mark plan e o k v)).full
full_more plan e None None k v x h = h
full_more plan e (Some b) None k v x h = h
full_more plan e None (Some o) None v x h = h
full_more plan e (Some b) (Some o) None v x h = h
full_more plan e None (Some o) (Some k) v x h = more-add_if _ x (tag_session e.cell.tag, e.place) v.full h
full_more plan e (Some b) (Some o) (Some k) v x h = more-add_if _ x (tag_session e.cell.tag, e.place) v.full h

marked_here : (plan : PlanView) (e : Entry) (l : Option Bool) (o : FactSet) (k : Fact) (v : View) → Has (tag_session e.cell.tag, e.place, k) (with_lift e l (with_mark plan e (Some o) (Some k) v)).marked
marked_here plan e None o k v = inl refl
marked_here plan e (Some b) o k v = inl refl

met_before : (plan : PlanView) (p : ℕ) (c : Cell) (v : View) (x : ℕ × ℕ) → Has x v.full → Has x (fetching plan p c v).full
met_before plan p c v x h = more-add_if (is_lifted plan p c) x (tag_session c.tag, p) v.full h

abbrev Tells : PlanView → View → ℕ → ℕ → Fact → Type 0
Tells plan v s p f = Has (s, p, f) v.marked ⊎ (Has (s, p) v.full × (is_of_kind (kind_at plan p) f ≡ true))

odd_tag : (t s : ℕ) → 0 < s → t ≡ window_tag s → t % 2 ≡ 1
odd_tag t s pos h = omega arith

not_zero : (A : Type 0) (s : ℕ) → 0 < s → 0 ≡ window_tag s → A
not_zero A s pos h = absurd (omega arith)

even_not : (A : Type 0) (n s : ℕ) → 0 < s → 2 * n ≡ window_tag s → A
even_not A n s pos h = absurd (omega arith)

entry_tells : (w : World) (e : Entry) (v : View) (s : ℕ) (f : Fact) → IsSettled w e → IsMarked e → 0 < s → e.cell.tag ≡ window_tag s → e.fact ≡ Some f → Tells (plan_in w) (with_notes (plan_in w) e v) s e.place f
entry_tells w e v s f is marks pos tag fact = by is.form
  where
    plan : PlanView
    plan = plan_in w

    same : tag_session e.cell.tag ≡ s
    same = ap tag_session tag ∙ session_of_window s pos

    met : is_lifted (plan_in w) e.place e.cell ≡ true → Tells (plan_in w) (with_notes (plan_in w) e v) s e.place f
    met there =
        let here : Has (tag_session e.cell.tag, e.place) (fetching (plan_in w) e.place e.cell v).full = here-add_if (is_lifted (plan_in w) e.place e.cell) (tag_session e.cell.tag, e.place) v.full there in
        inr (full_more (plan_in w) e e.lifted e.found e.fact (fetching (plan_in w) e.place e.cell v) (s, e.place) (subst (λ (n : ℕ). Has (n, e.place) (fetching (plan_in w) e.place e.cell v).full) same here), is.kind f fact)

    by : IsForm (plan_in w) e.place e.cell → Tells (plan_in w) (with_notes (plan_in w) e v) s e.place f
    by (inl cell) = not_zero _ s pos (sym (ap (λ (c : Cell). c.tag) cell) ∙ tag)
    by (inr (n, some_n, over, inl cell)) =
        let found = marks f (ap (λ (c : Cell). is_breakpoint c) cell) fact in
        inl (subst (λ (o : Option FactSet). Has (s, e.place, f) (with_lift e e.lifted (with_mark (plan_in w) e o e.fact (fetching (plan_in w) e.place e.cell v))).marked) (sym found.1)
        (subst (λ (k : Option Fact). Has (s, e.place, f) (with_lift e e.lifted (with_mark (plan_in w) e (Some found.0) k (fetching (plan_in w) e.place e.cell v))).marked) (sym fact)
        (subst (λ (m : ℕ). Has (m, e.place, f) (with_lift e e.lifted (with_mark (plan_in w) e (Some found.0) (Some f) (fetching (plan_in w) e.place e.cell v))).marked) same
        (marked_here (plan_in w) e e.lifted found.0 f (fetching (plan_in w) e.place e.cell v)))))
    by (inr (n, some_n, over, inr (inl cell))) = met (and_from _ _ (eq-eqb e.cell.half (original_at (plan_in w) e.place) (ap (λ (c : Cell). c.half) cell)) (eq-eqb (e.cell.tag % 2) 1 (odd_tag e.cell.tag s pos tag)))
    by (inr (n, some_n, over, inr (inr over_now))) = even_not _ n s pos (sym (ap (λ (c : Cell). c.tag) over_now.0) ∙ tag)

log_tells : (w : World) (t : ℕ) (log : List Item) (s p : ℕ) (f : Fact) → AreSettled w log → AreMarked log → 0 < s → HasShown s p f log → Tells (plan_in w) (task_view w t log) s p f
log_tells w t [] s p f is marks pos h = absurd h
log_tells w t (Met e ∷ log) s p f is marks pos (inl at) = subst (λ (q : ℕ). Tells (plan_in w) (task_view w t (Met e ∷ log)) s q f) at.0 (entry_tells w e (task_view w t log) s f is.0 marks.0 pos at.1 at.2)
log_tells w t (Met e ∷ log) s p f is marks pos (inr h) = elim (log_tells w t log s p f is.1 marks.1 pos h) [
  | inl old ↦ inl (marked_more (plan_in w) e e.lifted e.found e.fact (fetching (plan_in w) e.place e.cell (task_view w t log)) (s, p, f) old)
  | inr old ↦ inr (full_more (plan_in w) e e.lifted e.found e.fact (fetching (plan_in w) e.place e.cell (task_view w t log)) (s, p) (met_before (plan_in w) e.place e.cell (task_view w t log) (s, p) old.0), old.1)
]
log_tells w t (Gave q tag ∷ log) s p f is marks pos h = log_tells w t log s p f is marks pos h

-- ---- the sets

full_has : (k : Kind) (x : FactSet) (f : Fact) → is_full k x ≡ true → is_of_kind k f ≡ true → has_fact x f ≡ true
full_has k x f full is = subst (λ (y : FactSet). has_fact y f ≡ true) (sym (is_full-true k x full)) (has_fact-full_of k f is)

-- a party is the planter, or a task
party_is : (w : World) (logs : ℕ → List Item) (t n k : ℕ) (x : View) → get_elem? (task_views w logs t n) k ≡ some x → (m : ℕ) × (m < t + n) × (x ≡ task_view w m (logs m))
party_is w logs t zero k x h = absurd (some-ne-none x (sym h))
party_is w logs t (suc n) zero x h = (t, omega arith, sym (some-injective (task_view w t (logs t)) x h))
party_is w logs t (suc n) (suc k) x h = let r = party_is w logs (t + 1) n k x h in (r.0, omega (arith, r.1), r.2)

ended_marked : (w : World) (t : ℕ) (u : TaskPart) (log : List Item) (e : Ending) → u.stage ≡ Ended e → InStage w t u log u.stage → AreMarked log
ended_marked w t u log e at is = subst (λ (s : Stage). InStage w t u log s) at is

pub exact_into : (w : World) (c : CoreState) (v : View) → Sound w c v → (s p : ℕ) (f : Fact) → 0 < s → p < length w.places → has_fact (set_of w c.parts s p) f ≡ true → (t : ℕ) × (t < length c.parts.tasks) × HasShown s p f (c.logs t)
exact_into w c v is s p f pos lt h = let known = is.ruled.held.known s p f lt pos h in by known.0 known.1 known.2 known.3
  where
    by : (j : ℕ) (x : View) → get_elem? (v ∷ task_views w c.logs 0 (length w.job.tasks)) j ≡ some x → Has (s, p, f) x.marked → (t : ℕ) × (t < length c.parts.tasks) × HasShown s p f (c.logs t)
    by zero x at has =
        let same : v ≡ x = some-injective v x at in
        let none : Has {X = ℕ × ℕ × Fact} (s, p, f) [] = subst (λ (l : List (ℕ × ℕ × Fact)). Has (s, p, f) l) (ap (λ (y : View). y.marked) (sym same) ∙ is.quiet) has in
        absurd none
    by (suc k) x at has =
        let r = party_is w c.logs 0 (length w.job.tasks) k x at in
        let there : r.0 < length c.parts.tasks = omega (arith, r.1, is.ruled.count) in
        (r.0, there, marked_shown w r.0 (c.logs r.0) s p f (is.settled r.0 there) (subst (λ (y : View). Has (s, p, f) y.marked) r.2 has))

pub exact_from : (w : World) (c : CoreState) (v : View) → Sound w c v → HaveEnded c.parts → (s p : ℕ) (f : Fact) → 0 < s → p < length w.places → (t : ℕ) → t < length c.parts.tasks → HasShown s p f (c.logs t) → has_fact (set_of w c.parts s p) f ≡ true
exact_from w c v is ended s p f pos lt t there h =
    let stage = ended t there in
    let marks : AreMarked (c.logs t) = ended_marked w t (part_of c.parts t) (c.logs t) stage.0 stage.1 (is.ruled.hands t there) in
    let in_job : t < length w.job.tasks = subst (λ (n : ℕ). t < n) is.ruled.count there in
    let kept = is.ruled.held.kept (suc t) (task_view w t (c.logs t)) (view_at w c.logs 0 (length w.job.tasks) t t (omega arith) in_job) in
    elim (log_tells w t (c.logs t) s p f (is.settled t there) marks pos h) [
      | inl has ↦ (kept.marked s p f has).4
      | inr met ↦ full_has (kind_at (plan_in w) p) (set_of w c.parts s p) f (kept.full s p met.0).2 met.1
    ]

-- after every list of events
pub run_exact : (w : World) (c : CoreState) (events : List Event) → IsWorld w → core_run w events ≡ Some c → AreExact w c.parts c.logs
run_exact w c events world h = λ ended s p f pos lt.
    let is = run_sound w c events world h in
    let v : View = planter_from w (first_planter (length w.job.tasks)) events in
    (exact_into w c v is s p f pos lt, λ x. exact_from w c v is ended s p f pos lt x.0 x.1 x.2)
