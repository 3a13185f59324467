-- The rule of an area holds of a core after every list of events.
use Rattle.std.proofs.Common.{◌≡◌, ◌≢◌, ◌⊎◌, inl, inr, ℕ, zero, suc, ◌+◌, ◌*◌, ◌<◌, ◌≤◌, Bool, true, false, not, ◌&&◌, nat_lt, nat_eq, if◌then◌else◌, Option, Some, None, is_none, List, [], ◌∷◌, ◌++◌, length, get_or, set, refl, sym, ◌∙◌, ap, subst, arith, eqb-true, option_map, lt_irrefl, eq-eqb}
use Rattle.std.proofs.lemmas.Grind.{get_or-set_at}
use Rattle.std.proofs.lemmas.List.{get_or-map, get_or-set_other, length-set, length-map, length-replicate}
use Rattle.std.proofs.lemmas.Option.{same_Some}
use Rattle.std.proofs.lemmas.Bool.{and_parts, ltb-true, both_ways}
use Rattle.cov_base.specs.Meaning.{breakpoint, FactSet, no_facts, has_fact, with_fact, is_full, Visit}
use Rattle.cov_base.specs.declared.facts.Fact.{Fact}
use Rattle.cov_base.proofs.Laws.{has_fact-none, is_of_kind-fact_of}
use Rattle.s370_state.specs.declared.endings.Ending.TheVariants.{Returned, Spent as SpentEnding}
use Rattle.s370_state.specs.declared.endings.Next.{Next}
use Rattle.s370_state.specs.declared.endings.Next.TheVariants.{On, Ended as NextEnded}
use Rattle.s370_exec.specs.Meaning.{is_execute, has_returned, visit_of}
use Rattle.module_area.specs.Meaning.{fresh_word, word_at, no_cell, tag_session, index_of, PlanView, original_at, kind_at, is_over, no_place}
use Rattle.module_area.specs.Rule.{planted, lifted as lifted_cell, IsForm, Held, Has, window_tag, is_breakpoint, blank, fetching, marking, lifting, planting, IsPlan}
use Rattle.module_area.specs.declared.cells.Cell.{Cell}
use Rattle.module_area.specs.declared.parties.Role.TheVariants.{Root, Task, Spent}
use Rattle.module_area.specs.declared.parties.View.{View}
use Rattle.module_area.proofs.Laws.{begins, splits, index_below, same_index, over_small, here-add_if, lifts, breakpoint_form, fetches}
use Rattle.module_area.proofs.Laws.{marks, spent_not_task}
use Rattle.session_book.specs.Meaning.{no_task}
use Rattle.interleave_core.specs.Meaning.{World, TaskPart, Parts, part_of, plan_in, place_at, first_parts, first_part, task_goes_on, Stepped, parts_step, cell_fetched, fact_marked, lifted, done_by, with_cell, with_due, with_stage, original_under, same_cell, same_due, in_hand, hand_at, subject_place, step_of, place_due, is_awaiting, is_spent, executed, stage_after, awaits_or, instruction_executed, task_done, set_of, fact_in}
use Rattle.interleave_core.specs.World.{IsWorld}
use Rattle.interleave_core.specs.CoreState.{CoreState, core_start, core_step, core_after, core_from, core_run, log_after, entry_of, Entry, Item, Met, task_view, task_views, numbers, first_planter, planted_by, planter_from, KeepsRule}
use Rattle.interleave_core.specs.declared.events.Event.{Event}
use Rattle.interleave_core.specs.declared.events.Event.TheVariants.{Fetch, Mark, Lift, Do, Plant, Close}
use Rattle.interleave_core.specs.declared.events.Shown.TheVariants.{Fetched, Marked, Lifted, Done}
use Rattle.interleave_core.specs.declared.stage.Hand.{Hand}
use Rattle.interleave_core.specs.declared.stage.Due.{Due}
use Rattle.interleave_core.specs.declared.stage.Due.TheVariants.{Marking, Lifting, Nothing}
use Rattle.interleave_core.specs.declared.stage.Stage.{Stage}
use Rattle.interleave_core.specs.declared.stage.Stage.TheVariants.{Ready, Awaiting, Holding, Ended}
use Rattle.interleave_core.specs.Views.{AreTied}
use Rattle.interleave_core.proofs.Changes.{goes_on, Changed, plant_cases, close_by, logs_whole, logs_plant, logs_close}
use Rattle.interleave_core.proofs.Runs.{got, lifted_tasks, exists_by, through, no_set_at, same_due-true}
use Rattle.interleave_core.proofs.Logs.{found_at, got_step}
use Rattle.interleave_core.proofs.Alone.{due_in}
use Rattle.interleave_core.proofs.Tied.{tied_step, tied_first}
use Rattle.interleave_core.proofs.Begun.{begun_instruction, begun_subject}
use Rattle.interleave_core.proofs.Rule.{task_role, view_at, set_same, HasBreakpoint, AreMarked, entry_in, InHand, InStage, held_hand, hand_of, Ruled, logs_after, after_task}
use Rattle.interleave_core.proofs.Given.{rule_plant, rule_plants, rule_closes}

-- ---- Fetch

pub place_inside : (w : World) (a p : ℕ) → place_at w a ≡ Some p → p < length w.places
unfolding place_at
place_inside w a p h = let k = found_at 0 a p w.places h in omega (arith, k.1, k.3)

pub subject_inside : (w : World) (visits : List Visit) (p : ℕ) → subject_place w visits ≡ Some p → p < length w.places
subject_inside w [] p h = let n : None ≡ Some p = h in absurd cc
subject_inside w (v ∷ []) p h = let n : None ≡ Some p = h in absurd cc
subject_inside w (v ∷ (s ∷ vs)) p h = place_inside w s.at p h

-- the place that is due, whether its visit is begun, and that no cell was in hand
pub fetch_due : (w : World) (t : ℕ) (u : TaskPart) (log : List Item) (stage : Stage) (p : ℕ) → IsWorld w → t < length w.job.tasks → InStage w t u log stage → place_due w t u stage ≡ Some p →
    (p < length w.places) × ((visit_of (step_of w t u) (is_awaiting stage)).begun ≡ not (is_awaiting stage && is_execute (original_at (plan_in w) p))) × AreMarked log
fetch_due w t u log Ready p world lt is h =
    let at = (due_in (has_returned u.state) (is_spent w t u.state) (place_at w u.state.machine.cpu.ia) p h).2 in
    (place_inside w u.state.machine.cpu.ia p at, begun_instruction w t p u world lt at, is)
fetch_due w t u log Awaiting p world lt is h = (subject_inside w (step_of w t u).visits p h, begun_subject w t p u world lt h, is)
fetch_due w t u log (Holding x) p world lt is h = let n : None ≡ Some p = h in absurd cc
fetch_due w t u log (Ended x) p world lt is h = let n : None ≡ Some p = h in absurd cc

has_breakpoint : (w : World) (cells : List Cell) (h : Hand) → IsPlan (plan_in w) → h.place.0 < length w.places → IsForm (plan_in w) h.place.0 h.cell → is_breakpoint h.cell ≡ true → HasBreakpoint w h
has_breakpoint w cells h plan lt form half =
    let at = breakpoint_form (plan_in w) h.place.0 h.cell (plan.no_breakpoint h.place.0 lt) form (eqb-true h.cell.half breakpoint half) in
    record {
      session = at.0;
      some_session = at.1;
      inside = lt;
      over = at.2;
      cell = at.3;
    }

absent : (A : Type 0) (f : Fact) → None ≡ Some f → A
absent A f h = absurd cc

fetched_in : (w : World) (t : ℕ) (u : TaskPart) (h : Hand) (log : List Item) (a n : Bool) → is_breakpoint h.cell ≡ a → (visit_of (step_of w t u) h.subject).begun ≡ n → (a ≡ true → HasBreakpoint w h) → AreMarked log →
    InHand w t u (Met (entry_of w t u h) ∷ log) h (if a && n then Marking else Nothing)
fetched_in w t u h log true true half begun has fact_marked =
    (log, ap (λ (b : Bool). Met (record { place = h.place.0; cell = h.cell; fact = if b then Some (fact_in w t u h) else None; found = None; lifted = None }) ∷ log) begun, fact_marked, has refl)
fetched_in w t u h log true false half begun has fact_marked =
    ((λ f b some. absent _ f (subst (λ (x : Bool). (if x then Some (fact_in w t u h) else None) ≡ Some f) begun some)), fact_marked)
fetched_in w t u h log false n half begun has fact_marked = ((λ f b some. let no : true ≡ false = sym b ∙ half in absurd cc), fact_marked)

pub rule_fetch : (w : World) (c : CoreState) (v : View) (t p : ℕ) → IsWorld w → Ruled w c v → t < length c.parts.tasks → place_due w t (part_of c.parts t) (part_of c.parts t).stage ≡ Some p →
    Ruled w (record { parts = (cell_fetched w c.parts t (part_of c.parts t) p).parts; logs = logs_after w c (cell_fetched w c.parts t (part_of c.parts t) p).parts t (Fetched (word_at c.parts.cells p)) }) v
rule_fetch w c v t p world is lt due =
    let u : TaskPart = part_of c.parts t in
    let there : t < length w.job.tasks = subst (λ (n : ℕ). t < n) is.count lt in
    let at = fetch_due w t u (c.logs t) u.stage p world there (is.hands t lt) due in
    let h : Hand = hand_at w c.parts (is_awaiting u.stage) p in
    let view : View = task_view w t (c.logs t) in
    let live : view.role ≢ Spent = λ e. spent_not_task t (sym e ∙ task_role w t (c.logs t)) in
    after_task w c v (cell_fetched w c.parts t u p).parts t (with_stage u (Holding h)) (Fetched (word_at c.parts.cells p)) (fetching (plan_in w) p (word_at c.parts.cells p) view) is lt refl is.cells is.sets
    (fetches (plan_in w) (λ q. word_at c.parts.cells q) (λ s q. set_of w c.parts s q) (v ∷ task_views w c.logs 0 (length w.job.tasks)) is.held (suc t) view (view_at w c.logs 0 (length w.job.tasks) t t (omega arith) there) live p at.0)
    refl
    (fetched_in w t (with_stage u (Holding h)) h (c.logs t) (is_breakpoint h.cell) (not (is_awaiting u.stage && is_execute (original_at (plan_in w) p))) refl at.1
    (λ half. has_breakpoint w c.parts.cells h is.held.is_plan at.0 (is.held.site p at.0).form half) at.2)

-- ---- Mark

same_hand : (w : World) (h g : Hand) → g.place ≡ h.place → g.cell ≡ h.cell → HasBreakpoint w h → HasBreakpoint w g
same_hand w h g at cell b = record {
  session = b.session;
  some_session = b.some_session;
  inside = subst (λ x. x.0 < length w.places) (sym at) b.inside;
  over = subst (λ x. is_over (plan_in w) b.session x.0 ≡ true) (sym at) b.over;
  cell = cell ∙ b.cell;
}

marked_in : (w : World) (t : ℕ) (u : TaskPart) (h : Hand) (rest : List Item) (found : FactSet) (b : Bool) → is_full (kind_at (plan_in w) h.place.0) (with_fact found (fact_in w t u h)) ≡ b → AreMarked rest → HasBreakpoint w h →
    InHand w t u (Met (entry_in w t u h (Some found)) ∷ rest) h (if b then Lifting else Nothing)
marked_in w t u h rest found true full fact_marked has = (rest, found, refl, full, fact_marked, has)
marked_in w t u h rest found false full fact_marked has = ((λ f b some. (found, refl)), fact_marked)

-- the sets with the fact that a mark adds
module _ (w : World) (c : Parts) (h : Hand) (b : HasBreakpoint w h) (f : Fact) (plan : IsPlan (plan_in w)) (sets : length c.sets ≡ length w.job.sessions * length w.places) where
  abbrev grown : FactSet
  grown = with_fact (set_of w c (tag_session h.cell.tag) h.place.0) f

  abbrev index : ℕ
  index = index_of (length w.places) (tag_session h.cell.tag) h.place.0

  index_is : index_of (length w.places) b.session h.place.0 ≡ index
  index_is = ap (λ (s : ℕ). index_of (length w.places) s h.place.0) (sym (hand_of w h b))

  fits : index < length c.sets
  fits =
      let most : b.session ≤ length w.job.sessions = over_small (plan_in w) b.session h.place.0 plan b.inside b.over in
      subst (λ (n : ℕ). n < length c.sets) index_is (subst (λ (n : ℕ). index_of (length w.places) b.session h.place.0 < n) (sym sets)
      (index_below (length w.places) (length w.job.sessions) b.session h.place.0 b.some_session most b.inside))

  set_here : get_or (set c.sets index grown) (index_of (length w.places) b.session h.place.0) no_facts ≡ with_fact (set_of w c b.session h.place.0) f
  set_here = get_or-set_at c.sets index (index_of (length w.places) b.session h.place.0) grown no_facts index_is fits
      ∙ ap (λ (s : ℕ). with_fact (set_of w c s h.place.0) f) (hand_of w h b)

  set_other : (s q : ℕ) → q < length w.places → 0 < s → ((s ≡ b.session) × (q ≡ h.place.0) → ⊥) → get_or (set c.sets index grown) (index_of (length w.places) s q) no_facts ≡ set_of w c s q
  set_other s q lt pos n = get_or-set_other c.sets index (index_of (length w.places) s q) grown no_facts
      (λ e. n (same_index (length w.places) s q b.session h.place.0 pos b.some_session lt b.inside (e ∙ sym index_is)))

pub rule_mark : (w : World) (c : CoreState) (v : View) (t : ℕ) (h : Hand) → Ruled w c v → t < length c.parts.tasks → in_hand Marking (part_of c.parts t).stage ≡ Some h →
    Ruled w (record { parts = (fact_marked w c.parts t (part_of c.parts t) h).parts; logs = logs_after w c (fact_marked w c.parts t (part_of c.parts t) h).parts t (Marked (set_of w c.parts (tag_session h.cell.tag) h.place.0)) }) v
rule_mark w c v t h is lt due =
    let u : TaskPart = part_of c.parts t in
    let there : t < length w.job.tasks = subst (λ (n : ℕ). t < n) is.count lt in
    let hand = held_hand w t u (c.logs t) u.stage Marking h (is.hands t lt) due in
    let rest : List Item = hand.0 in
    let b : HasBreakpoint w h = hand.3 in
    let f : Fact = fact_in w t u h in
    let p : ℕ = h.place.0 in
    let found : FactSet = set_of w c.parts (tag_session h.cell.tag) p in
    let d : Due = if is_full (kind_at (plan_in w) p) (with_fact found f) then Lifting else Nothing in
    let u2 : TaskPart = with_due u h d in
    let view : View = task_view w t (c.logs t) in
    let live : view.role ≢ Spent = λ e. spent_not_task t (sym e ∙ task_role w t (c.logs t)) in
    let pending : view.pending ≡ Some (p, window_tag b.session) = ap (λ (l : List Item). (task_view w t l).pending) hand.1 ∙ ap (λ (k : Cell). if is_breakpoint k then Some (p, k.tag) else None) b.cell in
    let logged : log_after w t u2 (Marked found) (c.logs t) ≡ Met (entry_in w t u h (Some found)) ∷ rest = ap (log_after w t u2 (Marked found)) hand.1 in
    let view_is : marking (plan_in w) b.session p f (set_of w c.parts b.session p) view ≡ task_view w t (log_after w t u2 (Marked found) (c.logs t)) =
    ap (λ (l : List Item). marking (plan_in w) b.session p f (set_of w c.parts b.session p) (task_view w t l)) hand.1
    ∙ (ap (λ (s : ℕ). marking (plan_in w) b.session p f (set_of w c.parts s p) (task_view w t (Met (entry_in w t u h None) ∷ rest))) (sym (hand_of w h b))
    ∙ (ap (λ (s : ℕ). marking (plan_in w) s p f found (task_view w t (Met (entry_in w t u h None) ∷ rest))) (sym (hand_of w h b))
    ∙ ap (task_view w t) (sym logged))) in
    after_task w c v (fact_marked w c.parts t u h).parts t u2 (Marked found) (marking (plan_in w) b.session p f (set_of w c.parts b.session p) view) is lt refl is.cells
    (length-set c.parts.sets (index_of (length w.places) (tag_session h.cell.tag) p) (with_fact found f) ∙ is.sets)
    (marks (plan_in w) (λ q. word_at c.parts.cells q) (λ s q. set_of w c.parts s q) (v ∷ task_views w c.logs 0 (length w.job.tasks)) is.held (suc t) view (view_at w c.logs 0 (length w.job.tasks) t t (omega arith) there) live
    b.session p f b.inside b.some_session pending (is_of_kind-fact_of (kind_at (plan_in w) p) (visit_of (step_of w t u) h.subject).went) (λ q. word_at c.parts.cells q) (λ s q. set_of w (fact_marked w c.parts t u h).parts s q)
    (λ q l. refl) (set_here w c.parts h b f is.held.is_plan is.sets) (set_other w c.parts h b f is.held.is_plan is.sets))
    view_is
    (subst (λ (l : List Item). InHand w t u2 l (record h { due = d }) d) (sym logged)
    (marked_in w t u2 (record h { due = d }) rest found (is_full (kind_at (plan_in w) p) (with_fact found f)) refl hand.2 (same_hand w h (record h { due = d }) refl refl b)))

-- ---- Lift

pub same_cells : (a b : Cell) → same_cell a b ≡ true → a ≡ b
same_cells a b h = let at = and_parts (nat_eq a.tag b.tag) (nat_eq a.half b.half) h in λ i. record { tag = eqb-true a.tag b.tag at.0 i; half = eqb-true a.half b.half at.1 i }

cell_itself : (a : Cell) → same_cell a a ≡ true
cell_itself a = rw (eq-eqb a.tag a.tag refl, eq-eqb a.half a.half refl) refl

-- what a lift does to the cells
module _ (w : World) (c : Parts) (h : Hand) (b : HasBreakpoint w h) (cells : length c.cells ≡ length w.places) where
  abbrev exchanged : Bool → Parts
  exchanged taken = if taken then with_cell c h.place.0 (original_under w h.place.0 h.cell) else c

  in_cells : h.place.0 < length c.cells
  in_cells = subst (λ (n : ℕ). h.place.0 < n) (sym cells) b.inside

  lift_did : (taken : Bool) → same_cell (word_at c.cells h.place.0) h.cell ≡ taken →
      ((taken ≡ true) × (word_at c.cells h.place.0 ≡ planted b.session) × (word_at (exchanged taken).cells h.place.0 ≡ lifted_cell b.session (original_at (plan_in w) h.place.0)))
      ⊎ ((taken ≡ false) × (word_at c.cells h.place.0 ≢ planted b.session) × (word_at (exchanged taken).cells h.place.0 ≡ word_at c.cells h.place.0))
  lift_did true e = inl (
    refl,
    same_cells (word_at c.cells h.place.0) h.cell e ∙ b.cell,
    get_or-set_at c.cells h.place.0 h.place.0 (original_under w h.place.0 h.cell) no_cell refl in_cells ∙ ap (λ (x : Cell). original_under w h.place.0 x) b.cell,
  )
  lift_did false e = inr (
    refl,
    (λ there. let no : false ≡ true = sym e ∙ (ap (λ (x : Cell). same_cell x h.cell) (there ∙ sym b.cell) ∙ cell_itself h.cell) in absurd cc),
    refl,
  )

  lift_other : (taken : Bool) (q : ℕ) → q < length w.places → q ≢ h.place.0 → word_at (exchanged taken).cells q ≡ word_at c.cells q
  lift_other true q lt n = get_or-set_other c.cells h.place.0 q (original_under w h.place.0 h.cell) no_cell n
  lift_other false q lt n = refl

  lift_cells : (taken : Bool) → length (exchanged taken).cells ≡ length w.places
  lift_cells true = length-set c.cells h.place.0 (original_under w h.place.0 h.cell) ∙ cells
  lift_cells false = cells

  lift_sets : (taken : Bool) → (exchanged taken).sets ≡ c.sets
  lift_sets true = refl
  lift_sets false = refl

pub rule_lift : (w : World) (c : CoreState) (v : View) (t : ℕ) (h : Hand) → Ruled w c v → t < length c.parts.tasks → in_hand Lifting (part_of c.parts t).stage ≡ Some h →
    Ruled w (record { parts = (lifted w c.parts t (part_of c.parts t) h).parts; logs = logs_after w c (lifted w c.parts t (part_of c.parts t) h).parts t (Lifted (same_cell (word_at c.parts.cells h.place.0) h.cell)) }) v
rule_lift w c v t h is lt due =
    let u : TaskPart = part_of c.parts t in
    let there : t < length w.job.tasks = subst (λ (n : ℕ). t < n) is.count lt in
    let hand = held_hand w t u (c.logs t) u.stage Lifting h (is.hands t lt) due in
    let rest : List Item = hand.0 in
    let found : FactSet = hand.1 in
    let b : HasBreakpoint w h = hand.5 in
    let p : ℕ = h.place.0 in
    let taken : Bool = same_cell (word_at c.parts.cells p) h.cell in
    let u2 : TaskPart = with_due u h Nothing in
    let view : View = task_view w t (c.logs t) in
    let live : view.role ≢ Spent = λ e. spent_not_task t (sym e ∙ task_role w t (c.logs t)) in
    let e : Entry = entry_in w t u h (Some found) in
    let met_there : Has (tag_session h.cell.tag, p) (task_view w t (Met e ∷ rest)).full =
    here-add_if (is_full (kind_at (plan_in w) p) (with_fact found (fact_in w t u h))) (tag_session h.cell.tag, p) (fetching (plan_in w) p h.cell (task_view w t rest)).full hand.3 in
    let met : Has (b.session, p) view.full = subst (λ (l : List Item). Has (b.session, p) (task_view w t l).full) (sym hand.2) (subst (λ (s : ℕ). Has (s, p) (task_view w t (Met e ∷ rest)).full) (hand_of w h b) met_there) in
    let logged : log_after w t u2 (Lifted taken) (c.logs t) ≡ Met (record e { lifted = Some taken }) ∷ rest = ap (log_after w t u2 (Lifted taken)) hand.2 in
    let view_is : lifting b.session p taken view ≡ task_view w t (log_after w t u2 (Lifted taken) (c.logs t)) =
    ap (λ (l : List Item). lifting b.session p taken (task_view w t l)) hand.2
    ∙ (ap (λ (s : ℕ). lifting s p taken (task_view w t (Met e ∷ rest))) (sym (hand_of w h b)) ∙ ap (task_view w t) (sym logged)) in
    let tasks : (lifted w c.parts t u h).parts.tasks ≡ set c.parts.tasks t u2 = ap (λ (ts : List TaskPart). set ts t u2) (lifted_tasks taken c.parts p (original_under w p h.cell)) in
    let sets : (lifted w c.parts t u h).parts.sets ≡ c.parts.sets = lift_sets w c.parts h b is.cells taken in
    after_task w c v (lifted w c.parts t u h).parts t u2 (Lifted taken) (lifting b.session p taken view) is lt tasks (lift_cells w c.parts h b is.cells taken)
    (ap (λ (x : List FactSet). length x) sets ∙ is.sets)
    (lifts (plan_in w) (λ q. word_at c.parts.cells q) (λ s q. set_of w c.parts s q) (v ∷ task_views w c.logs 0 (length w.job.tasks)) is.held (suc t) view (view_at w c.logs 0 (length w.job.tasks) t t (omega arith) there) live
    b.session p b.inside met taken (λ q. word_at (lifted w c.parts t u h).parts.cells q) (λ s q. set_of w (lifted w c.parts t u h).parts s q)
    (lift_did w c.parts h b is.cells taken refl) (lift_other w c.parts h b is.cells taken)
    (λ s q l pos. ap (λ (x : List FactSet). get_or x (index_of (length w.places) s q) no_facts) sets))
    view_is
    (subst (λ (l : List Item). AreMarked l) (sym logged) ((λ f half some. (found, refl)), hand.4))

-- ---- Do

executed_hand : (w : World) (t : ℕ) (u : TaskPart) (log : List Item) (next : Next) → AreMarked log → InStage w t u log (stage_after next)
executed_hand w t u log On h = h
executed_hand w t u log (NextEnded e) h = h

awaits_hand : (w : World) (t : ℕ) (u : TaskPart) (log : List Item) (at : Option ℕ) → AreMarked log → InStage w t (awaits_or u (executed w t u) at) log (awaits_or u (executed w t u) at).stage
awaits_hand w t u log None h = executed_hand w t (executed w t u) log (step_of w t u).next h
awaits_hand w t u log (Some p) h = h

going_hand : (w : World) (t : ℕ) (u v : TaskPart) (log : List Item) (stage : Stage) → InStage w t u log stage → task_goes_on w t u stage ≡ Some v → InStage w t v log v.stage
going_hand w t u v log Ready is h = ready (has_returned u.state) (is_spent w t u.state) (place_at w u.state.machine.cpu.ia) h
  where
    ready : (returned spent : Bool) (at : Option ℕ) → (if returned then Some (with_stage u (Ended Returned)) else (if spent then Some (with_stage u (Ended SpentEnding)) else (if is_none at then Some (instruction_executed w t u) else None))) ≡ Some v → InStage w t v log v.stage
    ready true spent at k = subst (λ (x : TaskPart). InStage w t x log x.stage) (same_Some _ v k) is
    ready false true at k = subst (λ (x : TaskPart). InStage w t x log x.stage) (same_Some _ v k) is
    ready false false None k = subst (λ (x : TaskPart). InStage w t x log x.stage) (same_Some _ v k) (awaits_hand w t u log (subject_place w (step_of w t u).visits) is)
    ready false false (Some p) k = let n : None ≡ Some v = k in absurd cc
going_hand w t u v log Awaiting is h = let n : None ≡ Some v = h in absurd cc
going_hand w t u v log (Ended e) is h = let n : None ≡ Some v = h in absurd cc
going_hand w t u v log (Holding g) is h = by (same_due g.due Nothing) refl g.subject h
  where
    by : (nothing : Bool) → same_due g.due Nothing ≡ nothing → (subject : Bool) → (if nothing then Some (if subject then executed w t u else instruction_executed w t u) else None) ≡ Some v → InStage w t v log v.stage
    by false e subject k = let n : None ≡ Some v = k in absurd cc
    by true e true k = subst (λ (x : TaskPart). InStage w t x log x.stage) (same_Some _ v k) (executed_hand w t (executed w t u) log (step_of w t u).next (subst (λ (d : Due). InHand w t u log g d) (same_due-true g.due Nothing e) is))
    by true e false k = subst (λ (x : TaskPart). InStage w t x log x.stage) (same_Some _ v k) (awaits_hand w t u log (subject_place w (step_of w t u).visits) (subst (λ (d : Due). InHand w t u log g d) (same_due-true g.due Nothing e) is))

done_hand : (w : World) (t : ℕ) (u v : TaskPart) (log : List Item) (stage : Stage) → InStage w t u log stage → task_done w t u stage ≡ Some v → InStage w t v log v.stage
done_hand w t u v log stage is h = going_hand w t u v log stage is (goes_on w t u v stage h)

pub rule_do : (w : World) (c : CoreState) (v : View) (t : ℕ) (u : TaskPart) → Ruled w c v → t < length c.parts.tasks → task_done w t (part_of c.parts t) (part_of c.parts t).stage ≡ Some u →
    Ruled w (record { parts = (done_by c.parts t u).parts; logs = logs_after w c (done_by c.parts t u).parts t Done }) v
rule_do w c v t u is lt done =
    let there : t < length w.job.tasks = subst (λ (n : ℕ). t < n) is.count lt in
    let views : List View = v ∷ task_views w c.logs 0 (length w.job.tasks) in
    let view : View = task_view w t (c.logs t) in
    after_task w c v (done_by c.parts t u).parts t u Done view is lt refl is.cells is.sets
    (subst (λ (vs : List View). Held (plan_in w) (λ p. word_at c.parts.cells p) (λ s p. set_of w c.parts s p) vs) (sym (set_same views (suc t) view (view_at w c.logs 0 (length w.job.tasks) t t (omega arith) there))) is.held)
    refl
    (done_hand w t (part_of c.parts t) u (c.logs t) (part_of c.parts t).stage (is.hands t lt) done)

-- ---- the start

numbers_below : (n k : ℕ) → Has k (numbers n) → k < n
numbers_below zero k h = absurd h
numbers_below (suc n) k (inl e) = omega (arith, e)
numbers_below (suc n) k (inr h) = let l = numbers_below n k h in omega (arith, l)

abbrev nothing : ℕ → List Item
nothing t = []

views_push : (w : World) (t n m : ℕ) → t + n ≡ m → task_views w nothing t n ++ blank (Task m) ∷ [] ≡ task_views w nothing t (suc n)
views_push w t zero m e = let same : m ≡ t = omega (arith, e) in ap (λ (k : ℕ). blank (Task k) ∷ []) same
views_push w t (suc n) m e = ap (λ (vs : List View). blank (Task t) ∷ vs) (views_push w (t + 1) n m (omega (arith, e)))

gave : (plan : PlanView) (w : World) (cell : ℕ → Cell) (sets : ℕ → ℕ → FactSet) (n : ℕ) → Held plan cell sets (blank Root ∷ []) → Held plan cell sets (first_planter n ∷ task_views w nothing 0 n)
gave plan w cell sets zero h = h
gave plan w cell sets (suc n) h =
    let before : Held plan cell sets (first_planter n ∷ task_views w nothing 0 n) = gave plan w cell sets n h in
    let after : Held plan cell sets (first_planter (suc n) ∷ (task_views w nothing 0 n ++ blank (Task n) ∷ [])) =
    splits plan cell sets (first_planter n ∷ task_views w nothing 0 n) before 0 (first_planter n) refl refl n (λ has. lt_irrefl n (numbers_below n n has)) in
    subst (λ (vs : List View). Held plan cell sets (first_planter (suc n) ∷ vs)) (views_push w 0 n n (omega arith)) after

pub ruled_first : (w : World) → IsWorld w → Ruled w (core_start w) (first_planter (length w.job.tasks))
ruled_first w world = record {
  count = length-map w.job.tasks first_part;
  sets = length-replicate (length w.job.sessions * length w.places) no_facts;
  cells = length-map w.places fresh_word;
  role = refl;
  held = gave (plan_in w) w (λ p. word_at (first_parts w).cells p) (λ s p. set_of w (first_parts w) s p) (length w.job.tasks)
      (begins (plan_in w) (λ p. word_at (first_parts w).cells p) (λ s p. set_of w (first_parts w) s p) world.is_plan
      (λ p l. get_or-map fresh_word w.places p no_place no_cell l)
      (λ s p f l pos h. both_ways (has_fact no_facts f) (has_fact-none f) (subst (λ (x : FactSet). has_fact x f ≡ true) (no_set_at (length w.job.sessions * length w.places) (index_of (length w.places) s p)) h)));
  hands = λ t l.
      let lt : t < length w.job.tasks = subst (λ (n : ℕ). t < n) (length-map w.job.tasks first_part) l in
      subst (λ (u : TaskPart). InStage w t u [] u.stage) (sym (get_or-map first_part w.job.tasks t no_task (first_part no_task) lt)) tt;
}

-- ---- each event

pub ruled_step : (w : World) (c : CoreState) (v : View) (e : Event) (x : Stepped) → IsWorld w → parts_step w c.parts e ≡ Some x → AreTied w c.parts → Ruled w c v → Ruled w (core_after w c e x).core (planted_by w v e)
ruled_step w c v (Fetch t) x world h tied is =
    let u : TaskPart = part_of c.parts t.0 in
    let at = exists_by (nat_lt t.0 (length c.parts.tasks)) (option_map (cell_fetched w c.parts t.0 u) (place_due w t.0 u u.stage)) x h in
    let p = got ℕ (cell_fetched w c.parts t.0 u) (place_due w t.0 u u.stage) x at.1 in
    subst (λ (y : Stepped). Ruled w (core_after w c (Fetch t) y).core v) (sym p.2) (rule_fetch w c v t.0 p.0 world is (ltb-true t.0 (length c.parts.tasks) at.0) p.1)
ruled_step w c v (Mark t) x world h tied is =
    let u : TaskPart = part_of c.parts t.0 in
    let at = exists_by (nat_lt t.0 (length c.parts.tasks)) (option_map (fact_marked w c.parts t.0 u) (in_hand Marking u.stage)) x h in
    let p = got Hand (fact_marked w c.parts t.0 u) (in_hand Marking u.stage) x at.1 in
    subst (λ (y : Stepped). Ruled w (core_after w c (Mark t) y).core v) (sym p.2) (rule_mark w c v t.0 p.0 is (ltb-true t.0 (length c.parts.tasks) at.0) p.1)
ruled_step w c v (Lift t) x world h tied is =
    let u : TaskPart = part_of c.parts t.0 in
    let at = exists_by (nat_lt t.0 (length c.parts.tasks)) (option_map (lifted w c.parts t.0 u) (in_hand Lifting u.stage)) x h in
    let p = got Hand (lifted w c.parts t.0 u) (in_hand Lifting u.stage) x at.1 in
    subst (λ (y : Stepped). Ruled w (core_after w c (Lift t) y).core v) (sym p.2) (rule_lift w c v t.0 p.0 is (ltb-true t.0 (length c.parts.tasks) at.0) p.1)
ruled_step w c v (Do t) x world h tied is =
    let u : TaskPart = part_of c.parts t.0 in
    let at = exists_by (nat_lt t.0 (length c.parts.tasks)) (option_map (done_by c.parts t.0) (task_done w t.0 u u.stage)) x h in
    let n = got TaskPart (done_by c.parts t.0) (task_done w t.0 u u.stage) x at.1 in
    subst (λ (y : Stepped). Ruled w (core_after w c (Do t) y).core v) (sym n.2) (rule_do w c v t.0 n.0 is (ltb-true t.0 (length c.parts.tasks) at.0) n.1)
ruled_step w c v (Plant s p) x world h tied is = elim (plant_cases w c.parts s.0 p.0 x h) [
  | inl whole ↦
      let after : Ruled w (core_after w c (Plant s p) x).core (planting s.0 p.0 v) =
      subst (λ (d : Parts). Ruled w (record { parts = d; logs = (core_after w c (Plant s p) x).core.logs }) (planting s.0 p.0 v)) (ap (λ (y : Stepped). y.parts) (sym whole.made))
      (rule_plant w c v s.0 p.0 (core_after w c (Plant s p) x).core.logs is whole.may (logs_whole w c s p x whole)) in
      subst (λ (o : Option ℕ). Ruled w (core_after w c (Plant s p) x).core (if is_none o then planting s.0 p.0 v else v)) (sym whole.by_none) after
  | inr by ↦ subst (λ (o : Option ℕ). Ruled w (core_after w c (Plant s p) x).core (if is_none o then planting s.0 p.0 v else v)) (sym by.by_task)
      (rule_plants w c v false s.0 p.0 x (core_after w c (Plant s p) x).core.logs is tied by refl (logs_plant w c s p x by))
]
ruled_step w c v (Close s p) x world h tied is =
    let by : Changed w c.parts true s.0 p.0 x = close_by w c.parts s.0 p.0 x h in
    rule_closes w c v true s.0 p.0 x (core_after w c (Close s p) x).core.logs is tied by refl (logs_close w c s p x by)

ruled_from : (w : World) (d c : CoreState) (v : View) (events : List Event) → IsWorld w → AreTied w d.parts → Ruled w d v → core_from w d events ≡ Some c → Ruled w c (planter_from w v events)
ruled_from w d c v [] world tied is h = subst (λ (x : CoreState). Ruled w x v) (same_Some d c h) is
ruled_from w d c v (e ∷ events) world tied is h =
    let at = through (λ b. core_from w b events) (core_step w d e) c h in
    let made = got_step w d e (parts_step w d.parts e) at.0 at.1 in
    ruled_from w at.0.core c (planted_by w v e) events world (subst (λ (x : CoreState). AreTied w x.parts) made.2 (tied_step w d.parts e made.0 world.is_plan is.cells made.1 tied))
    (subst (λ (x : CoreState). Ruled w x (planted_by w v e)) made.2 (ruled_step w d v e made.0 world made.1 tied is)) at.2

-- after every list of events
pub run_ruled : (w : World) (c : CoreState) (events : List Event) → IsWorld w → core_run w events ≡ Some c → Ruled w c (planter_from w (first_planter (length w.job.tasks)) events)
run_ruled w c events world h = ruled_from w (core_start w) c (first_planter (length w.job.tasks)) events world (tied_first w world.is_plan) (ruled_first w world) h

pub run_keeps : (w : World) (c : CoreState) (events : List Event) → IsWorld w → core_run w events ≡ Some c → KeepsRule w events c
run_keeps w c events world h = (run_ruled w c events world h).held
