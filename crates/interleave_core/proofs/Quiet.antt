-- What is quiet stays so, and its sets with it; what is drained is quiet.
use Rattle.std.proofs.Common.{◌≡◌, inl, inr, ℕ, zero, suc, ◌+◌, ◌*◌, ◌<◌, ◌≤◌, Bool, true, false, not, ◌&&◌, nat_eq, nat_lt, if◌then◌else◌, Option, Some, None, is_some, List, [], ◌∷◌, length, get_or, set, refl, sym, ◌∙◌, ap, subst, arith, eqb-true, eq-eqb, is_none, option_map}
use Rattle.std.specs.List.{find}
use Rattle.std.proofs.lemmas.Grind.{get_or-set_at}
use Rattle.std.proofs.lemmas.List.{get_or-set_other, length-set, get_or_default}
use Rattle.std.proofs.lemmas.List.Folds.{list_any_none}
use Rattle.std.proofs.lemmas.Option.{same_Some}
use Rattle.std.proofs.lemmas.Bool.{ltb-true, not-true, cases_eq, false_from_ne_true, and_parts, and_from}
use Rattle.cov_base.specs.Meaning.{breakpoint, FactSet, no_facts, with_fact, is_full}
use Rattle.s370_state.specs.declared.endings.Ending.TheVariants.{Returned, Spent}
use Rattle.s370_state.specs.declared.endings.Next.{Next}
use Rattle.s370_state.specs.declared.endings.Next.TheVariants.{On, Ended as NextEnded}
use Rattle.s370_exec.specs.Meaning.{is_execute, has_returned}
use Rattle.module_area.specs.Meaning.{word_at, no_cell, index_of, tag_session, ControlledView, has_place, is_controlled, is_over, original_at, kind_at, window_at}
use Rattle.module_area.specs.Notes.{is_closed}
use Rattle.module_area.specs.Rule.{window_tag, IsPlan}
use Rattle.module_area.specs.declared.cells.Cell.{Cell}
use Rattle.module_area.proofs.Laws.{same_index, any_at, any_shown, over_cases, at_place, closed_place, closed_of_places}
use Rattle.session_book.specs.Meaning.{no_task}
use Rattle.interleave_core.specs.Meaning.{World, TaskPart, Parts, part_of, plan_in, place_at, first_part, PlaceChange, controller_of, Stepped, parts_step, cell_fetched, fact_marked, lifted, done_by, task_done, task_goes_on, breakpoint_of, changed_cell, changed, change_due, with_cell, with_due, with_stage, original_under, same_cell, same_due, in_hand, hand_at, step_of, subject_place, place_due, is_awaiting, is_spent, stage_after, executed, awaits_or, instruction_executed, set_of, fact_in}
use Rattle.interleave_core.specs.Quiet.{has_unmarked, any_unmarked, is_quiet, SetsStay}
use Rattle.interleave_core.specs.Views.{AreSteady, IsHand, no_controlled}
use Rattle.interleave_core.specs.declared.events.Event.{Event}
use Rattle.interleave_core.specs.declared.events.Event.TheVariants.{Fetch, Mark, Lift, Do, Plant, Close}
use Rattle.interleave_core.specs.declared.stage.Due.TheVariants.{Marking, Lifting, Nothing}
use Rattle.interleave_core.specs.declared.stage.Hand.{Hand}
use Rattle.interleave_core.specs.declared.stage.Stage.{Stage}
use Rattle.interleave_core.specs.declared.stage.Stage.TheVariants.{Ready, Awaiting, Holding, Ended}
use Rattle.interleave_core.proofs.Changes.{goes_on, may_by, plant_cases, close_by}
use Rattle.interleave_core.proofs.Kept.{planted_form}
use Rattle.interleave_core.proofs.Ruled.{place_inside, subject_inside}
use Rattle.interleave_core.proofs.Runs.{got, exists_by, lifted_tasks, in_hand-stage, same_due-true, session_of_window}
use Rattle.interleave_core.proofs.Alone.{due_in}
use Rattle.interleave_core.proofs.Tied.{lift_tag, changed_tag}
use Rattle.interleave_core.proofs.Turns.{IsChange, controller_in, due_is}

-- ---- the tags rise

abbrev pub Rises : Parts → Parts → Type 0
Rises c d = (p : ℕ) → p < length c.cells → (word_at c.cells p).tag ≤ (word_at d.cells p).tag

tag_set : (cells : List Cell) (p : ℕ) (x : Cell) (q : ℕ) → p < length cells → (word_at cells p).tag ≤ x.tag → (word_at cells q).tag ≤ (word_at (set cells p x) q).tag
tag_set cells p x q lt up = elim (cases_eq q p) [
  | inl same ↦
      let here : word_at (set cells p x) q ≡ x = get_or-set_at cells p q x no_cell same lt in
      subst (λ (y : Cell). (word_at cells q).tag ≤ y.tag) (sym here) (subst (λ (n : ℕ). (word_at cells n).tag ≤ x.tag) (sym same) up)
  | inr apart ↦
      let other : word_at (set cells p x) q ≡ word_at cells q = get_or-set_other cells p q x no_cell apart in
      subst (λ (y : Cell). (word_at cells q).tag ≤ y.tag) (sym other) (omega arith)
]

new_tag : (w : World) (x : PlaceChange) (old : ℕ) (b : Bool) → x.closes ≡ b → 0 < x.session → (x.closes ≡ true → old + 1 ≡ 2 * x.session) → (x.closes ≡ false → old + 1 < 2 * x.session) → old ≤ (changed_cell w x).tag
new_tag w x old true e pos window lower = let was = window e in let tag = changed_tag w x true x.session e refl pos in omega (arith, was, tag)
new_tag w x old false e pos window lower = let was = lower e in let tag = changed_tag w x false x.session e refl pos in omega (arith, was, tag)

changed_rises : (w : World) (c : Parts) (t : ℕ) (x : PlaceChange) → AreSteady w c → t < length c.tasks → change_due w t (part_of c t) (part_of c t).stage ≡ Some x → Rises c (changed w c t (part_of c t) x).parts
changed_rises w c t x is lt due =
    let u : TaskPart = part_of c t in
    let change : IsChange w c.cells t u x = due_is w c.cells t u u.stage x is.is_plan (is.tied t lt) due in
    let inside : x.place.0 < length c.cells = subst (λ (n : ℕ). x.place.0 < n) (sym is.cell_count) change.own.inside in
    λ q l. tag_set c.cells x.place.0 (changed_cell w x) q inside (new_tag w x (word_at c.cells x.place.0).tag x.closes refl change.own.positive change.window change.lower)

pub rises : (w : World) (c : Parts) (e : Event) (x : Stepped) → AreSteady w c → parts_step w c e ≡ Some x → Rises c x.parts
rises w c (Fetch t) x is h =
    let u : TaskPart = part_of c t.0 in
    let at = exists_by (nat_lt t.0 (length c.tasks)) (option_map (cell_fetched w c t.0 u) (place_due w t.0 u u.stage)) x h in
    let p = got ℕ (cell_fetched w c t.0 u) (place_due w t.0 u u.stage) x at.1 in
    subst (λ (y : Stepped). Rises c y.parts) (sym p.2) (λ q l. omega arith)
rises w c (Mark t) x is h =
    let u : TaskPart = part_of c t.0 in
    let at = exists_by (nat_lt t.0 (length c.tasks)) (option_map (fact_marked w c t.0 u) (in_hand Marking u.stage)) x h in
    let g = got Hand (fact_marked w c t.0 u) (in_hand Marking u.stage) x at.1 in
    subst (λ (y : Stepped). Rises c y.parts) (sym g.2) (λ q l. omega arith)
rises w c (Lift t) x is h =
    let u : TaskPart = part_of c t.0 in
    let at = exists_by (nat_lt t.0 (length c.tasks)) (option_map (lifted w c t.0 u) (in_hand Lifting u.stage)) x h in
    let g = got Hand (lifted w c t.0 u) (in_hand Lifting u.stage) x at.1 in
    subst (λ (y : Stepped). Rises c y.parts) (sym g.2)
    (λ q l. let same = lift_tag w c g.0 (same_cell (word_at c.cells g.0.place.0) g.0.cell) refl q l in omega (arith, same))
rises w c (Do t) x is h =
    let u : TaskPart = part_of c t.0 in
    let at = exists_by (nat_lt t.0 (length c.tasks)) (option_map (done_by c t.0) (task_done w t.0 u u.stage)) x h in
    let v = got TaskPart (done_by c t.0) (task_done w t.0 u u.stage) x at.1 in
    subst (λ (y : Stepped). Rises c y.parts) (sym v.2) (λ q l. omega arith)
rises w c (Plant s p) x is h = elim (plant_cases w c s.0 p.0 x h) [
  | inl whole ↦
      let at = may_by (nat_lt p.0 (length w.places)) (nat_lt 0 s.0) (nat_eq (window_at (plan_in w) p.0) s.0) (nat_eq (word_at c.cells p.0).tag 0) whole.may in
      let zero_tag : (word_at c.cells p.0).tag ≡ 0 = eqb-true (word_at c.cells p.0).tag 0 at.3 in
      let inside : p.0 < length c.cells = subst (λ (n : ℕ). p.0 < n) (sym is.cell_count) (ltb-true p.0 (length w.places) at.0) in
      subst (λ (y : Stepped). Rises c y.parts) (sym whole.made) (λ q l. tag_set c.cells p.0 (breakpoint_of s.0) q inside (omega (arith, zero_tag)))
  | inr by ↦ subst (λ (y : Stepped). Rises c y.parts) (sym by.made) (changed_rises w c by.task by.change is by.there by.due)
]
rises w c (Close s p) x is h =
    let by = close_by w c s.0 p.0 x h in
    subst (λ (y : Stepped). Rises c y.parts) (sym by.made) (changed_rises w c by.task by.change is by.there by.due)

-- ---- the session is over at its places

abbrev pub AreOver : World → ℕ → Parts → Type 0
AreOver w s c = (p : ℕ) → is_controlled (plan_in w) s p ≡ true → 2 * s ≤ (word_at c.cells p).tag

session_there : (s : ℕ) (cs : List ControlledView) → is_some (controller_in s cs) ≡ true → (k : ℕ) × (k < length cs) × ((get_or cs k no_controlled).session ≡ s)
session_there s [] h = let f : false ≡ true = h in absurd cc
session_there s (c ∷ cs) h = by (nat_eq c.session s) refl h (session_there s cs)
  where
    by : (b : Bool) → nat_eq c.session s ≡ b → is_some (option_map (λ (d : ControlledView). d.by) (if b then Some c else find (λ (d : ControlledView). nat_eq d.session s) cs)) ≡ true →
        (is_some (controller_in s cs) ≡ true → (k : ℕ) × (k < length cs) × ((get_or cs k no_controlled).session ≡ s)) → (k : ℕ) × (k < length (c ∷ cs)) × ((get_or (c ∷ cs) k no_controlled).session ≡ s)
    by true e h more = (zero, omega arith, eqb-true c.session s e)
    by false e h more = let k = more h in (suc k.0, omega (arith, k.1), k.2)

-- a controlled session has a number, and is over places without a whole session alone
pub record IsLocal (w : World) (s : ℕ) : Type 0 where
  pub some : 0 < s
  pub places : (p : ℕ) → p < length w.places → is_over (plan_in w) s p ≡ true → is_controlled (plan_in w) s p ≡ true
  pub inside : (p : ℕ) → is_controlled (plan_in w) s p ≡ true → p < length w.places

pub is_local : (w : World) (s : ℕ) → IsPlan (plan_in w) → is_some (controller_of w s) ≡ true → IsLocal w s
is_local w s plan h =
    let k = session_there s (plan_in w).controlled h in
    record {
      some = subst (λ (n : ℕ). 0 < n) k.2 (plan.controlled k.0 no_controlled k.1).from;
      places = λ p l over. elim (over_cases (plan_in w) s p over) [
        | inl window ↦ absurd (plan.no_windows k.0 no_controlled k.1 p l (window ∙ sym k.2))
        | inr there ↦ there
      ];
      inside = λ p there.
          let j = any_at (λ (c : ControlledView). nat_eq c.session s && has_place c.places p) (plan_in w).controlled no_controlled there in
          let c : ControlledView = get_or (plan_in w).controlled j.0 no_controlled in
          at_place (λ (n : ℕ). n < length w.places) c.places p (plan.controlled j.0 no_controlled j.1).of_plan (and_parts (nat_eq c.session s) (has_place c.places p) j.2).1;
    }

pub over_rises : (w : World) (s : ℕ) (c d : Parts) → IsLocal w s → length c.cells ≡ length w.places → Rises c d → AreOver w s c → AreOver w s d
over_rises w s c d local size up is = λ p there.
    let l : p < length c.cells = subst (λ (n : ℕ). p < n) (sym size) (local.inside p there) in
    let was = is p there in
    let rose = up p l in
    omega (arith, was, rose)

-- ---- the hands

abbrev pub Clear : ℕ → Stage → Type 0
Clear s stage = has_unmarked s stage ≡ false

-- one task changes
one_clear : (s : ℕ) (c d : Parts) (t : ℕ) (u : TaskPart) → d.tasks ≡ set c.tasks t u → t < length c.tasks → (Clear s (part_of c t).stage → Clear s u.stage) → (r : ℕ) → Clear s (part_of c r).stage → Clear s (part_of d r).stage
one_clear s c d t u e lt one r is =
    let there : part_of d r ≡ get_or (set c.tasks t u) r (first_part no_task) = ap (λ (x : List TaskPart). get_or x r (first_part no_task)) e in
    elim (cases_eq r t) [
      | inl same ↦ subst (λ (v : TaskPart). Clear s v.stage) (sym (there ∙ get_or-set_at c.tasks t r u (first_part no_task) same lt)) (one (subst (λ (n : ℕ). Clear s (part_of c n).stage) same is))
      | inr other ↦ subst (λ (v : TaskPart). Clear s v.stage) (sym (there ∙ get_or-set_other c.tasks t r u (first_part no_task) other)) is
    ]

due_inside : (w : World) (t : ℕ) (u : TaskPart) (stage : Stage) (p : ℕ) → place_due w t u stage ≡ Some p → p < length w.places
due_inside w t u Ready p h = place_inside w u.state.machine.cpu.ia p (due_in (has_returned u.state) (is_spent w t u.state) (place_at w u.state.machine.cpu.ia) p h).2
due_inside w t u Awaiting p h = subject_inside w (step_of w t u).visits p h
due_inside w t u (Holding x) p h = let n : None ≡ Some p = h in absurd cc
due_inside w t u (Ended x) p h = let n : None ≡ Some p = h in absurd cc

-- no breakpoint of the session stands where one can be fetched
fetch_clear : (w : World) (s : ℕ) (c : Parts) (subject : Bool) (p : ℕ) → AreSteady w c → IsLocal w s → AreOver w s c → p < length w.places → Clear s (Holding (hand_at w c subject p))
fetch_clear w s c subject p is local over lt = by (nat_eq (word_at c.cells p).half breakpoint) (not (subject && is_execute (original_at (plan_in w) p))) refl
  where
    cell : Cell
    cell = word_at c.cells p

    apart : cell.half ≡ breakpoint → nat_eq (cell.tag + 1) (2 * s) ≡ true → ⊥
    apart half same =
        let form = planted_form w p cell is.is_plan lt (is.words p lt) half in
        let tag : cell.tag ≡ window_tag form.0 = ap (λ (x : Cell). x.tag) form.3 in
        let sum : cell.tag + 1 ≡ 2 * s = eqb-true (cell.tag + 1) (2 * s) same in
        let pos = form.1 in
        let session : form.0 ≡ s = omega (arith, tag, sum, pos) in
        let high = over p (local.places p lt (subst (λ (n : ℕ). is_over (plan_in w) n p ≡ true) session form.2)) in
        omega (arith, high, sum)

    by : (b d : Bool) → nat_eq cell.half breakpoint ≡ b → (same_due (if b && d then Marking else Nothing) Marking && nat_eq (cell.tag + 1) (2 * s)) ≡ false
    by true true e = false_from_ne_true (nat_eq (cell.tag + 1) (2 * s)) (apart (eqb-true cell.half breakpoint e))
    by true false e = refl
    by false d e = refl

mark_clear : (s : ℕ) (u : TaskPart) (h : Hand) (b : Bool) → Clear s (with_due u h (if b then Lifting else Nothing)).stage
mark_clear s u h true = refl
mark_clear s u h false = refl

after_clear : (s : ℕ) (next : Next) → Clear s (stage_after next)
after_clear s On = refl
after_clear s (NextEnded e) = refl

whole_clear : (s : ℕ) (w : World) (t : ℕ) (u : TaskPart) (at : Option ℕ) → Clear s (awaits_or u (executed w t u) at).stage
whole_clear s w t u None = after_clear s (step_of w t u).next
whole_clear s w t u (Some p) = refl

goes_clear : (s : ℕ) (w : World) (t : ℕ) (u v : TaskPart) (stage : Stage) → task_goes_on w t u stage ≡ Some v → Clear s v.stage
goes_clear s w t u v Ready h = ready (has_returned u.state) (is_spent w t u.state) (place_at w u.state.machine.cpu.ia) h
  where
    ready : (returned spent : Bool) (at : Option ℕ) → (if returned then Some (with_stage u (Ended Returned)) else (if spent then Some (with_stage u (Ended Spent)) else (if is_none at then Some (instruction_executed w t u) else None))) ≡ Some v → Clear s v.stage
    ready true spent at k = subst (λ (x : TaskPart). Clear s x.stage) (same_Some _ v k) refl
    ready false true at k = subst (λ (x : TaskPart). Clear s x.stage) (same_Some _ v k) refl
    ready false false None k = subst (λ (x : TaskPart). Clear s x.stage) (same_Some _ v k) (whole_clear s w t u (subject_place w (step_of w t u).visits))
    ready false false (Some p) k = let n : None ≡ Some v = k in absurd cc
goes_clear s w t u v Awaiting h = let n : None ≡ Some v = h in absurd cc
goes_clear s w t u v (Ended e) h = let n : None ≡ Some v = h in absurd cc
goes_clear s w t u v (Holding g) h = by (same_due g.due Nothing) g.subject h
  where
    by : (nothing subject : Bool) → (if nothing then Some (if subject then executed w t u else instruction_executed w t u) else None) ≡ Some v → Clear s v.stage
    by false subject k = let n : None ≡ Some v = k in absurd cc
    by true true k = subst (λ (x : TaskPart). Clear s x.stage) (same_Some _ v k) (after_clear s (step_of w t u).next)
    by true false k = subst (λ (x : TaskPart). Clear s x.stage) (same_Some _ v k) (whole_clear s w t u (subject_place w (step_of w t u).visits))

-- and so no task comes to one
pub clear_step : (w : World) (s : ℕ) (c : Parts) (e : Event) (x : Stepped) → AreSteady w c → IsLocal w s → AreOver w s c → parts_step w c e ≡ Some x → (r : ℕ) → Clear s (part_of c r).stage → Clear s (part_of x.parts r).stage
clear_step w s c (Fetch t) x is local over h r clear =
    let u : TaskPart = part_of c t.0 in
    let at = exists_by (nat_lt t.0 (length c.tasks)) (option_map (cell_fetched w c t.0 u) (place_due w t.0 u u.stage)) x h in
    let p = got ℕ (cell_fetched w c t.0 u) (place_due w t.0 u u.stage) x at.1 in
    let lt : p.0 < length w.places = due_inside w t.0 u u.stage p.0 p.1 in
    subst (λ (y : Stepped). Clear s (part_of y.parts r).stage) (sym p.2)
    (one_clear s c (cell_fetched w c t.0 u p.0).parts t.0 _ refl (ltb-true t.0 (length c.tasks) at.0) (λ _. fetch_clear w s c (is_awaiting u.stage) p.0 is local over lt) r clear)
clear_step w s c (Mark t) x is local over h r clear =
    let u : TaskPart = part_of c t.0 in
    let at = exists_by (nat_lt t.0 (length c.tasks)) (option_map (fact_marked w c t.0 u) (in_hand Marking u.stage)) x h in
    let g = got Hand (fact_marked w c t.0 u) (in_hand Marking u.stage) x at.1 in
    let found : FactSet = set_of w c (tag_session g.0.cell.tag) g.0.place.0 in
    let full : Bool = is_full (kind_at (plan_in w) g.0.place.0) (with_fact found (fact_in w t.0 u g.0)) in
    subst (λ (y : Stepped). Clear s (part_of y.parts r).stage) (sym g.2)
    (one_clear s c (fact_marked w c t.0 u g.0).parts t.0 (with_due u g.0 (if full then Lifting else Nothing)) refl (ltb-true t.0 (length c.tasks) at.0) (λ _. mark_clear s u g.0 full) r clear)
clear_step w s c (Lift t) x is local over h r clear =
    let u : TaskPart = part_of c t.0 in
    let at = exists_by (nat_lt t.0 (length c.tasks)) (option_map (lifted w c t.0 u) (in_hand Lifting u.stage)) x h in
    let g = got Hand (lifted w c t.0 u) (in_hand Lifting u.stage) x at.1 in
    let taken : Bool = same_cell (word_at c.cells g.0.place.0) g.0.cell in
    let tasks : (lifted w c t.0 u g.0).parts.tasks ≡ set c.tasks t.0 (with_due u g.0 Nothing) = ap (λ (ts : List TaskPart). set ts t.0 (with_due u g.0 Nothing)) (lifted_tasks taken c g.0.place.0 (original_under w g.0.place.0 g.0.cell)) in
    subst (λ (y : Stepped). Clear s (part_of y.parts r).stage) (sym g.2)
    (one_clear s c (lifted w c t.0 u g.0).parts t.0 (with_due u g.0 Nothing) tasks (ltb-true t.0 (length c.tasks) at.0) (λ _. refl) r clear)
clear_step w s c (Do t) x is local over h r clear =
    let u : TaskPart = part_of c t.0 in
    let at = exists_by (nat_lt t.0 (length c.tasks)) (option_map (done_by c t.0) (task_done w t.0 u u.stage)) x h in
    let v = got TaskPart (done_by c t.0) (task_done w t.0 u u.stage) x at.1 in
    subst (λ (y : Stepped). Clear s (part_of y.parts r).stage) (sym v.2)
    (one_clear s c (done_by c t.0 v.0).parts t.0 v.0 refl (ltb-true t.0 (length c.tasks) at.0) (λ _. goes_clear s w t.0 u v.0 u.stage (goes_on w t.0 u v.0 u.stage v.1)) r clear)
clear_step w s c (Plant n p) x is local over h r clear = elim (plant_cases w c n.0 p.0 x h) [
  | inl whole ↦ subst (λ (y : Stepped). Clear s (part_of y.parts r).stage) (sym whole.made) clear
  | inr by ↦ subst (λ (y : Stepped). Clear s (part_of y.parts r).stage) (sym by.made)
      (one_clear s c (changed w c by.task (part_of c by.task) by.change).parts by.task _ refl by.there (λ same. same) r clear)
]
clear_step w s c (Close n p) x is local over h r clear =
    let by = close_by w c n.0 p.0 x h in
    subst (λ (y : Stepped). Clear s (part_of y.parts r).stage) (sym by.made)
    (one_clear s c (changed w c by.task (part_of c by.task) by.change).parts by.task _ refl by.there (λ same. same) r clear)

-- the events change no number of tasks
count_step : (w : World) (c : Parts) (e : Event) (x : Stepped) → parts_step w c e ≡ Some x → length x.parts.tasks ≡ length c.tasks
count_step w c (Fetch t) x h =
    let u : TaskPart = part_of c t.0 in
    let at = exists_by (nat_lt t.0 (length c.tasks)) (option_map (cell_fetched w c t.0 u) (place_due w t.0 u u.stage)) x h in
    let p = got ℕ (cell_fetched w c t.0 u) (place_due w t.0 u u.stage) x at.1 in
    ap (λ (y : Stepped). length y.parts.tasks) p.2 ∙ length-set c.tasks t.0 _
count_step w c (Mark t) x h =
    let u : TaskPart = part_of c t.0 in
    let at = exists_by (nat_lt t.0 (length c.tasks)) (option_map (fact_marked w c t.0 u) (in_hand Marking u.stage)) x h in
    let g = got Hand (fact_marked w c t.0 u) (in_hand Marking u.stage) x at.1 in
    ap (λ (y : Stepped). length y.parts.tasks) g.2 ∙ length-set c.tasks t.0 _
count_step w c (Lift t) x h =
    let u : TaskPart = part_of c t.0 in
    let at = exists_by (nat_lt t.0 (length c.tasks)) (option_map (lifted w c t.0 u) (in_hand Lifting u.stage)) x h in
    let g = got Hand (lifted w c t.0 u) (in_hand Lifting u.stage) x at.1 in
    let taken : Bool = same_cell (word_at c.cells g.0.place.0) g.0.cell in
    ap (λ (y : Stepped). length y.parts.tasks) g.2 ∙ (ap (λ (ts : List TaskPart). length (set ts t.0 (with_due u g.0 Nothing))) (lifted_tasks taken c g.0.place.0 (original_under w g.0.place.0 g.0.cell)) ∙ length-set c.tasks t.0 _)
count_step w c (Do t) x h =
    let u : TaskPart = part_of c t.0 in
    let at = exists_by (nat_lt t.0 (length c.tasks)) (option_map (done_by c t.0) (task_done w t.0 u u.stage)) x h in
    let v = got TaskPart (done_by c t.0) (task_done w t.0 u u.stage) x at.1 in
    ap (λ (y : Stepped). length y.parts.tasks) v.2 ∙ length-set c.tasks t.0 _
count_step w c (Plant n p) x h = elim (plant_cases w c n.0 p.0 x h) [
  | inl whole ↦ ap (λ (y : Stepped). length y.parts.tasks) whole.made
  | inr by ↦ ap (λ (y : Stepped). length y.parts.tasks) by.made ∙ length-set c.tasks by.task _
]
count_step w c (Close n p) x h =
    let by = close_by w c n.0 p.0 x h in
    ap (λ (y : Stepped). length y.parts.tasks) by.made ∙ length-set c.tasks by.task _

-- ---- the sets

-- a mark is for the session of the breakpoint in hand
mark_stays : (w : World) (s : ℕ) (c : Parts) (t : ℕ) (h : Hand) (facts : FactSet) → AreSteady w c → 0 < s → t < length c.tasks → in_hand Marking (part_of c t).stage ≡ Some h → Clear s (part_of c t).stage →
    (p : ℕ) → p < length w.places → get_or (set c.sets (index_of (length w.places) (tag_session h.cell.tag) h.place.0) facts) (index_of (length w.places) s p) no_facts ≡ set_of w c s p
mark_stays w s c t h facts is pos lt due clear p l =
    let at = in_hand-stage Marking (part_of c t).stage h due in
    let hand : IsHand w h = is.hands t h lt due in
    let marking : h.due ≡ Marking = same_due-true h.due Marking at.1 in
    let stands = hand.planted (λ e. let no : Marking ≡ Nothing = sym marking ∙ e in absurd cc) in
    let tag : h.cell.tag ≡ window_tag stands.0 = ap (λ (x : Cell). x.tag) stands.3 in
    let session : tag_session h.cell.tag ≡ stands.0 = ap tag_session tag ∙ session_of_window stands.0 stands.1 in
    let some : 0 < tag_session h.cell.tag = subst (λ (n : ℕ). 0 < n) (sym session) stands.1 in
    get_or-set_other c.sets (index_of (length w.places) (tag_session h.cell.tag) h.place.0) (index_of (length w.places) s p) facts no_facts
    (λ same.
    let own : s ≡ tag_session h.cell.tag = (same_index (length w.places) s p (tag_session h.cell.tag) h.place.0 pos some l hand.place same).0 in
    let first = stands.1 in
    let sum : h.cell.tag + 1 ≡ 2 * s = omega (arith, own, session, tag, first) in
    let found : has_unmarked s (Holding h) ≡ true = and_from (same_due h.due Marking) _ at.1 (eq-eqb (h.cell.tag + 1) (2 * s) sum) in
    let no : true ≡ false = sym found ∙ (ap (has_unmarked s) (sym at.0) ∙ clear) in
    absurd cc)

pub sets_step : (w : World) (s : ℕ) (c : Parts) (e : Event) (x : Stepped) → AreSteady w c → 0 < s → parts_step w c e ≡ Some x → ((t : ℕ) → t < length c.tasks → Clear s (part_of c t).stage) → SetsStay w s c x.parts
sets_step w s c (Fetch t) x is pos h clear =
    let u : TaskPart = part_of c t.0 in
    let at = exists_by (nat_lt t.0 (length c.tasks)) (option_map (cell_fetched w c t.0 u) (place_due w t.0 u u.stage)) x h in
    let p = got ℕ (cell_fetched w c t.0 u) (place_due w t.0 u u.stage) x at.1 in
    subst (λ (y : Stepped). SetsStay w s c y.parts) (sym p.2) (λ q l. refl)
sets_step w s c (Mark t) x is pos h clear =
    let u : TaskPart = part_of c t.0 in
    let at = exists_by (nat_lt t.0 (length c.tasks)) (option_map (fact_marked w c t.0 u) (in_hand Marking u.stage)) x h in
    let lt : t.0 < length c.tasks = ltb-true t.0 (length c.tasks) at.0 in
    let g = got Hand (fact_marked w c t.0 u) (in_hand Marking u.stage) x at.1 in
    subst (λ (y : Stepped). SetsStay w s c y.parts) (sym g.2)
    (mark_stays w s c t.0 g.0 (with_fact (set_of w c (tag_session g.0.cell.tag) g.0.place.0) (fact_in w t.0 u g.0)) is pos lt g.1 (clear t.0 lt))
sets_step w s c (Lift t) x is pos h clear =
    let u : TaskPart = part_of c t.0 in
    let at = exists_by (nat_lt t.0 (length c.tasks)) (option_map (lifted w c t.0 u) (in_hand Lifting u.stage)) x h in
    let g = got Hand (lifted w c t.0 u) (in_hand Lifting u.stage) x at.1 in
    subst (λ (y : Stepped). SetsStay w s c y.parts) (sym g.2)
    (λ q l. ap (λ (sets : List FactSet). get_or sets (index_of (length w.places) s q) no_facts) (lifted_sets (same_cell (word_at c.cells g.0.place.0) g.0.cell) c g.0.place.0 (original_under w g.0.place.0 g.0.cell)))
  where
    lifted_sets : (b : Bool) (P : Parts) (p : ℕ) (y : Cell) → (if b then with_cell P p y else P).sets ≡ P.sets
    lifted_sets true P p y = refl
    lifted_sets false P p y = refl
sets_step w s c (Do t) x is pos h clear =
    let u : TaskPart = part_of c t.0 in
    let at = exists_by (nat_lt t.0 (length c.tasks)) (option_map (done_by c t.0) (task_done w t.0 u u.stage)) x h in
    let v = got TaskPart (done_by c t.0) (task_done w t.0 u u.stage) x at.1 in
    subst (λ (y : Stepped). SetsStay w s c y.parts) (sym v.2) (λ q l. refl)
sets_step w s c (Plant n p) x is pos h clear = elim (plant_cases w c n.0 p.0 x h) [
  | inl whole ↦ subst (λ (y : Stepped). SetsStay w s c y.parts) (sym whole.made) (λ q l. refl)
  | inr by ↦ subst (λ (y : Stepped). SetsStay w s c y.parts) (sym by.made) (λ q l. refl)
]
sets_step w s c (Close n p) x is pos h clear =
    let by = close_by w c n.0 p.0 x h in
    subst (λ (y : Stepped). SetsStay w s c y.parts) (sym by.made) (λ q l. refl)

-- ---- what is quiet

pub record Quiet (w : World) (c : Parts) (s : ℕ) : Type 0 where
  pub controlled : is_some (controller_of w s) ≡ true
  pub over : AreOver w s c
  pub clear : (t : ℕ) → t < length c.tasks → Clear s (part_of c t).stage

none_of : (s : ℕ) (tasks : List TaskPart) (t : ℕ) → any_unmarked s tasks ≡ false → t < length tasks → Clear s (get_or tasks t (first_part no_task)).stage
none_of s tasks t h lt = by (has_unmarked s (get_or tasks t (first_part no_task)).stage) refl
  where
    by : (b : Bool) → has_unmarked s (get_or tasks t (first_part no_task)).stage ≡ b → Clear s (get_or tasks t (first_part no_task)).stage
    by false e = e
    by true e = let no : false ≡ true = sym h ∙ any_shown (λ (u : TaskPart). has_unmarked s u.stage) tasks (first_part no_task) t lt e in absurd cc

pub quiet_is : (w : World) (c : Parts) (s : ℕ) → is_quiet w c s ≡ true → Quiet w c s
quiet_is w c s h =
    let rest = (and_parts (is_some (controller_of w s)) _ h).1 in
    record {
      controlled = (and_parts (is_some (controller_of w s)) _ h).0;
      over = λ p. closed_place (plan_in w) (λ q. (word_at c.cells q).tag) s p (and_parts (is_closed (plan_in w) (λ q. (word_at c.cells q).tag) s) _ rest).0;
      clear = λ t lt. none_of s c.tasks t (not-true (any_unmarked s c.tasks) (and_parts (is_closed (plan_in w) (λ p. (word_at c.cells p).tag) s) _ rest).1) lt;
    }

pub is_quiet_by : (w : World) (c : Parts) (s : ℕ) → Quiet w c s → is_quiet w c s ≡ true
is_quiet_by w c s is =
    let closed : is_closed (plan_in w) (λ p. (word_at c.cells p).tag) s ≡ true = closed_of_places (plan_in w) (λ p. (word_at c.cells p).tag) s is.over in
    let none : any_unmarked s c.tasks ≡ false = list_any_none (λ (u : TaskPart). has_unmarked s u.stage) c.tasks
    (λ t d lt. subst (λ (u : TaskPart). has_unmarked s u.stage ≡ false) (get_or_default c.tasks t (first_part no_task) d lt) (is.clear t lt)) in
    and_from (is_some (controller_of w s)) _ is.controlled (and_from (is_closed (plan_in w) (λ p. (word_at c.cells p).tag) s) _ closed (ap not none))

-- an event that is possible keeps it, and the session's sets
pub quiet_step : (w : World) (s : ℕ) (c : Parts) (e : Event) (x : Stepped) → AreSteady w c → parts_step w c e ≡ Some x → is_quiet w c s ≡ true → (is_quiet w x.parts s ≡ true) × SetsStay w s c x.parts
quiet_step w s c e x is h quiet =
    let old : Quiet w c s = quiet_is w c s quiet in
    let local : IsLocal w s = is_local w s is.is_plan old.controlled in (
      is_quiet_by w x.parts s (record {
        controlled = old.controlled;
        over = over_rises w s c x.parts local is.cell_count (rises w c e x is h) old.over;
        clear = λ t lt. clear_step w s c e x is local old.over h t (old.clear t (subst (λ (n : ℕ). t < n) (count_step w c e x h) lt));
      }),
      sets_step w s c e x is local.some h old.clear,
    )
