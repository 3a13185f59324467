-- Each event keeps each task and its sessions tied to the cells.
use Rattle.std.proofs.Common.{◌≡◌, ◌≢◌, inl, inr, ℕ, zero, suc, ◌+◌, ◌-◌, ◌*◌, ◌<◌, ◌≤◌, Bool, true, false, nat_eq, nat_lt, nat_le, if◌then◌else◌, Option, Some, None, option_map, List, [], ◌∷◌, length, get_or, set, map, slice_get, refl, sym, ◌∙◌, ap, subst, arith, eqb-true}
use Rattle.std.specs.Option.{option_and_then}
use Rattle.std.proofs.lemmas.Grind.{get_or-set_at}
use Rattle.std.proofs.lemmas.List.{get_or-map, get_or-set_other, length-set, length-map}
use Rattle.std.proofs.lemmas.Bool.{lt-ltb, le-leb, leb-true, ltb-true, cases_eq, and_parts}
use Rattle.cov_base.specs.declared.numbers.PlaceNo.{PlaceNo}
use Rattle.module_area.specs.Meaning.{word_at, no_cell, ControlledView, window_at, fresh_word, tag_session, kind_at}
use Rattle.module_area.specs.Rule.{IsPlan, is_controller}
use Rattle.module_area.specs.declared.cells.Cell.{Cell}
use Rattle.module_area.proofs.Laws.{one_controller}
use Rattle.module_area.specs.declared.places.Place.{Place}
use Rattle.cov_base.specs.Meaning.{FactSet, with_fact, is_full, State}
use Rattle.session_book.specs.Meaning.{task_of, no_task}
use Rattle.interleave_core.specs.Meaning.{World, TaskPart, Parts, part_of, first_part, plan_in, first_parts, Change, PlaceChange, place_change, sessions_by, change_of, next_place, after_change, Stepped, parts_step, cell_fetched, fact_marked, lifted, done_by, task_done, may_plant, breakpoint_of, changed_cell, changed, change_due, with_cell, with_due, original_under, same_cell, in_hand, hand_at, step_of, place_due, is_awaiting, stage_after, set_of, fact_in}
use Rattle.interleave_core.specs.declared.events.Event.{Event}
use Rattle.interleave_core.specs.declared.events.Event.TheVariants.{Fetch, Mark, Lift, Do, Plant, Close}
use Rattle.interleave_core.specs.declared.stage.Due.{Due}
use Rattle.interleave_core.specs.declared.stage.Due.TheVariants.{Marking, Lifting, Nothing}
use Rattle.interleave_core.specs.declared.stage.Hand.{Hand}
use Rattle.interleave_core.specs.declared.stage.Stage.{Stage}
use Rattle.interleave_core.specs.declared.stage.Stage.TheVariants.{Holding}
use Rattle.interleave_core.proofs.Changes.{is_done, may_by, Changed, plant_cases, close_by}
use Rattle.interleave_core.specs.Views.{closed_of, session_at, turn_number, turn_of, has_window, number_at, tag_at, IsTied, AreTied}
use Rattle.interleave_core.proofs.Runs.{exists_by, got, lifted_tasks}
use Rattle.interleave_core.proofs.Turns.{own, places_differ, session_rises, IsAsked, IsChange, change_asked, due_is}

-- ---- cells

-- the tags at the places of the task's sessions are the same
pub tied_same : (w : World) (cells new : List Cell) (t : ℕ) (u : TaskPart) → ((n i : ℕ) → i < length (session_at w t n).places → tag_at new (session_at w t n).places i ≡ tag_at cells (session_at w t n).places i) →
    IsTied w cells t u → IsTied w new t u
tied_same w cells new t u same is = record {
  opened = is.opened;
  some = is.some;
  changed = is.changed;
  planted = λ i lt there. ap (λ (n : ℕ). n + 1) (same (turn_number u) i lt) ∙ is.planted i lt there;
  later = λ n i from lt unless l. subst (λ (k : ℕ). k + 1 < 2 * (session_at w t n).session) (sym (same n i l)) (is.later n i from lt unless l);
}

-- a cell that changes at a place that another keeps
tag_other : (cells : List Cell) (p : ℕ) (x : Cell) (places : List PlaceNo) (i : ℕ) → number_at places i ≢ p → tag_at (set cells p x) places i ≡ tag_at cells places i
tag_other cells p x places i apart = ap (λ (c : Cell). c.tag) (get_or-set_other cells p (number_at places i) x no_cell apart)

tag_here : (cells : List Cell) (p : ℕ) (x : Cell) (places : List PlaceNo) (i : ℕ) → p < length cells → number_at places i ≡ p → tag_at (set cells p x) places i ≡ x.tag
tag_here cells p x places i lt same = ap (λ (c : Cell). c.tag) (get_or-set_at cells p (number_at places i) x no_cell same lt)

pub tied_other : (w : World) (cells : List Cell) (t u p : ℕ) (x : Cell) (part : TaskPart) → IsPlan (plan_in w) → is_controller (plan_in w) t p ≡ true → u ≢ t → IsTied w cells u part → IsTied w (set cells p x) u part
tied_other w cells t u p x part plan keeps apart is = tied_same w cells (set cells p x) u part
    (λ n i lt. tag_other cells p x (session_at w u n).places i
    (λ same. apart (one_controller (plan_in w) u t p plan (subst (λ (q : ℕ). is_controller (plan_in w) u q ≡ true) same (own w u n i plan lt).controller) keeps)))
    is

-- and at a place under a whole session
pub tied_window : (w : World) (cells : List Cell) (t p : ℕ) (x : Cell) (part : TaskPart) → IsPlan (plan_in w) → 0 < window_at (plan_in w) p → IsTied w cells t part → IsTied w (set cells p x) t part
tied_window w cells t p x part plan pos is = tied_same w cells (set cells p x) t part
    (λ n i lt. tag_other cells p x (session_at w t n).places i
    (λ same. let none : window_at (plan_in w) p ≡ 0 = subst (λ (q : ℕ). window_at (plan_in w) q ≡ 0) same (own w t n i plan lt).no_window in absurd (omega (arith, none, pos))))
    is

-- ---- the next place of the turn

module _ (w : World) (cells : List Cell) (t p : ℕ) (x : Cell) (u : TaskPart) (plan : IsPlan (plan_in w)) (size : length cells ≡ length w.places) (is : IsTied w cells t u)
    (there : u.changed < length (turn_of w t u).places) (here : number_at (turn_of w t u).places u.changed ≡ p) (stands : Bool) (is_open : u.is_open ≡ stands)
    (tag : x.tag + 1 ≡ (if stands then 2 * (turn_of w t u).session + 1 else 2 * (turn_of w t u).session)) where
  abbrev s : ℕ
  s = (turn_of w t u).session

  abbrev new : List Cell
  new = set cells p x

  number : turn_number u ≡ (if stands then u.opened - 1 else u.opened)
  number = ap (λ (b : Bool). if b then u.opened - 1 else u.opened) is_open

  in_cells : p < length cells
  in_cells = subst (λ (n : ℕ). p < n) (sym size) (subst (λ (q : ℕ). q < length w.places) here (own w t (turn_number u) u.changed plan there).inside)

  not_here : (i : ℕ) → i < length (turn_of w t u).places → i ≢ u.changed → number_at (turn_of w t u).places i ≢ p
  not_here i lt apart same = places_differ w t (turn_number u) i u.changed plan lt there apart (same ∙ sym here)

  other : (i : ℕ) → i < length (turn_of w t u).places → i ≢ u.changed → tag_at new (turn_of w t u).places i ≡ tag_at cells (turn_of w t u).places i
  other i lt apart = tag_other cells p x (turn_of w t u).places i (not_here i lt apart)

  window : (b : Bool) → u.is_open ≡ b → x.tag + 1 ≡ (if b then 2 * s + 1 else 2 * s) → (i : ℕ) → i < length (turn_of w t u).places → (if b then nat_le (u.changed + 1) i else nat_lt i (u.changed + 1)) ≡ true →
      tag_at new (turn_of w t u).places i + 1 ≡ 2 * s
  window true e k i lt h =
      let from : u.changed + 1 ≤ i = leb-true (u.changed + 1) i h in
      let had : has_window u i ≡ true = ap (λ (b : Bool). if b then nat_le u.changed i else nat_lt i u.changed) e ∙ le-leb u.changed i (omega (arith, from)) in
      ap (λ (n : ℕ). n + 1) (other i lt (λ same. omega (arith, same, from))) ∙ is.planted i lt had
  window false e k i lt h = elim (cases_eq i u.changed) [
    | inl same ↦
        let at : number_at (turn_of w t u).places i ≡ p = ap (number_at (turn_of w t u).places) same ∙ here in
        ap (λ (n : ℕ). n + 1) (tag_here cells p x (turn_of w t u).places i in_cells at) ∙ k
    | inr apart ↦
        let to : i < u.changed + 1 = ltb-true i (u.changed + 1) h in
        let had : has_window u i ≡ true = ap (λ (b : Bool). if b then nat_le u.changed i else nat_lt i u.changed) e ∙ lt-ltb i u.changed (omega (arith, to, apart)) in
        ap (λ (n : ℕ). n + 1) (other i lt apart) ∙ is.planted i lt had
  ]

  -- a later session is at this place under a lower tag than its own, too
  above : (b : Bool) → u.is_open ≡ b → x.tag + 1 ≡ (if b then 2 * s + 1 else 2 * s) → (n : ℕ) → turn_number u < n → n < length (sessions_by w t) → x.tag + 1 < 2 * (session_at w t n).session
  above true e k n up lt = let rises = session_rises w t (turn_number u) n plan up lt in omega (arith, k, rises)
  above false e k n up lt = let rises = session_rises w t (turn_number u) n plan up lt in omega (arith, k, rises)

  at_place : (n i : ℕ) → u.opened ≤ n → n < length (sessions_by w t) → (n ≡ u.opened → u.is_open ≡ false → u.changed + 1 ≤ i) → i < length (session_at w t n).places → number_at (session_at w t n).places i ≡ p → turn_number u < n
  at_place n i from lt unless l same = by stands is_open number
    where
      by : (b : Bool) → u.is_open ≡ b → turn_number u ≡ (if b then u.opened - 1 else u.opened) → turn_number u < n
      by true e k = let some : 0 < u.opened = is.some e in omega (arith, k, some, from)
      by false e k = elim (cases_eq n u.opened) [
        | inl now ↦
            let turn : n ≡ turn_number u = now ∙ sym k in
            let apart : i ≢ u.changed = λ z. let more = unless now e in omega (arith, more, z) in
            absurd (not_here i (subst (λ (m : ℕ). i < length (session_at w t m).places) turn l) apart (subst (λ (m : ℕ). number_at (session_at w t m).places i ≡ p) turn same))
        | inr apart ↦ omega (arith, k, from, apart)
      ]

  later : (n i : ℕ) → u.opened ≤ n → n < length (sessions_by w t) → (n ≡ u.opened → u.is_open ≡ false → u.changed + 1 ≤ i) → i < length (session_at w t n).places →
      tag_at new (session_at w t n).places i + 1 < 2 * (session_at w t n).session
  later n i from lt unless l = elim (cases_eq (number_at (session_at w t n).places i) p) [
    | inl same ↦
        let up : turn_number u < n = at_place n i from lt unless l same in
        subst (λ (k : ℕ). k + 1 < 2 * (session_at w t n).session) (sym (tag_here cells p x (session_at w t n).places i in_cells same)) (above stands is_open tag n up lt)
    | inr apart ↦ subst (λ (k : ℕ). k + 1 < 2 * (session_at w t n).session) (sym (tag_other cells p x (session_at w t n).places i apart))
        (is.later n i from lt (λ now shut. let more = unless now shut in omega (arith, more)) l)
  ]

  pub tied_next : IsTied w new t (record u { changed = u.changed + 1 })
  tied_next = record {
    opened = is.opened;
    some = is.some;
    changed = omega (arith, there);
    planted = λ i lt h. window stands is_open tag i lt (ap (λ (b : Bool). if b then nat_le (u.changed + 1) i else nat_lt i (u.changed + 1)) (sym is_open) ∙ h);
    later = later;
  }

-- ---- a Do

pub tied_stage : (w : World) (cells : List Cell) (t : ℕ) (u : TaskPart) (state : State) (stage : Stage) → IsTied w cells t u → IsTied w cells t (record u { state = state; stage = stage })
tied_stage w cells t u state stage is = record { opened = is.opened; some = is.some; changed = is.changed; planted = is.planted; later = is.later }

-- the places of the change are done
all_done : (ch : Change) (done : ℕ) → next_place done ch ≡ None → length ch.session.places ≤ done
all_done ch done h = by ch.session.places done h
  where
    by : (places : List PlaceNo) (n : ℕ) → option_map (place_change ch) (slice_get places n) ≡ None → length places ≤ n
    by [] n k = omega arith
    by (p ∷ ps) zero k = absurd cc
    by (p ∷ ps) (suc n) k = let rest = by ps n k in omega (arith, rest)

-- what an SVC that opens a session leaves
tied_opened : (w : World) (cells : List Cell) (t : ℕ) (u : TaskPart) → u.is_open ≡ false → turn_number u < length (sessions_by w t) → length (turn_of w t u).places ≤ u.changed → IsTied w cells t u →
    IsTied w cells t (record u { opened = u.opened + 1; is_open = true; changed = 0 })
tied_opened w cells t u shut lt whole is =
    let number : turn_number u ≡ u.opened = ap (λ (b : Bool). if b then u.opened - 1 else u.opened) shut in
    let turn : turn_number u ≡ u.opened + 1 - 1 = omega (arith, number) in
    record {
      opened = omega (arith, number, lt);
      some = λ e. omega arith;
      changed = omega arith;
      planted = subst (λ (n : ℕ). (i : ℕ) → i < length (session_at w t n).places → nat_le 0 i ≡ true → tag_at cells (session_at w t n).places i + 1 ≡ 2 * (session_at w t n).session) turn
          (λ i l h. is.planted i l (ap (λ (b : Bool). if b then nat_le u.changed i else nat_lt i u.changed) shut ∙ lt-ltb i u.changed (omega (arith, l, whole))));
      later = λ n i from l unless k. is.later n i (omega (arith, from)) l (λ same e. omega (arith, same, from)) k;
    }

-- and one that closes it
tied_closed : (w : World) (cells : List Cell) (t : ℕ) (u : TaskPart) → u.is_open ≡ true → IsTied w cells t u → IsTied w cells t (record u { opened = u.opened; is_open = false; changed = 0 })
tied_closed w cells t u is_open is = record {
  opened = is.opened;
  some = λ e. let f : false ≡ true = e in absurd cc;
  changed = omega arith;
  planted = λ i l h. let none : i < 0 = ltb-true i 0 h in absurd (omega arith);
  later = λ n i from l unless k. is.later n i from l (λ same e. let f : true ≡ false = sym is_open ∙ e in absurd cc) k;
}

tied_after : (w : World) (cells : List Cell) (t : ℕ) (u : TaskPart) (o : Option Change) → change_of w t u ≡ o → option_and_then (next_place u.changed) o ≡ None → IsTied w cells t u → IsTied w cells t (after_change o u)
tied_after w cells t u None e none is = is
tied_after w cells t u (Some ch) e none is = by ch.closes (sym ask.closes)
  where
    ask : IsAsked w t u ch
    ask = change_asked w t u ch e

    whole : length (turn_of w t u).places ≤ u.changed
    whole = subst (λ (c : ControlledView). length c.places ≤ u.changed) ask.session (all_done ch u.changed none)

    by : (b : Bool) → u.is_open ≡ b → IsTied w cells t (record u { opened = if b then u.opened else u.opened + 1; is_open = if b then false else true; changed = 0 })
    by true h = tied_closed w cells t u h is
    by false h = tied_opened w cells t u h ask.there whole is

tied_done : (w : World) (cells : List Cell) (t : ℕ) (u v : TaskPart) (stage : Stage) → task_done w t u stage ≡ Some v → IsTied w cells t u → IsTied w cells t v
tied_done w cells t u v stage h is = elim (is_done w t u v stage h) [
  | inl kept ↦ subst (IsTied w cells t) (sym kept.1) (tied_stage w cells t u u.state kept.0 is)
  | inr did ↦ subst (IsTied w cells t) (sym did.1) (tied_stage w cells t (after_change (change_of w t u) u) (step_of w t u).state (stage_after (step_of w t u).next) (tied_after w cells t u (change_of w t u) refl did.0 is))
]

-- ---- each event

-- one task changes
all_but : (w : World) (c d : Parts) (t : ℕ) (u : TaskPart) → d.tasks ≡ set c.tasks t u → t < length c.tasks → IsTied w d.cells t u → ((s : ℕ) → s < length c.tasks → s ≢ t → IsTied w d.cells s (part_of c s)) → AreTied w d
all_but w c d t u e lt one all s l =
    let inside : s < length c.tasks = subst (λ (n : ℕ). s < n) (ap (λ (x : List TaskPart). length x) e ∙ length-set c.tasks t u) l in
    let there : part_of d s ≡ get_or (set c.tasks t u) s (first_part no_task) = ap (λ (x : List TaskPart). get_or x s (first_part no_task)) e in
    elim (cases_eq s t) [
      | inl same ↦ subst (IsTied w d.cells s) (sym (there ∙ get_or-set_at c.tasks t s u (first_part no_task) same lt)) (subst (λ (n : ℕ). IsTied w d.cells n u) (sym same) one)
      | inr other ↦ subst (IsTied w d.cells s) (sym (there ∙ get_or-set_other c.tasks t s u (first_part no_task) other)) (all s inside other)
    ]

-- a change by the controller
pub changed_tag : (w : World) (x : PlaceChange) (b : Bool) (s : ℕ) → x.closes ≡ b → x.session ≡ s → 0 < s → (changed_cell w x).tag + 1 ≡ (if b then 2 * s + 1 else 2 * s)
changed_tag w x b s e same pos = ap (λ (y : Bool). (if y then closed_of w x.session x.place.0 else breakpoint_of x.session).tag + 1) e ∙ by b
  where
    by : (y : Bool) → (if y then closed_of w x.session x.place.0 else breakpoint_of x.session).tag + 1 ≡ (if y then 2 * s + 1 else 2 * s)
    by true = omega (arith, same)
    by false = omega (arith, same, pos)

tied_changed : (w : World) (c : Parts) (t : ℕ) (x : PlaceChange) → IsPlan (plan_in w) → length c.cells ≡ length w.places → t < length c.tasks → change_due w t (part_of c t) (part_of c t).stage ≡ Some x → AreTied w c →
    AreTied w (changed w c t (part_of c t) x).parts
tied_changed w c t x plan size lt due all =
    let u : TaskPart = part_of c t in
    let is : IsChange w c.cells t u x = due_is w c.cells t u u.stage x plan (all t lt) due in
    let pos : 0 < (turn_of w t u).session = subst (λ (n : ℕ). 0 < n) is.session is.own.positive in
    all_but w c (changed w c t u x).parts t (record u { changed = u.changed + 1 }) refl lt
    (tied_next w c.cells t x.place.0 (changed_cell w x) u plan size (all t lt) is.there (ap (λ (q : PlaceNo). q.0) (sym is.place)) u.is_open refl (changed_tag w x u.is_open (turn_of w t u).session is.closes is.session pos))
    (λ s l apart. tied_other w c.cells t s x.place.0 (changed_cell w x) (part_of c s) plan is.own.controller apart (all s l))

-- a lift keeps the tags
pub lift_tag : (w : World) (c : Parts) (h : Hand) (taken : Bool) → same_cell (word_at c.cells h.place.0) h.cell ≡ taken → (p : ℕ) → p < length c.cells →
    (word_at (if taken then with_cell c h.place.0 (original_under w h.place.0 h.cell) else c).cells p).tag ≡ (word_at c.cells p).tag
lift_tag w c h false e p lt = refl
lift_tag w c h true e p lt = elim (cases_eq p h.place.0) [
  | inl same ↦
      let tags : (word_at c.cells h.place.0).tag ≡ h.cell.tag = eqb-true (word_at c.cells h.place.0).tag h.cell.tag (and_parts (nat_eq (word_at c.cells h.place.0).tag h.cell.tag) _ e).0 in
      ap (λ (x : Cell). x.tag) (get_or-set_at c.cells h.place.0 p (original_under w h.place.0 h.cell) no_cell same (subst (λ (n : ℕ). n < length c.cells) same lt))
      ∙ (sym tags ∙ ap (λ (n : ℕ). (word_at c.cells n).tag) (sym same))
  | inr apart ↦ ap (λ (x : Cell). x.tag) (get_or-set_other c.cells h.place.0 p (original_under w h.place.0 h.cell) no_cell apart)
]

tied_lifted : (w : World) (c : Parts) (t : ℕ) (h : Hand) → IsPlan (plan_in w) → length c.cells ≡ length w.places → t < length c.tasks → AreTied w c → AreTied w (lifted w c t (part_of c t) h).parts
tied_lifted w c t h plan size lt all =
    let taken : Bool = same_cell (word_at c.cells h.place.0) h.cell in
    let u : TaskPart = part_of c t in
    let x : Cell = original_under w h.place.0 h.cell in
    let tasks : (lifted w c t u h).parts.tasks ≡ set c.tasks t (with_due u h Nothing) = ap (λ (ts : List TaskPart). set ts t (with_due u h Nothing)) (lifted_tasks taken c h.place.0 x) in
    let same : (s : ℕ) → IsTied w c.cells s (part_of c s) → IsTied w (if taken then with_cell c h.place.0 x else c).cells s (part_of c s) =
    λ s is. tied_same w c.cells (if taken then with_cell c h.place.0 x else c).cells s (part_of c s)
    (λ n i l. lift_tag w c h taken refl (number_at (session_at w s n).places i) (subst (λ (k : ℕ). number_at (session_at w s n).places i < k) (sym size) (own w s n i plan l).inside))
    is in
    all_but w c (lifted w c t u h).parts t (with_due u h Nothing) tasks lt (tied_stage w (if taken then with_cell c h.place.0 x else c).cells t u u.state (Holding (record h { due = Nothing })) (same t (all t lt)))
    (λ s l apart. same s (all s l))

tied_whole : (w : World) (c : Parts) (s p : ℕ) → IsPlan (plan_in w) → may_plant w c s p ≡ true → AreTied w c → AreTied w (with_cell c p (breakpoint_of s))
tied_whole w c s p plan may all t lt =
    let at = may_by (nat_lt p (length w.places)) (nat_lt 0 s) (nat_eq (window_at (plan_in w) p) s) (nat_eq (word_at c.cells p).tag 0) may in
    let pos : 0 < window_at (plan_in w) p = subst (λ (n : ℕ). 0 < n) (sym (eqb-true (window_at (plan_in w) p) s at.2)) (ltb-true 0 s at.1) in
    tied_window w c.cells t p (breakpoint_of s) (part_of c t) plan pos (all t lt)

pub tied_step : (w : World) (c : Parts) (e : Event) (x : Stepped) → IsPlan (plan_in w) → length c.cells ≡ length w.places → parts_step w c e ≡ Some x → AreTied w c → AreTied w x.parts
tied_step w c (Fetch t) x plan size h all =
    let u : TaskPart = part_of c t.0 in
    let at = exists_by (nat_lt t.0 (length c.tasks)) (option_map (cell_fetched w c t.0 u) (place_due w t.0 u u.stage)) x h in
    let lt : t.0 < length c.tasks = ltb-true t.0 (length c.tasks) at.0 in
    let p = got ℕ (cell_fetched w c t.0 u) (place_due w t.0 u u.stage) x at.1 in
    subst (λ (y : Stepped). AreTied w y.parts) (sym p.2)
    (all_but w c (cell_fetched w c t.0 u p.0).parts t.0 _ refl lt (tied_stage w c.cells t.0 u u.state (Holding (hand_at w c (is_awaiting u.stage) p.0)) (all t.0 lt)) (λ s l apart. all s l))
tied_step w c (Mark t) x plan size h all =
    let u : TaskPart = part_of c t.0 in
    let at = exists_by (nat_lt t.0 (length c.tasks)) (option_map (fact_marked w c t.0 u) (in_hand Marking u.stage)) x h in
    let lt : t.0 < length c.tasks = ltb-true t.0 (length c.tasks) at.0 in
    let g = got Hand (fact_marked w c t.0 u) (in_hand Marking u.stage) x at.1 in
    let found : FactSet = set_of w c (tag_session g.0.cell.tag) g.0.place.0 in
    let due : Due = if is_full (kind_at (plan_in w) g.0.place.0) (with_fact found (fact_in w t.0 u g.0)) then Lifting else Nothing in
    subst (λ (y : Stepped). AreTied w y.parts) (sym g.2)
    (all_but w c (fact_marked w c t.0 u g.0).parts t.0 (with_due u g.0 due) refl lt (tied_stage w c.cells t.0 u u.state (Holding (record g.0 { due = due })) (all t.0 lt)) (λ s l apart. all s l))
tied_step w c (Lift t) x plan size h all =
    let u : TaskPart = part_of c t.0 in
    let at = exists_by (nat_lt t.0 (length c.tasks)) (option_map (lifted w c t.0 u) (in_hand Lifting u.stage)) x h in
    let g = got Hand (lifted w c t.0 u) (in_hand Lifting u.stage) x at.1 in
    subst (λ (y : Stepped). AreTied w y.parts) (sym g.2) (tied_lifted w c t.0 g.0 plan size (ltb-true t.0 (length c.tasks) at.0) all)
tied_step w c (Do t) x plan size h all =
    let u : TaskPart = part_of c t.0 in
    let at = exists_by (nat_lt t.0 (length c.tasks)) (option_map (done_by c t.0) (task_done w t.0 u u.stage)) x h in
    let lt : t.0 < length c.tasks = ltb-true t.0 (length c.tasks) at.0 in
    let v = got TaskPart (done_by c t.0) (task_done w t.0 u u.stage) x at.1 in
    subst (λ (y : Stepped). AreTied w y.parts) (sym v.2) (all_but w c (done_by c t.0 v.0).parts t.0 v.0 refl lt (tied_done w c.cells t.0 u v.0 u.stage v.1 (all t.0 lt)) (λ s l apart. all s l))
tied_step w c (Plant s p) x plan size h all = elim (plant_cases w c s.0 p.0 x h) [
  | inl whole ↦ subst (λ (y : Stepped). AreTied w y.parts) (sym whole.made) (tied_whole w c s.0 p.0 plan whole.may all)
  | inr by ↦ subst (λ (y : Stepped). AreTied w y.parts) (sym by.made) (tied_changed w c by.task by.change plan size by.there by.due all)
]
tied_step w c (Close s p) x plan size h all =
    let by : Changed w c true s.0 p.0 x = close_by w c s.0 p.0 x h in
    subst (λ (y : Stepped). AreTied w y.parts) (sym by.made) (tied_changed w c by.task by.change plan size by.there by.due all)

-- ---- the start

tag_fresh : (places : List Place) (p : ℕ) → (word_at (map fresh_word places) p).tag ≡ 0
tag_fresh [] p = refl
tag_fresh (x ∷ xs) zero = refl
tag_fresh (x ∷ xs) (suc p) = tag_fresh xs p

tied_part : (w : World) (t : ℕ) (u : TaskPart) → IsPlan (plan_in w) → u.opened ≡ 0 → u.is_open ≡ false → u.changed ≡ 0 → IsTied w (map fresh_word w.places) t u
tied_part w t u plan opened shut changed = record {
  opened = omega (arith, opened);
  some = λ e. let f : false ≡ true = sym shut ∙ e in absurd cc;
  changed = omega (arith, changed);
  planted = λ i l h.
      let at : nat_lt i u.changed ≡ true = sym (ap (λ (b : Bool). if b then nat_le u.changed i else nat_lt i u.changed) shut) ∙ h in
      let none : i < u.changed = ltb-true i u.changed at in
      absurd (omega (arith, none, changed));
  later = λ n i from lt unless l. let pos = (own w t n i plan l).positive in omega (arith, tag_fresh w.places (number_at (session_at w t n).places i), pos);
}

pub tied_first : (w : World) → IsPlan (plan_in w) → AreTied w (first_parts w)
tied_first w plan t l =
    let lt : t < length w.job.tasks = subst (λ (n : ℕ). t < n) (length-map w.job.tasks first_part) l in
    subst (IsTied w (map fresh_word w.places) t) (sym (get_or-map first_part w.job.tasks t no_task (first_part no_task) lt)) (tied_part w t (first_part (task_of w.job t)) plan refl refl refl)
