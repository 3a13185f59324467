-- What the logs tell of the fetches, the events tell too.
use Rattle.std.proofs.Common.{◌≡◌, ◌⊎◌, inl, inr, ℕ, zero, suc, ◌-◌, ◌*◌, Bool, true, false, nat_eq, nat_lt, if◌then◌else◌, Option, Some, List, [], ◌∷◌, ◌++◌, length, map, Any, refl, sym, ◌∙◌, ap, subst, arith, option_map}
use Rattle.std.specs.Option.{option_map_or}
use Rattle.std.proofs.lemmas.List.{append_assoc, append-nil, map-append}
use Rattle.std.proofs.lemmas.List.Quantifiers.{Any-push}
use Rattle.std.proofs.lemmas.Option.{same_Some}
use Rattle.cov_base.specs.Meaning.{FactSet}
use Rattle.cov_base.specs.declared.facts.Fact.{Fact}
use Rattle.module_area.specs.Meaning.{tag_session, word_at}
use Rattle.module_area.specs.Rule.{window_tag}
use Rattle.module_area.specs.declared.cells.Cell.{Cell}
use Rattle.interleave_core.specs.Meaning.{World, TaskPart, part_of, Stepped, parts_step, cell_fetched, fact_marked, lifted, done_by, same_cell, in_hand, place_due, task_done, set_of}
use Rattle.interleave_core.specs.CoreState.{CoreState, core_step, core_after, core_from, log_after, with_entry, Item, Met, Gave}
use Rattle.interleave_core.specs.MeaningOfEvents.{Noted, Answered, in_stage, fetch_by, fetches}
use Rattle.interleave_core.specs.declared.events.Event.{Event}
use Rattle.interleave_core.specs.declared.events.Event.TheVariants.{Fetch, Mark, Lift, Do, Plant, Close}
use Rattle.interleave_core.specs.declared.events.Shown.{Shown}
use Rattle.interleave_core.specs.declared.events.Shown.TheVariants.{Fetched, Marked, Lifted, Done}
use Rattle.interleave_core.specs.declared.stage.Hand.{Hand}
use Rattle.interleave_core.specs.declared.stage.Due.TheVariants.{Marking, Lifting}
use Rattle.interleave_core.specs.declared.stage.Stage.{Stage}
use Rattle.interleave_core.specs.declared.stage.Stage.TheVariants.{Ready, Awaiting, Holding, Ended}
use Rattle.interleave_core.proofs.Changes.{plant_cases, close_by, logs_whole, logs_plant, logs_close}
use Rattle.interleave_core.proofs.Exact.{HasShown}
use Rattle.interleave_core.proofs.Logs.{logged, got_step}
use Rattle.interleave_core.proofs.Runs.{got, exists_by, through}

-- of a log the fetches, the oldest first
abbrev pub told : List Item → List Answered
told [] = []
told (Met e ∷ log) = told log ++ record { cell = e.cell; visit = record { place = e.place; fact = e.fact } } ∷ []
told (Gave p tag ∷ log) = told log

marked_told : (w : World) (t : ℕ) (u : TaskPart) (f : FactSet) (log : List Item) → told (log_after w t u (Marked f) log) ≡ told log
marked_told w t u f [] = refl
marked_told w t u f (Met e ∷ log) = refl
marked_told w t u f (Gave p tag ∷ log) = refl

lifted_told : (w : World) (t : ℕ) (u : TaskPart) (b : Bool) (log : List Item) → told (log_after w t u (Lifted b) log) ≡ told log
lifted_told w t u b [] = refl
lifted_told w t u b (Met e ∷ log) = refl
lifted_told w t u b (Gave p tag ∷ log) = refl

-- where the event is no fetch
still : (b : Bool) (new log : List Item) → told new ≡ told log → told (if b then new else log) ≡ told log ++ []
still true new log h = h ∙ sym (append-nil (told log))
still false new log h = sym (append-nil (told log))

gave_told : (b : Bool) (p tag : ℕ) (new log : List Item) → new ≡ (if b then Gave p tag ∷ log else log) → told new ≡ told log ++ []
gave_told true p tag new log h = ap told h ∙ sym (append-nil (told log))
gave_told false p tag new log h = ap told h ∙ sym (append-nil (told log))

stage_told : (w : World) (t : ℕ) (u : TaskPart) (log : List Item) (s : Stage) → told (with_entry w t u log s) ≡ told log ++ in_stage w t u s
stage_told w t u log Ready = sym (append-nil (told log))
stage_told w t u log Awaiting = sym (append-nil (told log))
stage_told w t u log (Ended x) = sym (append-nil (told log))
stage_told w t u log (Holding h) = refl

fetch_told : (w : World) (t : ℕ) (u : TaskPart) (cell : Cell) (log : List Item) (b : Bool) → told (if b then log_after w t u (Fetched cell) log else log) ≡ told log ++ (if b then in_stage w t u u.stage else [])
fetch_told w t u cell log false = sym (append-nil (told log))
fetch_told w t u cell log true = stage_told w t u log u.stage

told_step : (w : World) (c : CoreState) (e : Event) (x : Stepped) (t : ℕ) → parts_step w c.parts e ≡ Some x → told ((core_after w c e x).core.logs t) ≡ told (c.logs t) ++ fetch_by w t x.parts e
told_step w c (Fetch s) x t h =
    let u : TaskPart = part_of c.parts s.0 in
    let at = exists_by (nat_lt s.0 (length c.parts.tasks)) (option_map (cell_fetched w c.parts s.0 u) (place_due w s.0 u u.stage)) x h in
    let p = got ℕ (cell_fetched w c.parts s.0 u) (place_due w s.0 u u.stage) x at.1 in
    let shown : x.shown ≡ Fetched (word_at c.parts.cells p.0) = ap (λ (y : Stepped). y.shown) p.2 in
    let v : TaskPart = part_of x.parts t in
    subst (λ (y : Shown). told (if nat_eq s.0 t then log_after w t v y (c.logs t) else c.logs t) ≡ told (c.logs t) ++ (if nat_eq s.0 t then in_stage w t v v.stage else [])) (sym shown)
    (fetch_told w t v (word_at c.parts.cells p.0) (c.logs t) (nat_eq s.0 t))
told_step w c (Mark s) x t h =
    let u : TaskPart = part_of c.parts s.0 in
    let at = exists_by (nat_lt s.0 (length c.parts.tasks)) (option_map (fact_marked w c.parts s.0 u) (in_hand Marking u.stage)) x h in
    let p = got Hand (fact_marked w c.parts s.0 u) (in_hand Marking u.stage) x at.1 in
    let found : FactSet = set_of w c.parts (tag_session p.0.cell.tag) p.0.place.0 in
    let shown : x.shown ≡ Marked found = ap (λ (y : Stepped). y.shown) p.2 in
    let v : TaskPart = part_of x.parts t in
    subst (λ (y : Shown). told (if nat_eq s.0 t then log_after w t v y (c.logs t) else c.logs t) ≡ told (c.logs t) ++ []) (sym shown)
    (still (nat_eq s.0 t) (log_after w t v (Marked found) (c.logs t)) (c.logs t) (marked_told w t v found (c.logs t)))
told_step w c (Lift s) x t h =
    let u : TaskPart = part_of c.parts s.0 in
    let at = exists_by (nat_lt s.0 (length c.parts.tasks)) (option_map (lifted w c.parts s.0 u) (in_hand Lifting u.stage)) x h in
    let p = got Hand (lifted w c.parts s.0 u) (in_hand Lifting u.stage) x at.1 in
    let taken : Bool = same_cell (word_at c.parts.cells p.0.place.0) p.0.cell in
    let shown : x.shown ≡ Lifted taken = ap (λ (y : Stepped). y.shown) p.2 in
    let v : TaskPart = part_of x.parts t in
    subst (λ (y : Shown). told (if nat_eq s.0 t then log_after w t v y (c.logs t) else c.logs t) ≡ told (c.logs t) ++ []) (sym shown)
    (still (nat_eq s.0 t) (log_after w t v (Lifted taken) (c.logs t)) (c.logs t) (lifted_told w t v taken (c.logs t)))
told_step w c (Do s) x t h =
    let u : TaskPart = part_of c.parts s.0 in
    let at = exists_by (nat_lt s.0 (length c.parts.tasks)) (option_map (done_by c.parts s.0) (task_done w s.0 u u.stage)) x h in
    let p = got TaskPart (done_by c.parts s.0) (task_done w s.0 u u.stage) x at.1 in
    let shown : x.shown ≡ Done = ap (λ (y : Stepped). y.shown) p.2 in
    let v : TaskPart = part_of x.parts t in
    subst (λ (y : Shown). told (if nat_eq s.0 t then log_after w t v y (c.logs t) else c.logs t) ≡ told (c.logs t) ++ []) (sym shown) (still (nat_eq s.0 t) (c.logs t) (c.logs t) refl)
told_step w c (Plant s p) x t h = elim (plant_cases w c.parts s.0 p.0 x h) [
  | inl whole ↦ ap told (logs_whole w c s p x whole t) ∙ sym (append-nil (told (c.logs t)))
  | inr by ↦ gave_told (nat_eq by.task t) p.0 (window_tag s.0) _ (c.logs t) (logs_plant w c s p x by t)
]
told_step w c (Close s p) x t h =
    let by = close_by w c.parts s.0 p.0 x h in
    gave_told (nat_eq by.task t) p.0 (2 * s.0) _ (c.logs t) (logs_close w c s p x by t)

pub told_from : (w : World) (d c : CoreState) (events : List Event) (t : ℕ) → core_from w d events ≡ Some c → told (c.logs t) ≡ told (d.logs t) ++ fetches w t d.parts events
told_from w d c [] t h = ap (λ (b : CoreState). told (b.logs t)) (sym (same_Some d c h)) ∙ sym (append-nil (told (d.logs t)))
told_from w d c (e ∷ events) t h =
    let at = through (λ b. core_from w b events) (core_step w d e) c h in
    let made = got_step w d e (parts_step w d.parts e) at.0 at.1 in
    let rest : told (c.logs t) ≡ told ((core_after w d e made.0).core.logs t) ++ fetches w t made.0.parts events =
    subst (λ (b : CoreState). told (c.logs t) ≡ told (b.logs t) ++ fetches w t b.parts events) (sym made.2) (told_from w at.0.core c events t at.2) in
    let all : fetches w t d.parts (e ∷ events) ≡ fetch_by w t made.0.parts e ++ fetches w t made.0.parts events =
    ap (λ (o : Option Stepped). option_map_or (λ (y : Stepped). fetch_by w t y.parts e ++ fetches w t y.parts events) o []) made.1 in
    rest ∙ (ap (λ (l : List Answered). l ++ fetches w t made.0.parts events) (told_step w d e made.0 t made.1)
    ∙ (append_assoc (told (d.logs t)) (fetch_by w t made.0.parts e) (fetches w t made.0.parts events) ∙ ap (λ (l : List Answered). told (d.logs t) ++ l) (sym all)))

-- places and facts
pub logged_told : (log : List Item) → logged log ≡ map (λ (a : Answered). a.visit) (told log)
logged_told [] = refl
logged_told (Gave p tag ∷ log) = logged_told log
logged_told (Met e ∷ log) =
    ap (λ (l : List Noted). l ++ record { place = e.place; fact = e.fact } ∷ []) (logged_told log)
    ∙ sym (map-append (λ (a : Answered). a.visit) (told log) (record { cell = e.cell; visit = record { place = e.place; fact = e.fact } } ∷ []))

-- and what executions have shown
abbrev pub Shows : ℕ → ℕ → Fact → Answered → Type 0
Shows s p f a = (a.visit ≡ record { place = p; fact = Some f }) × (a.cell.tag ≡ 2 * s - 1)

pushed : (P : Answered → Type 0) (xs : List Answered) (y : Answered) → Any P xs → Any P (xs ++ y ∷ [])
pushed P [] y (k, x, lt, at, h) = absurd (omega arith)
pushed P (z ∷ xs) y (zero, x, lt, at, h) = (zero, x, omega arith, at, h)
pushed P (z ∷ xs) y (suc k, x, lt, at, h) = let more = pushed P xs y (k, x, omega arith, at, h) in (suc more.0, more.1, (let l = more.2 in omega arith), more.3, more.4)

last_or : (P : Answered → Type 0) (xs : List Answered) (y : Answered) → Any P (xs ++ y ∷ []) → Any P xs ⊎ P y
last_or P [] y (zero, x, lt, at, h) = inr (subst P (sym at) h)
last_or P [] y (suc k, x, lt, at, h) = absurd (omega arith)
last_or P (z ∷ xs) y (zero, x, lt, at, h) = inl (zero, x, omega arith, at, h)
last_or P (z ∷ xs) y (suc k, x, lt, at, h) = elim (last_or P xs y (k, x, omega arith, at, h)) [
  | inl more ↦ inl (suc more.0, more.1, (let l = more.2 in omega arith), more.3, more.4)
  | inr last ↦ inr last
]

pub shown_told : (s p : ℕ) (f : Fact) (log : List Item) → HasShown s p f log → Any (Shows s p f) (told log)
shown_told s p f [] h = absurd h
shown_told s p f (Gave q tag ∷ log) h = shown_told s p f log h
shown_told s p f (Met e ∷ log) (inl at) = Any-push (Shows s p f) (told log) (record { cell = e.cell; visit = record { place = e.place; fact = e.fact } })
    (ap (λ (n : ℕ). record { place = n; fact = e.fact }) at.0 ∙ ap (λ (o : Option Fact). record { place = p; fact = o }) at.2, at.1)
shown_told s p f (Met e ∷ log) (inr h) = pushed (Shows s p f) (told log) (record { cell = e.cell; visit = record { place = e.place; fact = e.fact } }) (shown_told s p f log h)

pub told_shown : (s p : ℕ) (f : Fact) (log : List Item) → Any (Shows s p f) (told log) → HasShown s p f log
told_shown s p f [] (k, x, lt, at, h) = absurd (omega arith)
told_shown s p f (Gave q tag ∷ log) h = told_shown s p f log h
told_shown s p f (Met e ∷ log) h = elim (last_or (Shows s p f) (told log) (record { cell = e.cell; visit = record { place = e.place; fact = e.fact } }) h) [
  | inl old ↦ inr (told_shown s p f log old)
  | inr new ↦ inl (ap (λ (n : Noted). n.place) new.0, new.1, ap (λ (n : Noted). n.fact) new.0)
]
