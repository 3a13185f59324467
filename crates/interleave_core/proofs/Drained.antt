-- A session that is drained is quiet.
use Rattle.std.proofs.Common.{◌≡◌, ◌⊎◌, inl, inr, ℕ, ◌*◌, ◌<◌, ◌≤◌, true, false, nat_eq, Option, Some, is_some, List, [], ◌∷◌, length, set, IfOk, OnErr, refl, sym, ◌∙◌, ap, subst, arith, eqb-true}
use Rattle.std.proofs.lemmas.Bool.{and_parts, or_cases}
use Rattle.std.specs.List.{list_any}
use Rattle.std.specs.declared.result.Result.{Result}
use Rattle.std.specs.declared.result.Result.TheVariants.{Ok, Err}
use Rattle.std.proofs.lemmas.Grind.{get_or-set_at}
use Rattle.std.proofs.lemmas.Option.{same_Some}
use Rattle.module_area.specs.Meaning.{word_at, no_cell}
use Rattle.module_area.specs.declared.cells.Cell.{Cell}
use Rattle.module_area.specs.declared.parties.View.{View}
use Rattle.interleave_core.specs.Meaning.{World, TaskPart, Parts, part_of, PlaceChange, ending_of, Stepped, parts_step, changed_cell, set_of}
use Rattle.interleave_core.specs.World.{IsWorld}
use Rattle.interleave_core.specs.CoreState.{CoreState, CoreStepped, core_start, core_step, core_from, core_run, planted_by}
use Rattle.interleave_core.specs.Quiet.{is_quiet, StayQuiet, is_close, is_between, ends, now_or_later, ends_in, IsDrained, QuietAsDrained, DrainedStay}
use Rattle.interleave_core.specs.Views.{AreSteady, CoreView}
use Rattle.interleave_core.specs.declared.events.Event.{Event}
use Rattle.interleave_core.specs.declared.events.Event.TheVariants.{Fetch, Mark, Lift, Do, Plant, Close}
use Rattle.interleave_core.specs.declared.events.NotPossible.{NotPossible}
use Rattle.interleave_core.specs.declared.events.Shown.{Shown}
use Rattle.interleave_core.specs.declared.stage.Due.TheVariants.{Marking}
use Rattle.interleave_core.specs.declared.stage.Stage.{Stage}
use Rattle.interleave_core.specs.declared.stage.Stage.TheVariants.{Ready, Awaiting, Holding, Ended}
use Rattle.interleave_core.proofs.Changes.{close_by}
use Rattle.interleave_core.proofs.Exact.{Sound, sound_step, sound_first, run_sound}
use Rattle.interleave_core.proofs.Logs.{got_step}
use Rattle.interleave_core.proofs.Quiet.{rises, AreOver, over_rises, IsLocal, is_local, Clear, clear_step, is_quiet_by, quiet_step}
use Rattle.interleave_core.proofs.Rule.{held_hand}
use Rattle.interleave_core.proofs.Runs.{core_from-append, through}
use Rattle.interleave_core.proofs.Tied.{changed_tag}
use Rattle.interleave_core.proofs.Turns.{IsChange, due_is}

pub steady_of : (w : World) (c : CoreState) (v : View) → Sound w c v → AreSteady w c.parts
steady_of w c v is = record {
  is_plan = is.ruled.held.is_plan;
  cell_count = is.ruled.cells;
  words = λ p l. (is.ruled.held.site p l).form;
  hands = λ t h lt due.
      let b = (held_hand w t (part_of c.parts t) (c.logs t) (part_of c.parts t).stage Marking h (is.ruled.hands t lt) due).3 in
      record { place = b.inside; planted = λ e. (b.session, b.some_session, b.over, b.cell) };
  tied = is.tied;
}

-- ---- a place that was closed

-- the tag that a close leaves
close_tag : (w : World) (s p : ℕ) (c : Parts) (e : Event) (x : Stepped) → AreSteady w c → is_close s p e ≡ true → parts_step w c e ≡ Some x → 2 * s ≤ (word_at x.parts.cells p).tag
close_tag w s p c (Fetch t) x is this h = let f : false ≡ true = this in absurd cc
close_tag w s p c (Mark t) x is this h = let f : false ≡ true = this in absurd cc
close_tag w s p c (Lift t) x is this h = let f : false ≡ true = this in absurd cc
close_tag w s p c (Do t) x is this h = let f : false ≡ true = this in absurd cc
close_tag w s p c (Plant n q) x is this h = let f : false ≡ true = this in absurd cc
close_tag w s p c (Close n q) x is this h =
    let by = close_by w c n.0 q.0 x h in
    let y : PlaceChange = by.change in
    let u : TaskPart = part_of c by.task in
    let change : IsChange w c.cells by.task u y = due_is w c.cells by.task u u.stage y is.is_plan (is.tied by.task by.there) by.due in
    let session : y.session ≡ s = by.session ∙ eqb-true n.0 s (and_parts (nat_eq n.0 s) _ this).0 in
    let place : p ≡ y.place.0 = sym (by.place ∙ eqb-true q.0 p (and_parts (nat_eq n.0 s) _ this).1) in
    let inside : y.place.0 < length c.cells = subst (λ (k : ℕ). y.place.0 < k) (sym is.cell_count) change.own.inside in
    let here : word_at (set c.cells y.place.0 (changed_cell w y)) p ≡ changed_cell w y = get_or-set_at c.cells y.place.0 p (changed_cell w y) no_cell place inside in
    let tag = changed_tag w y true y.session by.closes_is refl change.own.positive in
    subst (λ (z : Stepped). 2 * s ≤ (word_at z.parts.cells p).tag) (sym by.made) (subst (λ (z : Cell). 2 * s ≤ z.tag) (sym here) (omega (arith, tag, session)))

rises_from : (w : World) (d c : CoreState) (v : View) (events : List Event) → IsWorld w → Sound w d v → core_from w d events ≡ Some c → (p : ℕ) → p < length w.places → (word_at d.parts.cells p).tag ≤ (word_at c.parts.cells p).tag
rises_from w d c v [] world is h p lt = subst (λ (x : CoreState). (word_at d.parts.cells p).tag ≤ (word_at x.parts.cells p).tag) (same_Some d c h) (omega arith)
rises_from w d c v (e ∷ events) world is h p lt =
    let at = through (λ b. core_from w b events) (core_step w d e) c h in
    let made = got_step w d e (parts_step w d.parts e) at.0 at.1 in
    let first : (word_at d.parts.cells p).tag ≤ (word_at at.0.core.parts.cells p).tag =
    subst (λ (x : CoreState). (word_at d.parts.cells p).tag ≤ (word_at x.parts.cells p).tag) made.2 (rises w d.parts e made.0 (steady_of w d v is) made.1 p (subst (λ (n : ℕ). p < n) (sym is.ruled.cells) lt)) in
    let rest = rises_from w at.0.core c (planted_by w v e) events world (subst (λ (x : CoreState). Sound w x (planted_by w v e)) made.2 (sound_step w d v e made.0 world made.1 is)) at.2 p lt in
    omega (arith, first, rest)

closed_from : (w : World) (s p : ℕ) (d c : CoreState) (v : View) (events : List Event) → IsWorld w → Sound w d v → p < length w.places → core_from w d events ≡ Some c → list_any (is_close s p) events ≡ true → 2 * s ≤ (word_at c.parts.cells p).tag
closed_from w s p d c v [] world is lt h any = let f : false ≡ true = any in absurd cc
closed_from w s p d c v (e ∷ events) world is lt h any =
    let at = through (λ b. core_from w b events) (core_step w d e) c h in
    let made = got_step w d e (parts_step w d.parts e) at.0 at.1 in
    let next : Sound w at.0.core (planted_by w v e) = subst (λ (x : CoreState). Sound w x (planted_by w v e)) made.2 (sound_step w d v e made.0 world made.1 is) in
    elim (or_cases (is_close s p e) (list_any (is_close s p) events) any) [
      | inl this ↦
          let tag : 2 * s ≤ (word_at at.0.core.parts.cells p).tag = subst (λ (x : CoreState). 2 * s ≤ (word_at x.parts.cells p).tag) made.2 (close_tag w s p d.parts e made.0 (steady_of w d v is) this made.1) in
          let rest = rises_from w at.0.core c (planted_by w v e) events world next at.2 p lt in
          omega (arith, tag, rest)
      | inr later ↦ closed_from w s p at.0.core c (planted_by w v e) events world next lt at.2 later
    ]

-- ---- a task that has nothing of the session in hand

between_clear : (s : ℕ) (stage : Stage) → is_between stage ≡ true → Clear s stage
between_clear s Ready h = refl
between_clear s Awaiting h = refl
between_clear s (Holding x) h = let f : false ≡ true = h in absurd cc
between_clear s (Ended e) h = refl

ended_clear : (s : ℕ) (stage : Stage) → is_some (ending_of stage) ≡ true → Clear s stage
ended_clear s Ready h = refl
ended_clear s Awaiting h = refl
ended_clear s (Holding x) h = let f : false ≡ true = h in absurd cc
ended_clear s (Ended e) h = refl

ends_clear : (s : ℕ) (e : Event) (t : ℕ) (c : Parts) → ends e t c ≡ true → Clear s (part_of c t).stage
ends_clear s (Fetch u) t c h = let f : false ≡ true = h in absurd cc
ends_clear s (Mark u) t c h = let f : false ≡ true = h in absurd cc
ends_clear s (Lift u) t c h = let f : false ≡ true = h in absurd cc
ends_clear s (Do u) t c h = between_clear s (part_of c t).stage (and_parts (nat_eq u.0 t) _ h).1
ends_clear s (Plant n p) t c h = let f : false ≡ true = h in absurd cc
ends_clear s (Close n p) t c h = let f : false ≡ true = h in absurd cc

-- it stays so once the session is over at its places
pub record Draining (w : World) (s : ℕ) (d c : CoreState) (since : List Event) : Type 0 where
  pub over : AreOver w s c.parts
  pub clear : (t : ℕ) → (Clear s (part_of d.parts t).stage) ⊎ (ends_in w t since d ≡ true) → Clear s (part_of c.parts t).stage

drained_from : (w : World) (s : ℕ) (d c : CoreState) (v : View) (since : List Event) → IsWorld w → Sound w d v → IsLocal w s → AreOver w s d.parts → core_from w d since ≡ Some c → Draining w s d c since
drained_from w s d c v [] world is local over h = subst (λ (x : CoreState). Draining w s d x []) (same_Some d c h) (record {
  over = over;
  clear = λ t which. elim which [ inl clear ↦ clear | inr none ↦ let f : false ≡ true = none in absurd cc ];
})
drained_from w s d c v (e ∷ since) world is local over h =
    let at = through (λ b. core_from w b since) (core_step w d e) c h in
    let made = got_step w d e (parts_step w d.parts e) at.0 at.1 in
    let steady : AreSteady w d.parts = steady_of w d v is in
    let next : Sound w at.0.core (planted_by w v e) = subst (λ (x : CoreState). Sound w x (planted_by w v e)) made.2 (sound_step w d v e made.0 world made.1 is) in
    let still : AreOver w s at.0.core.parts = subst (λ (x : CoreState). AreOver w s x.parts) made.2 (over_rises w s d.parts made.0.parts local steady.cell_count (rises w d.parts e made.0 steady made.1) over) in
    let rest : Draining w s at.0.core c since = drained_from w s at.0.core c (planted_by w v e) since world next local still at.2 in
    record {
      over = rest.over;
      clear = λ t which. elim which [
        | inl clear ↦ rest.clear t (inl (subst (λ (x : CoreState). Clear s (part_of x.parts t).stage) made.2 (clear_step w s d.parts e made.0 steady local over made.1 t clear)))
        | inr some ↦ elim (or_cases (ends e t at.0.core.parts) (ends_in w t since at.0.core) (subst (λ (o : Option CoreStepped). now_or_later (ends_in w t since) e t o ≡ true) at.1 some)) [
          | inl now ↦ rest.clear t (inl (ends_clear s e t at.0.core.parts now))
          | inr later ↦ rest.clear t (inr later)
        ]
      ];
    }

pub drained_quiet : (w : World) (c : CoreState) (events : List Event) (s : ℕ) → IsWorld w → core_run w events ≡ Some c → IsDrained w events s → is_quiet w c.parts s ≡ true
drained_quiet w c events s world run is =
    let d : CoreState = is.core in
    let v = run_sound w d is.before world is.run in
    let local : IsLocal w s = is_local w s world.is_plan is.controlled in
    let over : AreOver w s d.parts = λ p there. closed_from w s p (core_start w) d _ is.before world (sound_first w world) (local.inside p there) is.run (is.closed p there) in
    let rest : core_from w d is.since ≡ Some c = sym (core_from-append w (core_start w) d is.before is.since is.run) ∙ (ap (core_from w (core_start w)) (sym is.both) ∙ run) in
    let drained : Draining w s d c is.since = drained_from w s d c _ is.since world v local over rest in
    let sizes : length c.parts.tasks ≡ length d.parts.tasks = (run_sound w c events world run).ruled.count ∙ sym v.ruled.count in
    is_quiet_by w c.parts s (record {
      controlled = is.controlled;
      over = drained.over;
      clear = λ t lt. drained.clear t (elim (or_cases (is_some (ending_of (part_of d.parts t).stage)) (ends_in w t is.since d) (is.tasks t (subst (λ (n : ℕ). t < n) sizes lt))) [
        | inl ended ↦ inl (ended_clear s (part_of d.parts t).stage ended)
        | inr since ↦ inr since
      ]);
    })

-- ---- any event, possible or not

pub stay_quiet : (old new : CoreView) (e : Event) (r : Result Shown NotPossible) → AreSteady old.world old.parts → IfOk r (λ shown. parts_step old.world old.parts e ≡ Some (record { parts = new.parts; shown = shown })) → OnErr r (new ≡ old) →
    StayQuiet old.world old.parts new.parts
stay_quiet old new e (Ok shown) steady possible kept = λ s quiet. quiet_step old.world s old.parts e (record { parts = new.parts; shown = shown }) steady possible quiet
stay_quiet old new e (Err x) steady possible kept = λ s quiet. (subst (λ (v : CoreView). is_quiet old.world v.parts s ≡ true) (sym kept) quiet, λ p l. ap (λ (v : CoreView). set_of old.world v.parts s p) kept)

pub quiet_as : (w : World) (c : Parts) (s : ℕ) → IsWorld w → QuietAsDrained w c s
quiet_as w c s world = λ events d run same drained. subst (λ (p : Parts). is_quiet w p s ≡ true) same (drained_quiet w d events s world run drained)

pub drained_stay : (w : World) (old new : Parts) → IsWorld w → StayQuiet w old new → DrainedStay w old new
drained_stay w old new world stay = λ s events d run same drained. (stay s (quiet_as w old s world events d run same drained)).1
