-- The places that are planted before the first item.
use Rattle.std.proofs.Common.{◌≡◌, ◌≢◌, eqb-true, ℕ, suc, ◌+◌, ◌-◌, ◌<◌, ◌≤◌, Bool, true, false, ◌&&◌, nat_eq, nat_lt, if◌then◌else◌, Some, None, option_map, List, [], ◌∷◌, length, All, refl, sym, ap, ◌∙◌, arith, eq-eqb}
use Rattle.std.specs.List.{find, flat_map, range_with_len}
use Rattle.std.proofs.lemmas.Bool.{lt-ltb}
use Rattle.std.proofs.lemmas.List.Elements.{All-head, All-tail}
use Rattle.module_area.specs.Meaning.{word_at, ControlledView, window_at}
use Rattle.interleave_core.specs.Meaning.{World, Parts, plan_in, controller_of, Stepped, parts_step, run_on, by_controller, whole_step, with_cell, breakpoint_of}
use Rattle.interleave_core.specs.World.{IsWorld}
use Rattle.interleave_core.specs.declared.events.Event.{Event}
use Rattle.interleave_core.specs.declared.events.Event.TheVariants as event
use Rattle.interleave_core.specs.declared.events.Shown.TheVariants.{Planted}
use Rattle.interleave_core.proofs.Laws.{run_on-append, controller_in}
use Rattle.schedule_play.specs.Meaning.{plant_at}

-- no task controls a session that observes a place whole
controller_none : (cs : List ControlledView) (s : ℕ) → All (λ (c : ControlledView). s ≢ c.session) cs → controller_in s cs ≡ None
controller_none [] s h = refl
controller_none (c ∷ cs) s h = by (nat_eq c.session s) refl (controller_none cs s (All-tail (λ (x : ControlledView). s ≢ x.session) c cs h))
  where
    by : (b : Bool) → nat_eq c.session s ≡ b → controller_in s cs ≡ None → option_map (λ (d : ControlledView). d.by) (if b then Some c else find (λ (d : ControlledView). nat_eq d.session s) cs) ≡ None
    by true e more = absurd (All-head (λ (x : ControlledView). s ≢ x.session) c cs h (sym (eqb-true c.session s e)))
    by false e more = more

whole_window : (w : World) (s p : ℕ) → IsWorld w → p < length w.places → s ≡ window_at (plan_in w) p → controller_of w s ≡ None
whole_window w s p is lt e = controller_none (plan_in w).controlled s (λ k d l same. is.is_plan.no_windows k d l p lt (sym e ∙ same))

all_four : (a b c d : Bool) → a ≡ true → b ≡ true → c ≡ true → d ≡ true → (a && (b && (c && d))) ≡ true
all_four a b c d p q r s = rw (p, q, r, s) refl

abbrev plant_of : ℕ → ℕ → Event
plant_of s p = event.Plant (record { 0 = s }) (record { 0 = p })

abbrev planted : Parts → ℕ → ℕ → Stepped
planted c s p = record { parts = with_cell c p (breakpoint_of s); shown = Planted }

-- where nothing was planted yet, the plant of a window is possible
pub plant_possible : (w : World) (c : Parts) (s p : ℕ) → IsWorld w → p < length w.places → s ≡ window_at (plan_in w) p → 0 < s → (word_at c.cells p).tag ≡ 0 → parts_step w c (plant_of s p) ≡ Some (planted c s p)
plant_possible w c s p is lt e some fresh =
    ap (by_controller w c false s p (whole_step w c s p)) (whole_window w s p is lt e)
    ∙ ap (λ (b : Bool). if b then Some (planted c s p) else None)
    (all_four (nat_lt p (length w.places)) (nat_lt 0 s) (nat_eq (window_at (plan_in w) p) s) (nat_eq (word_at c.cells p).tag 0) (lt-ltb p (length w.places) lt) (lt-ltb 0 s some) (eq-eqb (window_at (plan_in w) p) s (sym e)) (eq-eqb (word_at c.cells p).tag 0 fresh))

pub never_refused : (w : World) (c : Parts) (s p : ℕ) → IsWorld w → p < length w.places → s ≡ window_at (plan_in w) p → 0 < s → (word_at c.cells p).tag ≡ 0 → parts_step w c (plant_of s p) ≡ None → ⊥
never_refused w c s p is lt e some fresh none = let n : None ≡ Some (planted c s p) = sym none ∙ plant_possible w c s p is lt e some fresh in absurd cc

-- the places from number p on
abbrev pub plants_from : World → ℕ → ℕ → List Event
plants_from w p count = flat_map (plant_at w) (range_with_len p count)

pub planted_next : (w : World) (p n : ℕ) (c d : Parts) → p < n → run_on w c (plant_at w p) ≡ Some d → run_on w c (plants_from w p (n - p)) ≡ run_on w d (plants_from w (p + 1) (n - (p + 1)))
planted_next w p n c d lt h = let more : n - p ≡ suc (n - (p + 1)) = omega arith in rw more (run_on-append w c d (plant_at w p) (plants_from w (p + 1) (n - (p + 1))) h)

pub planted_end : (w : World) (p n : ℕ) (c : Parts) → n ≤ p → run_on w c (plants_from w p (n - p)) ≡ Some c
planted_end w p n c le = let none : n - p ≡ 0 = omega arith in rw none refl
