-- One place more of a planting round.
use Rattle.std.proofs.Common.{◌≡◌, ◌≢◌, ℕ, ◌+◌, ◌-◌, ◌*◌, ◌<◌, not, ◌&&◌, nat_eq, nat_lt, if◌then◌else◌, length, refl, arith, suc, List, ◌∷◌, ap, ◌∙◌, eq-eqb}
use Rattle.std.proofs.lemmas.Bool.Decides.{nat_tests}
use Rattle.std.proofs.lemmas.List.Sums.{count_by_more_no, count_by_more_yes}
use Rattle.std.proofs.lemmas.Bool.{ne_eqb, not_from_false}
use mathlib.Core.Path.{fun_ext}
use Rattle.module_area.specs.Meaning.{PlanView, window_at, window_beats}
use Rattle.module_area.specs.Notes.{Notes, after_plant}
use Rattle.module_area.specs.Planted.{planted_notes}
use Rattle.module_area.specs.declared.parties.Beat.{Beat}
use Rattle.module_area.specs.declared.parties.Beat.TheVariants.{Gave}

seen_more : (w s : ℕ → ℕ) (n p : ℕ) → w n ≢ 0 →
    (if nat_lt p (n + 1) && not (nat_eq (w p) 0) then 2 * w p - 1 else s p)
    ≡ (if nat_eq p n then 2 * w n - 1 else (if nat_lt p n && not (nat_eq (w p) 0) then 2 * w p - 1 else s p))
seen_more w s n p h = grind (arith, nat_tests)

seen_skip : (w s : ℕ → ℕ) (n p : ℕ) → w n ≡ 0 →
    (if nat_lt p (n + 1) && not (nat_eq (w p) 0) then 2 * w p - 1 else s p)
    ≡ (if nat_lt p n && not (nat_eq (w p) 0) then 2 * w p - 1 else s p)
seen_skip w s n p h = grind (arith, nat_tests)

next_is : (n : ℕ) → n + 1 ≡ suc n
next_is n = omega arith

beats_more : (plan : PlanView) (bs : List Beat) (n : ℕ) → window_at plan n ≢ 0 → window_beats plan bs (n + 1) ≡ Gave n (2 * window_at plan n - 1) ∷ window_beats plan bs n
beats_more plan bs n ne = ap (window_beats plan bs) (next_is n) ∙ ap (λ b. if b then window_beats plan bs n else Gave n (2 * window_at plan n - 1) ∷ window_beats plan bs n) (ne_eqb (window_at plan n) 0 ne)

beats_skip : (plan : PlanView) (bs : List Beat) (n : ℕ) → window_at plan n ≡ 0 → window_beats plan bs (n + 1) ≡ window_beats plan bs n
beats_skip plan bs n e = ap (window_beats plan bs) (next_is n) ∙ ap (λ b. if b then window_beats plan bs n else Gave n (2 * window_at plan n - 1) ∷ window_beats plan bs n) (eq-eqb (window_at plan n) 0 e)

-- the place is planted
pub planted_more : (plan : PlanView) (notes : Notes) (n : ℕ) → n < length plan.windows → window_at plan n ≢ 0 →
    planted_notes plan notes (n + 1) ≡ after_plant (planted_notes plan notes n) (window_at plan n) n
planted_more plan notes n h ne =
    let seen = fun_ext (λ (p : ℕ). seen_more (window_at plan) notes.seen n p ne) in
    let last = fun_ext (λ (p : ℕ). seen_more (window_at plan) notes.last n p ne) in
    let beats = beats_more plan notes.beats n ne in
    let count = count_by_more_yes (λ w. not (nat_eq w 0)) plan.windows n 0 h (not_from_false _ (ne_eqb (window_at plan n) 0 ne)) in
    let plants : (planted_notes plan notes (n + 1)).tally.plants ≡ (planted_notes plan notes n).tally.plants + 1 = omega (arith, count) in
    λ i. record notes { seen = seen i; last = last i; beats = beats i; tally = record notes.tally { plants = plants i } }

-- there is no window over the place
pub planted_skip : (plan : PlanView) (notes : Notes) (n : ℕ) → n < length plan.windows → window_at plan n ≡ 0 →
    planted_notes plan notes (n + 1) ≡ planted_notes plan notes n
planted_skip plan notes n h e =
    let seen = fun_ext (λ (p : ℕ). seen_skip (window_at plan) notes.seen n p e) in
    let last = fun_ext (λ (p : ℕ). seen_skip (window_at plan) notes.last n p e) in
    let beats = beats_skip plan notes.beats n e in
    let count = count_by_more_no (λ w. not (nat_eq w 0)) plan.windows n 0 h (rw e refl) in
    let plants : (planted_notes plan notes (n + 1)).tally.plants ≡ (planted_notes plan notes n).tally.plants = omega (arith, count) in
    λ i. record notes { seen = seen i; last = last i; beats = beats i; tally = record notes.tally { plants = plants i } }
