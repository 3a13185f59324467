-- What a task that goes has made: its own events, one after the other, until it has ended.
use Rattle.std.proofs.Common.{◌≡◌, inl, inr, ℕ, zero, suc, ◌<◌, true, false, Option, Some, None, is_none, IsNone, ◌↔◌, All, [], ◌∷◌, refl, arith}
use Rattle.std.specs.Option.{option_and_then, option_map_or}
use Rattle.std.proofs.lemmas.Bool.{cases_lt}
use Rattle.std.proofs.lemmas.Option.{same_Some}
use Rattle.std.proofs.lemmas.List.Elements.{All-cons}
use Rattle.cov_base.specs.declared.numbers.TaskNo.{TaskNo}
use Rattle.module_area.specs.Rule.{IsPlan}
use Rattle.interleave_core.specs.Meaning.{World, Parts, plan_in, parts_step, run_on, next_of, most_events, Stepped, go}
use Rattle.interleave_core.specs.CoreState.{is_by}
use Rattle.interleave_core.specs.Results.{IsOver}
use Rattle.interleave_core.specs.Going.{HasGone, after, go_events, all_events}
use Rattle.interleave_core.specs.declared.events.Event.{Event}
use Rattle.interleave_core.proofs.Nexts.{next_by}

go_own : (w : World) (n : ℕ) (c : Parts) (t : TaskNo) → IsPlan (plan_in w) → All (λ e. is_by w e t.0 ≡ true) (go_events w n c t)
go_own w zero c t plan = λ k d l. absurd (omega arith)
go_own w (suc n) c t plan = by_next (next_of w c t) refl (λ d. go_own w n d t plan)
  where
    by_next : (o : Option Event) → next_of w c t ≡ o → ((d : Parts) → All (λ e. is_by w e t.0 ≡ true) (go_events w n d t)) → All (λ e. is_by w e t.0 ≡ true) (option_map_or (λ (e : Event). e ∷ go_events w n (after c (parts_step w c e)) t) o [])
    by_next None q more = λ k d l. absurd (omega arith)
    by_next (Some e) q more = All-cons (λ y. is_by w y t.0 ≡ true) e (go_events w n (after c (parts_step w c e)) t) (next_by w c t e plan q) (more (after c (parts_step w c e)))

pub is_there : {A : Type 0} (o : Option A) (n t : ℕ) (Q : Type 0) → (IsNone o ↔ (t < n → Q)) → is_none o ≡ false → t < n
is_there None n t Q h e = absurd cc
is_there (Some x) n t Q h e = elim (cases_lt t n) [
  | inl l ↦ l
  | inr k ↦ (let none : IsNone (Some x) = h.1 (λ l. absurd (omega (arith, l, k))) in absurd cc)
]

pub has_gone : (w : World) (old new : Parts) (t : TaskNo) → IsPlan (plan_in w) → is_none (next_of w old t) ≡ false → run_on w old (all_events w old t) ≡ Some new → IsOver new t.0 → HasGone w old new t
has_gone w old new t plan some run ended = record { begun = some; own = go_own w (most_events w t.0) old t plan; run = run; ended = ended }

-- and that is what is stored once it has gone
pub gone_to : (w : World) (n : ℕ) (c d : Parts) (t : TaskNo) → run_on w c (go_events w n c t) ≡ Some d → go w n c t ≡ d
gone_to w zero c d t h = same_Some c d h
gone_to w (suc n) c d t h = by_next (λ b q. gone_to w n b d t q) (next_of w c t) h
  where
    by_step : ((b : Parts) → run_on w b (go_events w n b t) ≡ Some d → go w n b t ≡ d) → (o : Option Stepped) →
        option_and_then (λ (x : Stepped). run_on w x.parts (go_events w n (after c o) t)) o ≡ Some d → option_map_or (λ (x : Stepped). go w n x.parts t) o c ≡ d
    by_step more None q = absurd cc
    by_step more (Some x) q = more x.parts q

    by_next : ((b : Parts) → run_on w b (go_events w n b t) ≡ Some d → go w n b t ≡ d) → (o : Option Event) →
        run_on w c (option_map_or (λ (e : Event). e ∷ go_events w n (after c (parts_step w c e)) t) o []) ≡ Some d → option_map_or (λ (x : Stepped). go w n x.parts t) (option_and_then (parts_step w c) o) c ≡ d
    by_next more None q = same_Some c d q
    by_next more (Some e) q = by_step more (parts_step w c e) q
