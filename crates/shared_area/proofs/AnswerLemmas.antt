-- What the rule says of the word that a step finds.
use Rattle.std.proofs.Common.{◌≡◌, ◌≢◌, ◌⊎◌, ℕ, ◌+◌, ◌*◌, ◌/◌, ◌<◌, ◌≤◌, Bool, true, false, not, ◌&&◌, nat_lt, None, List, length, refl, ap, subst, inl, inr, ⊎_elim, arith, ltb-true}
use Rattle.std.proofs.lemmas.Bool.{or_cases}
use mathlib.Core.Option.{some}
use lib.ListN.{get_elem?}
use Rattle.cov_base.specs.Meaning.{FactSet, is_within, breakpoint}
use Rattle.cov_base.proofs.Laws.{within_kind, is_full-true}
use Rattle.module_area.specs.declared.cells.Cell.{Cell}
use Rattle.module_area.specs.declared.parties.View.{View}
use Rattle.module_area.specs.declared.parties.Role.{Role}
use Rattle.module_area.specs.declared.parties.Role.TheVariants.{Root, Task, Spent}
use Rattle.module_area.specs.Meaning.{PlanView, original_at, kind_at, window_at, is_over}
use Rattle.module_area.specs.Rule.{IsPlan, Has, last_tag, window_tag, planted, IsForm, KeepsAs, Keeps, Held, has_number}
use Rattle.module_area.specs.declared.tallies.Tally.{Tally}
use Rattle.module_area.specs.Notes.{IsAnswer, IsFound, no_tally, keeps_as, keeps}
use Rattle.module_area.proofs.Laws.{no_controlled, over_window, over_small, tested_controller, breakpoint_form}
use Rattle.shared_area.specs.Told.{bears_as, seen_at, notes_in}
use Rattle.shared_area.proofs.NoteLemmas.{pair_there, mark_there, number_there, not_there, seen_most}
use Rattle.shared_area.proofs.WordLemmas.{same_cell}

pub is_root : (r : Role) → r ≢ Spent → bears_as r ≡ None → r ≡ Root
is_root Root live e = refl
is_root (Task t) live e = absurd cc
is_root Spent live e = absurd (live refl)

back_or_not : (v : View) (t : ℕ) (g j : Bool) → has_number t v.given ≡ g → has_number t v.joined ≡ j → not (g && not j) ≡ true → (Has t v.given → ⊥) ⊎ Has t v.joined
back_or_not v t true true eg ej h = inr (number_there t v.joined ej)
back_or_not v t true false eg ej h = absurd (let x : false ≡ true = h in cc)
back_or_not v t false j eg ej h = inl (not_there t v.given eg)

keeps_as_there : (plan : PlanView) (v : View) (p : ℕ) (tally : Tally) (r : Role) → r ≢ Spent → keeps_as plan (bears_as r) (notes_in v tally).out p ≡ true → KeepsAs plan v p r
keeps_as_there plan v p tally Root live h = ⊎_elim (λ w. inl (ltb-true 0 (window_at plan p) w))
    (λ c. let a = tested_controller plan (λ t. not ((notes_in v tally).out t)) p c in inr (a.0, a.1, back_or_not v a.0 (has_number a.0 v.given) (has_number a.0 v.joined) refl refl a.2))
    (or_cases (nat_lt 0 (window_at plan p)) _ h)
keeps_as_there plan v p tally (Task t) live h = h
keeps_as_there plan v p tally Spent live h = absurd (live refl)

-- what the notes say that it keeps, it keeps
pub keeps_there : (plan : PlanView) (v : View) (p : ℕ) (tally : Tally) → v.role ≢ Spent → keeps plan (notes_in v tally) p ≡ true → Keeps plan v p
keeps_there plan v p tally live h = keeps_as_there plan v p tally v.role live h

module _ (plan : PlanView) (p : ℕ) (c : Cell) (ok : IsPlan plan) (l : p < length plan.places) where
  plain_half : IsForm plan p c → c.half ≢ breakpoint → c.half ≡ original_at plan p
  plain_half (inl e) n = ap (λ (z : Cell). z.half) e
  plain_half (inr (s, pos, over, inl e)) n = absurd (n (ap (λ (z : Cell). z.half) e))
  plain_half (inr (s, pos, over, inr (inl e))) n = ap (λ (z : Cell). z.half) e
  plain_half (inr (s, pos, over, inr (inr e))) n = ap (λ (z : Cell). z.half) e.0

  over_of : IsForm plan p c → c.tag ≢ 0 → is_over plan ((c.tag + 1) / 2) p ≡ true
  over_of (inl e) n = absurd (n (ap (λ (z : Cell). z.tag) e))
  over_of (inr (s, pos, over, inl e)) n = let t : c.tag ≡ window_tag s = ap (λ (z : Cell). z.tag) e in let x : s ≡ (c.tag + 1) / 2 = omega arith in subst (λ k. is_over plan k p ≡ true) x over
  over_of (inr (s, pos, over, inr (inl e))) n = let t : c.tag ≡ window_tag s = ap (λ (z : Cell). z.tag) e in let x : s ≡ (c.tag + 1) / 2 = omega arith in subst (λ k. is_over plan k p ≡ true) x over
  over_of (inr (s, pos, over, inr (inr e))) n = let t : c.tag ≡ 2 * s = ap (λ (z : Cell). z.tag) e.0 in let x : s ≡ (c.tag + 1) / 2 = omega arith in subst (λ k. is_over plan k p ≡ true) x over

  pub tag_small : IsForm plan p c → c.tag ≤ 2 * plan.sessions
  tag_small (inl e) = let t = ap (λ (z : Cell). z.tag) e in omega arith
  tag_small (inr (s, pos, over, inl e)) = let t = ap (λ (z : Cell). z.tag) e in let x = over_small plan s p ok l over in omega arith
  tag_small (inr (s, pos, over, inr (inl e))) = let t = ap (λ (z : Cell). z.tag) e in let x = over_small plan s p ok l over in omega arith
  tag_small (inr (s, pos, over, inr (inr e))) = let t = ap (λ (z : Cell). z.tag) e.0 in let x = over_small plan s p ok l over in omega arith

  window_most : IsForm plan p c → 0 < window_at plan p → c.tag ≤ window_tag (window_at plan p)
  window_most (inl e) w = let t = ap (λ (z : Cell). z.tag) e in omega arith
  window_most (inr (s, pos, over, inl e)) w = let t = ap (λ (z : Cell). z.tag) e in let x = over_window plan s p ok w over in omega arith
  window_most (inr (s, pos, over, inr (inl e))) w = let t = ap (λ (z : Cell). z.tag) e in let x = over_window plan s p ok w over in omega arith
  window_most (inr (s, pos, over, inr (inr e))) w = absurd (no_controlled plan s p ok w e.1)

module _ (plan : PlanView) (cell : ℕ → Cell) (sets : ℕ → ℕ → FactSet) (views : List View) (r : Held plan cell sets views) (id : ℕ) (v : View) (at : get_elem? views id ≡ some v) where
  module _ (live : v.role ≢ Spent) (p : ℕ) (l : p < length plan.places) where
    later : seen_at p v.seen ≤ (cell p).tag
    later = seen_most p (cell p).tag v.seen (λ t h. ((r.kept id v at).seen p t h).1)

    -- a keeper has seen no higher tag than its last one
    pub keeper_seen : Keeps plan v p → seen_at p v.seen ≤ last_tag p v.planted
    keeper_seen k = let tie = r.ties id v at p l k in let x = later in omega arith

    pub answers : IsAnswer plan (notes_in v no_tally) p (cell p)
    answers = let form = (r.site p l).form in let ok = r.is_plan in record {
      planted = λ b. let a = breakpoint_form plan p (cell p) (ok.no_breakpoint p l) form b in let t : (cell p).tag ≡ window_tag a.0 = ap (λ (z : Cell). z.tag) a.3 in let pos = a.1 in omega (arith, t, pos);
      plain = plain_half plan p (cell p) ok l form;
      later = later;
      window = λ w e. let a = window_most plan p (cell p) ok l form w in let b = later in omega arith;
      kept = λ k. r.ties id v at p l (keeps_there plan v p no_tally live k);
      over = over_of plan p (cell p) ok l form;
      lifted = λ s h b e. ((r.kept id v at).free s p (pair_there s p v.free h)).1 (same_cell (cell p) (planted s) (omega arith) b);
    }

  -- the set has facts of the place's kind alone
  pub set_within : (s p : ℕ) → p < length plan.places → 0 < s → is_within (kind_at plan p) (sets s p) ≡ true
  set_within s p l pos = within_kind (kind_at plan p) (sets s p) (λ f h. let x = r.known s p f l pos h in ((r.kept x.0 x.1 x.2).marked s p f x.3).3)

  pub founds : (s p : ℕ) → p < length plan.places → 0 < s → IsFound plan (notes_in v no_tally) s p (sets s p)
  founds s p l pos = record {
    own = λ f h. ((r.kept id v at).marked s p f (mark_there s p f v.marked h)).4;
    within = set_within s p l pos;
    full = λ h. is_full-true (kind_at plan p) (sets s p) ((r.kept id v at).full s p (pair_there s p v.full h)).2;
  }
