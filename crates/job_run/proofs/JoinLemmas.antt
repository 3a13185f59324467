-- A root that has observed some visits, and a pass joined to it that has observed others.
use Rattle.std.proofs.Common.{◌≡◌, ℕ, ◌+◌, ◌*◌, true, false, max, List, ◌++◌, inl, inr, refl, arith}
use Rattle.std.proofs.lemmas.Bool.{or_cases, or_left, or_right}
use Rattle.cov_base.specs.Meaning.{Visit}
use Rattle.module_area.specs.Notes.{Notes, split_notes, after_join}
use Rattle.module_area.specs.Meaning.{PlanView}
use Rattle.task_run.specs.Observed.{Observes, Stays}
use Rattle.task_run.proofs.Laws.{shows_before, shows_behind, shows_either, visits_at_places-append}
use Rattle.job_run.specs.Passes.{JoinsAll}

max_same : (a b n : ℕ) → a + 1 ≡ n → b + 1 ≡ n → max a b + 1 ≡ n
max_same a b n h k = grind arith

pub joins-more : (plan : PlanView) (old mid other : Notes) (t : ℕ) (xs ys : List Visit) → JoinsAll plan old mid xs → Observes plan (split_notes plan old t) other ys →
    JoinsAll plan old (after_join plan mid other) (xs ++ ys)
joins-more plan old mid other t xs ys r h =
    let count = visits_at_places-append plan.places xs ys in
    record {
      grows = record {
        marked = λ s p f m. or_left (mid.marked s p f) (other.marked s p f) (r.grows.marked s p f m);
        full = λ s p m. or_left (mid.full s p) (other.full s p) (r.grows.full s p m);
        free = λ s p m. or_left (mid.free s p) (other.free s p) (r.grows.free s p m);
        met = λ s p m. elim (or_cases (mid.full s p) (other.full s p) m) [
          | inl first ↦ elim (r.grows.met s p first) [ inl before ↦ inl before | inr free ↦ inr (or_left (mid.free s p) (other.free s p) free) ]
          | inr second ↦ elim (h.grows.met s p second) [ inl never ↦ absurd (no never) | inr free ↦ inr (or_right (mid.free s p) (other.free s p) free) ]
        ];
        bears = r.grows.bears;
        given = refl;
        out = refl;
      };
      nothing_else = λ s p f m. elim (or_cases (mid.marked s p f) (other.marked s p f) m) [
        | inl first ↦ elim (r.nothing_else s p f first) [ inl before ↦ inl before | inr there ↦ inr (shows_before plan xs ys p f there) ]
        | inr second ↦ elim (h.nothing_else s p f second) [ inl never ↦ absurd (no never) | inr there ↦ inr (shows_behind plan xs ys p f there) ]
      ];
      shown = λ s p f stays there. elim (shows_either plan xs ys p f there) [
        | inl first ↦ elim (r.shown s p f (same_stays stays) first) [ inl m ↦ inl (or_left (mid.marked s p f) (other.marked s p f) m) | inr m ↦ inr (or_left (mid.full s p) (other.full s p) m) ]
        | inr last ↦ elim (h.shown s p f (split_stays stays) last) [ inl m ↦ inl (or_right (mid.marked s p f) (other.marked s p f) m) | inr m ↦ inr (or_right (mid.full s p) (other.full s p) m) ]
      ];
      stays = λ s p stays. record {
        some = stays.some;
        whole = stays.whole;
        seen = max_same (mid.seen p) (other.seen p) (2 * s) (r.stays s p (same_stays stays)).seen (h.stays s p (split_stays stays)).seen;
      };
      fetches = omega (arith, count, r.fetches, h.fetches);
      marks = omega (arith, count, r.marks, h.marks);
      lifts = omega (arith, count, r.lifts, h.lifts);
    }
  where
    no : false ≡ true → ⊥
    no e = cc

    -- root and pass have seen the same tags
    split_stays : {s p : ℕ} → Stays plan (record old { given = (after_join plan mid other).given; out = (after_join plan mid other).out }) s p → Stays plan (split_notes plan old t) s p
    split_stays h = record { some = h.some; whole = h.whole; seen = h.seen }

    same_stays : {s p : ℕ} → Stays plan (record old { given = (after_join plan mid other).given; out = (after_join plan mid other).out }) s p → Stays plan (record old { given = mid.given; out = mid.out }) s p
    same_stays h = record { some = h.some; whole = h.whole; seen = h.seen }
