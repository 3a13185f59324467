-- Phases one after the other.
use Rattle.std.proofs.Common.{◌≡◌, ℕ, ◌+◌, ◌<◌, zero, suc, List, [], ◌∷◌, ◌++◌, length, get_or, drop, take, refl, sym, ◌∙◌, ap, subst, arith}
use Rattle.std.proofs.lemmas.List.{append_assoc, append-nil, drop_all, take_more, take_all, length-take-le}
use Rattle.module_area.specs.Meaning.{FinalsView}
use Rattle.module_area.specs.declared.places.Place.{Place}
use Rattle.module_area.specs.declared.tallies.Tally.{Tally}
use Rattle.task_run.specs.Meaning.{Course}
use Rattle.session_book.specs.Meaning.{JobView}
use Rattle.phase_plan.specs.Meaning.{plan_view}
use Rattle.job_run.specs.Meaning.{EndsArea, Account, AreEnded, phase_trace, walk_by}
use Rattle.job_run.specs.Areas.{GrowsBy}
use Rattle.job_run.specs.Runs.{HasLeftBy}

-- one area more
pub AreEnded-more : (run : Course) (j : JobView) (places : List Place) (phase : ℕ) (ns : List (List ℕ)) (n : List ℕ) (fs : List FinalsView) (f : FinalsView) (ts : List Tally) (t : Tally) →
    AreEnded run j places phase ns fs ts → EndsArea (plan_view j places (phase + length ns)) (walk_by run j places) (phase_trace run j places (phase + length ns)) f t →
    AreEnded run j places phase (ns ++ n ∷ []) (fs ++ f ∷ []) (ts ++ t ∷ [])
AreEnded-more run j places phase [] n [] f [] t a e =
    let here : phase + 0 ≡ phase = omega arith in
    (subst (λ (k : ℕ). EndsArea (plan_view j places k) (walk_by run j places) (phase_trace run j places k) f t) here e, tt)
AreEnded-more run j places phase (m ∷ ns) n (g ∷ fs) f (u ∷ ts) t a e =
    let there : phase + length (m ∷ ns) ≡ phase + 1 + length ns = omega arith in
    (a.0, AreEnded-more run j places (phase + 1) ns n fs f ts t a.1 (subst (λ (k : ℕ). EndsArea (plan_view j places k) (walk_by run j places) (phase_trace run j places k) f t) there e))
AreEnded-more run j places phase [] n (g ∷ fs) f ts t a e = absurd a
AreEnded-more run j places phase [] n [] f (u ∷ ts) t a e = absurd a
AreEnded-more run j places phase (m ∷ ns) n [] f ts t a e = absurd a
AreEnded-more run j places phase (m ∷ ns) n (g ∷ fs) f [] t a e = absurd a

-- how an area was left
pub record AreaOf (run : Course) (j : JobView) (places : List Place) (phase : ℕ) (f : FinalsView) : Type 0 where
  pub tally : Tally
  pub ends : EndsArea (plan_view j places phase) (walk_by run j places) (phase_trace run j places phase) f tally

pub ended_at : (run : Course) (j : JobView) (places : List Place) (phase : ℕ) (ns : List (List ℕ)) (fs : List FinalsView) (ts : List Tally) (k : ℕ) (d : FinalsView) →
    AreEnded run j places phase ns fs ts → k < length ns → AreaOf run j places (phase + k) (get_or fs k d)
ended_at run j places phase [] fs ts k d a l = absurd (omega arith)
ended_at run j places phase (n ∷ ns) (f ∷ fs) (t ∷ ts) zero d a l =
    let here : phase + 0 ≡ phase = omega arith in
    subst (λ (k : ℕ). AreaOf run j places k f) (sym here) (record { tally = t; ends = a.0 })
ended_at run j places phase (n ∷ ns) (f ∷ fs) (t ∷ ts) (suc k) d a l =
    let there : phase + suc k ≡ phase + 1 + k = omega arith in
    subst (λ (m : ℕ). AreaOf run j places m (get_or fs k d)) (sym there) (ended_at run j places (phase + 1) ns fs ts k d a.1 (omega arith))
ended_at run j places phase (n ∷ ns) [] ts k d a l = absurd a
ended_at run j places phase (n ∷ ns) (f ∷ fs) [] k d a l = absurd a

pub ended_count : (run : Course) (j : JobView) (places : List Place) (phase : ℕ) (ns : List (List ℕ)) (fs : List FinalsView) (ts : List Tally) → AreEnded run j places phase ns fs ts → length fs ≡ length ns
ended_count run j places phase [] [] [] a = refl
ended_count run j places phase (n ∷ ns) (f ∷ fs) (t ∷ ts) a = ap suc (ended_count run j places (phase + 1) ns fs ts a.1)
ended_count run j places phase [] (f ∷ fs) ts a = absurd a
ended_count run j places phase [] [] (t ∷ ts) a = absurd a
ended_count run j places phase (n ∷ ns) [] ts a = absurd a
ended_count run j places phase (n ∷ ns) (f ∷ fs) [] a = absurd a

-- the phases before this one have run
pub record HasRunTo (run : Course) (j : JobView) (places : List Place) (phase : ℕ) (sets : List FinalsView) (ledger ledger' : List Tally) (finals finals' : List FinalsView) : Type 0 where
  pub tallies : List Tally
  pub ended : AreEnded run j places 0 (take phase j.phases) sets tallies
  pub in_ledger : ledger' ≡ ledger ++ tallies
  pub in_finals : finals' ≡ finals ++ sets

pub HasRunTo-start : (run : Course) (j : JobView) (places : List Place) (ledger : List Tally) (finals : List FinalsView) → HasRunTo run j places 0 [] ledger ledger finals finals
HasRunTo-start run j places ledger finals = record { tallies = []; ended = tt; in_ledger = sym (append-nil ledger); in_finals = sym (append-nil finals) }

pub HasRunTo-next : (run : Course) (j : JobView) (places : List Place) (phase : ℕ) (sets : List FinalsView) (f : FinalsView) (ledger ledger1 ledger2 : List Tally) (finals finals1 finals2 : List FinalsView) →
    phase < length j.phases → HasRunTo run j places phase sets ledger ledger1 finals finals1 →
    GrowsBy (plan_view j places phase) (walk_by run j places) (phase_trace run j places phase) ledger1 ledger2 finals1 finals2 f →
    HasRunTo run j places (phase + 1) (sets ++ f ∷ []) ledger ledger2 finals finals2
HasRunTo-next run j places phase sets f ledger ledger1 ledger2 finals finals1 finals2 l r g =
    let count : 0 + length (take phase j.phases) ≡ phase = omega (arith, length-take-le phase j.phases (omega arith)) in
    let ends : EndsArea (plan_view j places (0 + length (take phase j.phases))) (walk_by run j places) (phase_trace run j places (0 + length (take phase j.phases))) f g.tally =
    subst (λ (k : ℕ). EndsArea (plan_view j places k) (walk_by run j places) (phase_trace run j places k) f g.tally) (sym count) g.ends in
    let more : AreEnded run j places 0 (take phase j.phases ++ get_or j.phases phase [] ∷ []) (sets ++ f ∷ []) (r.tallies ++ g.tally ∷ []) =
    AreEnded-more run j places 0 (take phase j.phases) (get_or j.phases phase []) sets f r.tallies g.tally r.ended ends in
    record {
      tallies = r.tallies ++ g.tally ∷ [];
      ended = subst (λ (ns : List (List ℕ)). AreEnded run j places 0 ns (sets ++ f ∷ []) (r.tallies ++ g.tally ∷ [])) (sym (take_more j.phases phase [] l)) more;
      in_ledger = g.in_ledger ∙ (ap (λ (ts : List Tally). ts ++ g.tally ∷ []) r.in_ledger ∙ append_assoc ledger r.tallies (g.tally ∷ []));
      in_finals = g.in_finals ∙ (ap (λ (fs : List FinalsView). fs ++ f ∷ []) r.in_finals ∙ append_assoc finals sets (f ∷ []));
    }

-- all phases have run
pub HasRunTo-all : (run : Course) (j : JobView) (places : List Place) (n : ℕ) (sets : List FinalsView) (before after : Account) → length j.phases ≡ n → HasRunTo run j places n sets before.ledger after.ledger before.finals after.finals →
    after.made ≡ before.made + n → HasLeftBy run j places before after sets
HasRunTo-all run j places n sets before after all r made = record {
  ran = record {
    tallies = r.tallies;
    sets = sets;
    ended = subst (λ (ns : List (List ℕ)). AreEnded run j places 0 ns sets r.tallies) (take_all n j.phases (omega arith)) r.ended;
    in_ledger = r.in_ledger;
    in_finals = r.in_finals;
    in_made = omega (arith, made, all);
  };
  are = refl;
}

pub left_count : (run : Course) (j : JobView) (places : List Place) (before after : Account) (sets : List FinalsView) → HasLeftBy run j places before after sets → length sets ≡ length j.phases
left_count run j places before after sets l = ap (λ (fs : List FinalsView). length fs) l.are ∙ ended_count run j places 0 j.phases l.ran.sets l.ran.tallies l.ran.ended

pub left_at : (run : Course) (j : JobView) (places : List Place) (before after : Account) (sets : List FinalsView) (k : ℕ) (d : FinalsView) → HasLeftBy run j places before after sets → k < length j.phases →
    AreaOf run j places k (get_or sets k d)
left_at run j places before after sets k d l h =
    let here : 0 + k ≡ k = omega arith in
    let left : AreaOf run j places k (get_or l.ran.sets k d) = subst (λ (n : ℕ). AreaOf run j places n (get_or l.ran.sets k d)) here (ended_at run j places 0 j.phases l.ran.sets l.ran.tallies k d l.ran.ended h) in
    subst (λ (fs : List FinalsView). AreaOf run j places k (get_or fs k d)) (sym l.are) left

-- a list that was written through a loan of all of it
pub written : {X : Type 0} (xs ys : List X) (n : ℕ) → length ys ≡ length xs → length xs ≡ n → take n (ys ++ drop (length ys) xs) ≡ ys
written xs ys n same all =
    let rest : drop (length ys) xs ≡ [] = drop_all (length ys) xs (omega (arith, same)) in
    ap (λ zs. take n (ys ++ zs)) rest ∙ (ap (take n) (append-nil ys) ∙ take_all n ys (omega (arith, same, all)))
