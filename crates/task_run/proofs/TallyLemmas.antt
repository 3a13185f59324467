-- How many places the calls of a task plant and close.
use Rattle.std.proofs.Common.{◌≡◌, ℕ, ◌+◌, Bool, true, false, ◌==◌, if◌then◌else◌, Option, Some, None, List, [], ◌∷◌, take, get_or, refl, ap, arith}
use Rattle.std.proofs.lemmas.List.Sums.{sum_by_more}
use Rattle.cov_base.specs.declared.numbers.SessNo.{SessNo}
use Rattle.module_area.specs.Meaning.{PlanView, ControlView, to_open, opening, closing, control_after}
use Rattle.module_area.specs.Rule.{IsPlan}
use Rattle.module_area.specs.Notes.{Notes}
use Rattle.module_area.specs.Tied.{IsTied}
use Rattle.module_area.specs.Control.{after_open, after_end, after_call}
use Rattle.module_area.proofs.Laws.{next_at}
use Rattle.task_run.specs.Meaning.{control_by, places_of, places_in_all}
use Rattle.task_run.specs.Controlled.{notes_by, HasPlanted}
use Rattle.task_run.proofs.WindowLemmas.{IsBound, bound_call}

abbrev so_far : PlanView → ControlView → ℕ
so_far plan c = places_in_all plan (take c.next c.sessions)

-- what some calls add
record Counts (plan : PlanView) (n m : Notes) (c d : ControlView) : Type 0 where
  plants : m.tally.plants + so_far plan c ≡ n.tally.plants + so_far plan d
  closes : m.tally.closes + places_of plan d.opened + so_far plan c ≡ n.tally.closes + places_of plan c.opened + so_far plan d

count_opening : (plan : PlanView) (n : Notes) (c : ControlView) (o : Option SessNo) → IsTied plan n c → to_open c ≡ o → Counts plan n (after_open plan n o) c (opening c o)
count_opening plan n c None tie e = record { plants = refl; closes = refl }
count_opening plan n c (Some s) tie e =
    let a = next_at plan n c tie s e in
    let more = sum_by_more (λ (t : SessNo). places_of plan (Some t)) c.sessions c.next s a.1 in
    let here : places_of plan (Some (get_or c.sessions c.next s)) ≡ places_of plan (Some s) = ap (λ (t : SessNo). places_of plan (Some t)) a.2 in
    let closed : places_of plan c.opened ≡ 0 = ap (places_of plan) a.0 in
    record { plants = omega (arith, more, here); closes = omega (arith, more, here, closed) }

count_closing : (plan : PlanView) (n : Notes) (c : ControlView) (o : Option SessNo) → c.opened ≡ o → Counts plan n (after_end plan n o) c (closing c)
count_closing plan n c None e = let none : places_of plan c.opened ≡ 0 = ap (places_of plan) e in record { plants = refl; closes = omega (arith, none) }
count_closing plan n c (Some s) e = let its : places_of plan c.opened ≡ places_of plan (Some s) = ap (places_of plan) e in record { plants = refl; closes = omega (arith, its) }

count_call : (plan : PlanView) (n : Notes) (c : ControlView) (call : Option ℕ) → IsTied plan n c → Counts plan n (after_call plan n c call) c (control_after c call)
count_call plan n c None tie = record { plants = refl; closes = refl }
count_call plan n c (Some k) tie = by_test (k == 4) (k == 5)
  where
    by_test : (f g : Bool) → Counts plan n (if f then after_open plan n (to_open c) else (if g then after_end plan n c.opened else n)) c (if f then opening c (to_open c) else (if g then closing c else c))
    by_test true g = count_opening plan n c (to_open c) tie refl
    by_test false true = count_closing plan n c c.opened refl
    by_test false false = record { plants = refl; closes = refl }

counts : (plan : PlanView) (n : Notes) (c : ControlView) (calls : List (Option ℕ)) → IsPlan plan → IsBound plan n c → Counts plan n (notes_by plan n c calls) c (control_by c calls)
counts plan n c [] is b = record { plants = refl; closes = refl }
counts plan n c (k ∷ ks) is b =
    let one = count_call plan n c k b.tied in
    let rest = counts plan (after_call plan n c k) (control_after c k) ks is (bound_call plan n c k is b) in
    record { plants = omega (arith, one.plants, rest.plants); closes = omega (arith, one.closes, rest.closes) }

-- from a control that has opened nothing
pub has_planted : (plan : PlanView) (old new : Notes) (c d : ControlView) (calls : List (Option ℕ)) → IsPlan plan → IsTied plan old c → c.next ≡ 0 → c.opened ≡ None →
    new.tally.plants ≡ (notes_by plan old c calls).tally.plants → new.tally.closes ≡ (notes_by plan old c calls).tally.closes → d ≡ control_by c calls → HasPlanted plan old new d
has_planted plan old new c d calls is tie none closed plants closes control =
    let start : IsBound plan old c = record { tied = tie; past = record { over = λ i t lt. absurd (omega (arith, lt, none)) } } in
    let all = counts plan old c calls is start in
    let first : so_far plan c ≡ 0 = ap (λ k. places_in_all plan (take k c.sessions)) none in
    let none_open : places_of plan c.opened ≡ 0 = ap (places_of plan) closed in
    let last : so_far plan d ≡ so_far plan (control_by c calls) = ap (so_far plan) control in
    let left : places_of plan d.opened ≡ places_of plan (control_by c calls).opened = ap (λ (x : ControlView). places_of plan x.opened) control in
    record { plants = omega (arith, plants, all.plants, first, last); closes = omega (arith, closes, all.closes, first, none_open, last, left) }
