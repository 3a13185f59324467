-- The sessions of a plan are few, and so are each one's places.
use Rattle.interleave_core.specs.Views.{controlled_by}
use Rattle.std.proofs.Common.{◌≡◌, ℕ, zero, suc, ◌+◌, ◌-◌, ◌<◌, ◌≤◌, Bool, true, false, nat_eq, if◌then◌else◌, Option, Some, None, IsSome, option_map, List, [], ◌∷◌, length, get_or, slice_get, refl, sym, subst, arith}
use Rattle.std.proofs.lemmas.Option.{slice_get_within}
use Rattle.cov_base.specs.declared.limits.TheConstants.{SESSION_LIMIT}
use Rattle.cov_base.specs.declared.numbers.PlaceNo.{PlaceNo}
use Rattle.module_area.specs.Meaning.{PlanView, ControlledView}
use Rattle.module_area.specs.Rule.{IsPlan, IsControlled}

-- numbers that rise from 0 on, below this one
rising : (f : ℕ → ℕ) (n count : ℕ) → ((i : ℕ) → i + 1 < count → f i < f (i + 1)) → n < count → n ≤ f n
rising f zero count up lt = omega arith
rising f (suc n) count up lt =
    let before = rising f n count up (omega (arith, lt)) in
    let step = up n (omega (arith, lt)) in
    let same : suc n ≡ n + 1 = omega arith in
    subst (λ (k : ℕ). k ≤ f k) (sym same) (omega (arith, before, step))

below : (f : ℕ → ℕ) (count bound : ℕ) → ((i : ℕ) → i + 1 < count → f i < f (i + 1)) → ((i : ℕ) → i < count → f i < bound) → count ≤ bound
below f zero bound up lt = omega arith
below f (suc n) bound up lt =
    let last = rising f n (suc n) up (omega arith) in
    let in_range = lt n (omega arith) in
    omega (arith, last, in_range)

no_session : ControlledView
no_session = record { session = 0; by = 0; places = [] }

pub few_sessions : (plan : PlanView) → IsPlan plan → length plan.controlled ≤ SESSION_LIMIT
few_sessions plan is = below (λ i. (get_or plan.controlled i no_session).session - 1) (length plan.controlled) SESSION_LIMIT
    (λ i lt.
    let up = (is.apart i (i + 1) no_session (omega arith) lt).rising in
    let from = (is.controlled i no_session (omega (arith, lt))).from in
    omega (arith, up, from))
    (λ i lt.
    let from = (is.controlled i no_session lt).from in
    let to = (is.controlled i no_session lt).to in
    let most = is.sessions in
    omega (arith, from, to, most))

few_by : (t : ℕ) (cs : List ControlledView) → length (controlled_by t cs) ≤ length cs
few_by t [] = omega arith
few_by t (c ∷ cs) = by (nat_eq c.by t) (few_by t cs)
  where
    by : (b : Bool) → length (controlled_by t cs) ≤ length cs → length (if b then c ∷ controlled_by t cs else controlled_by t cs) ≤ length (c ∷ cs)
    by true h = omega (arith, h)
    by false h = omega (arith, h)

within : (A : Type 0) (xs : List A) (n : ℕ) (o : Option A) → o ≡ slice_get xs n → IsSome o → n < length xs
within A xs n None e some = let no : false ≡ true = some in absurd cc
within A xs n (Some x) e some = slice_get_within xs n x (sym e)

mapped_some : (A B : Type 0) (f : A → B) (o : Option A) → IsSome o → IsSome (option_map f o)
mapped_some A B f None some = some
mapped_some A B f (Some x) some = refl

-- a session that is found is one of the few
pub session_room : (A : Type 0) (f : A → ControlledView) (plan : PlanView) (t n : ℕ) (o : Option A) → IsPlan plan → option_map f o ≡ slice_get (controlled_by t plan.controlled) n → IsSome o → n < SESSION_LIMIT
session_room A f plan t n o is e some =
    let lt = within ControlledView (controlled_by t plan.controlled) n (option_map f o) e (mapped_some A ControlledView f o some) in
    let few = few_sessions plan is in
    let by = few_by t plan.controlled in
    omega (arith, lt, few, by)

no_number : PlaceNo
no_number = record { 0 = 0 }

-- places that rise are no more than the plan's
pub few_places : (plan : PlanView) (c : ControlledView) → IsControlled plan c → length c.places ≤ length plan.places
few_places plan c is = below (λ i. (get_or c.places i no_number).0) (length c.places) (length plan.places)
    (λ i lt. is.rising i (i + 1) no_number (omega arith) lt)
    (λ i lt. is.of_plan i no_number lt)
