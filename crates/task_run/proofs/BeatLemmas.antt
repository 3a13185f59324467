-- The beats of one instruction more.
use Rattle.std.proofs.Common.{◌≡◌, ◌≢◌, ℕ, ◌+◌, ◌-◌, ◌*◌, ◌<◌, ◌==◌, Bool, true, false, nat_eq, if◌then◌else◌, Option, Some, None, List, [], ◌∷◌, ◌++◌, length, inl, inr, refl, sym, ◌∙◌, ap, subst, arith, eq-eqb, ne_eqb}
use Rattle.cov_base.specs.Meaning.{Visit}
use Rattle.cov_base.specs.declared.numbers.SessNo.{SessNo}
use Rattle.module_area.specs.declared.cells.Cell.{Cell}
use Rattle.module_area.specs.declared.parties.Beat.{Beat}
use Rattle.module_area.specs.declared.parties.Beat.TheVariants.{Met}
use Rattle.module_area.specs.Meaning.{PlanView, ControlView, to_open, control_after}
use Rattle.module_area.specs.Notes.{Notes}
use Rattle.module_area.specs.Rule.{Has}
use Rattle.module_area.specs.Control.{after_open, after_end, after_call}
use Rattle.task_run.specs.Answered.{ArePairs}
use Rattle.task_run.specs.Meaning.{control_by, mets, pairs_at, open_beats, end_beats, call_beats, beats_by}

pub mets-append : (xs ys : List (ℕ × Cell)) (bs : List Beat) → mets (xs ++ ys) bs ≡ mets ys (mets xs bs)
mets-append [] ys bs = refl
mets-append (x ∷ xs) ys bs = mets-append xs ys (Met x.0 x.1.tag ∷ bs)

none_at : (i : ℕ) (xs : List (ℕ × Cell)) (vs : List Visit) → ((v : Visit) → Has v vs → v.before ≢ i) → pairs_at i xs vs ≡ []
none_at i [] vs n = refl
none_at i (x ∷ xs) [] n = refl
none_at i (x ∷ xs) (v ∷ vs) n = ap (λ b. if b then x ∷ pairs_at i xs vs else pairs_at i xs vs) (ne_eqb v.before i (n v (inl refl))) ∙ none_at i xs vs (λ w h. n w (inr h))

all_at : (plan : PlanView) (old : Notes) (last : ℕ → ℕ → ℕ) (i : ℕ) (xs : List (ℕ × Cell)) (vs : List Visit) → ArePairs plan old last xs vs → ((v : Visit) → Has v vs → v.before ≡ i) → pairs_at i xs vs ≡ xs
all_at plan old last i [] [] a e = refl
all_at plan old last i [] (v ∷ vs) a e = absurd a
all_at plan old last i (x ∷ xs) [] a e = absurd a
all_at plan old last i (x ∷ xs) (v ∷ vs) a e = ap (λ b. if b then x ∷ pairs_at i xs vs else pairs_at i xs vs) (eq-eqb v.before i (e v (inl refl))) ∙ ap (λ l. x ∷ l) (all_at plan old last i xs vs a.1 (λ w h. e w (inr h)))

cons_if : (b : Bool) (x : ℕ × Cell) (xs ys zs : List (ℕ × Cell)) → xs ≡ ys ++ zs → (if b then x ∷ xs else xs) ≡ (if b then x ∷ ys else ys) ++ zs
cons_if true x xs ys zs e = ap (λ l. x ∷ l) e
cons_if false x xs ys zs e = e

pairs_at-append : (plan : PlanView) (old : Notes) (last : ℕ → ℕ → ℕ) (i : ℕ) (xs ys : List (ℕ × Cell)) (vs ws : List Visit) → ArePairs plan old last xs vs → pairs_at i (xs ++ ys) (vs ++ ws) ≡ pairs_at i xs vs ++ pairs_at i ys ws
pairs_at-append plan old last i [] ys [] ws a = refl
pairs_at-append plan old last i [] ys (v ∷ vs) ws a = absurd a
pairs_at-append plan old last i (x ∷ xs) ys [] ws a = absurd a
pairs_at-append plan old last i (x ∷ xs) ys (v ∷ vs) ws a = cons_if (nat_eq v.before i) x (pairs_at i (xs ++ ys) (vs ++ ws)) (pairs_at i xs vs) (pairs_at i ys ws) (pairs_at-append plan old last i xs ys vs ws a.1)

nil-append : (xs : List (ℕ × Cell)) → xs ++ [] ≡ xs
nil-append [] = refl
nil-append (x ∷ xs) = ap (λ l. x ∷ l) (nil-append xs)

opens_beats : (plan : PlanView) (n : Notes) (o : Option SessNo) → (after_open plan n o).beats ≡ open_beats plan o n.beats
opens_beats plan n None = refl
opens_beats plan n (Some s) = refl

ends_beats : (plan : PlanView) (n : Notes) (o : Option SessNo) → (after_end plan n o).beats ≡ end_beats plan o n.beats
ends_beats plan n None = refl
ends_beats plan n (Some s) = refl

pub calls_beats : (plan : PlanView) (n : Notes) (c : ControlView) (k : Option ℕ) → (after_call plan n c k).beats ≡ call_beats plan c k n.beats
calls_beats plan n c None = refl
calls_beats plan n c (Some k) = by_test (k == 4) (k == 5)
  where
    by_test : (b d : Bool) → (if b then after_open plan n (to_open c) else (if d then after_end plan n c.opened else n)).beats ≡ (if b then open_beats plan (to_open c) n.beats else (if d then end_beats plan c.opened n.beats else n.beats))
    by_test true d = opens_beats plan n (to_open c)
    by_test false true = ends_beats plan n c.opened
    by_test false false = refl

pub beats_more : (plan : PlanView) (old mid : Notes) (last next : ℕ → ℕ → ℕ) (c : ControlView) (i : ℕ) (ks : List (Option ℕ)) (k : Option ℕ) (xs ys : List (ℕ × Cell)) (vs ws : List Visit) (bs : List Beat)
    → ArePairs plan old last xs vs → ArePairs plan mid next ys ws → ((v : Visit) → Has v vs → v.before < i + length ks) → ((v : Visit) → Has v ws → v.before ≡ i + length ks)
    → beats_by plan c i (ks ++ k ∷ []) (xs ++ ys) (vs ++ ws) bs ≡ call_beats plan (control_by c ks) k (mets ys (beats_by plan c i ks xs vs bs))
beats_more plan old mid last next c i [] k xs ys vs ws bs a b before here =
    let parts : pairs_at i (xs ++ ys) (vs ++ ws) ≡ ys = pairs_at-append plan old last i xs ys vs ws a
    ∙ (ap (λ l. l ++ pairs_at i ys ws) (none_at i xs vs (λ v h e. let z = before v h in absurd (omega (arith, z, e)))) ∙ all_at plan mid next i ys ws b (λ v h. let z = here v h in omega (arith, z))) in
    ap (λ l. call_beats plan c k (mets l bs)) parts
beats_more plan old mid last next c i (j ∷ ks) k xs ys vs ws bs a b before here =
    let parts : pairs_at i (xs ++ ys) (vs ++ ws) ≡ pairs_at i xs vs = pairs_at-append plan old last i xs ys vs ws a
    ∙ (ap (λ l. pairs_at i xs vs ++ l) (none_at i ys ws (λ v h e. let z = here v h in absurd (omega (arith, z, e)))) ∙ nil-append (pairs_at i xs vs)) in
    ap (λ l. beats_by plan (control_after c j) (i + 1) (ks ++ k ∷ []) (xs ++ ys) (vs ++ ws) (call_beats plan c j (mets l bs))) parts
    ∙ beats_more plan old mid last next (control_after c j) (i + 1) ks k xs ys vs ws (call_beats plan c j (mets (pairs_at i xs vs) bs)) a b
    (λ v h. let z = before v h in omega (arith, z)) (λ v h. let z = here v h in omega (arith, z))
