-- Where the tasks of a phase stand among those of the job.
use Rattle.std.proofs.Common.{◌≡◌, inl, inr, ℕ, ◌+◌, ◌-◌, ◌<◌, ◌≤◌, false, List, ◌++◌, length, get_or, take, drop, sym, ◌∙◌, ap, subst, arith}
use Rattle.std.proofs.lemmas.List.{get_or-drop, get_or-take, get_or_append_left, get_or-append_right, length-append, length-drop, length-take-le}
use Rattle.std.proofs.lemmas.Bool.{cases_lt, false_from_ne_true}
use Rattle.session_book.specs.Meaning.{JobView}
use Rattle.job_run.specs.Crews.{Each, EachAt}
use Rattle.job_run.specs.Slots.{in_phase, IsRange}

-- a part of a list, and the list after the part was written

pub part_size : {X : Type 0} (xs : List X) (a e : ℕ) → a ≤ e → e ≤ length xs → length (take (e - a) (drop a xs)) ≡ e - a
part_size xs a e l h = length-take-le (e - a) (drop a xs) (omega (arith, l, h, length-drop a xs))

-- the list with this part from a on, n long
abbrev pub pasted : {X : Type 0} → List X → List X → ℕ → ℕ → List X
pasted xs part a n = take a xs ++ (part ++ drop n (drop a xs))

part_at : {X : Type 0} (xs : List X) (a n i : ℕ) (d : X) → i < n → get_or (take n (drop a xs)) i d ≡ get_or xs (a + i) d
part_at xs a n i d l = get_or-take n (drop a xs) i d l ∙ get_or-drop a xs i d

before_part : {X : Type 0} (xs rest : List X) (a t : ℕ) (d : X) → a ≤ length xs → t < a → get_or (take a xs ++ rest) t d ≡ get_or xs t d
before_part xs rest a t d h l = get_or_append_left (take a xs) rest d t (omega (arith, l, length-take-le a xs h)) ∙ get_or-take a xs t d l

in_part : {X : Type 0} (xs ys rest : List X) (a t : ℕ) (d : X) → a ≤ length xs → a ≤ t → t - a < length ys → get_or (take a xs ++ (ys ++ rest)) t d ≡ get_or ys (t - a) d
in_part xs ys rest a t d h from l = get_or-append_right (take a xs) (ys ++ rest) a t d (length-take-le a xs h) from ∙ get_or_append_left ys rest d (t - a) l

behind_part : {X : Type 0} (xs ys : List X) (a n t : ℕ) (d : X) → a ≤ length xs → length ys ≡ n → a + n ≤ t → get_or (take a xs ++ (ys ++ drop n (drop a xs))) t d ≡ get_or xs t d
behind_part xs ys a n t d h size from =
    let there : a + (n + (t - a - n)) ≡ t = omega (arith, from) in
    get_or-append_right (take a xs) (ys ++ drop n (drop a xs)) a t d (length-take-le a xs h) (omega (arith, from))
    ∙ (get_or-append_right ys (drop n (drop a xs)) n (t - a) d size (omega (arith, from))
    ∙ (get_or-drop n (drop a xs) (t - a - n) d ∙ (get_or-drop a xs (n + (t - a - n)) d ∙ ap (λ k. get_or xs k d) there)))

-- what holds of each holds of a part
pub each_in_part : {X : Type 0} (good : ℕ → X → Type 0) (xs : List X) (a e : ℕ) → a ≤ e → e ≤ length xs → EachAt good xs → EachAt (λ t. good (a + t)) (take (e - a) (drop a xs))
each_in_part good xs a e order exists each k d l =
    let here : k < e - a = omega (arith, l, part_size xs a e order exists) in
    subst (good (a + k)) (sym (part_at xs a (e - a) k d here)) (each (a + k) d (omega (arith, here, exists)))

not_there : (j : JobView) (phase a e t : ℕ) → IsRange j phase (length j.tasks) a e → t < length j.tasks → ((a ≤ t) → (t < e) → t < t) → in_phase j phase t ≡ false
not_there j phase a e t r l out = false_from_ne_true (in_phase j phase t) (λ h. let i = r.all t l h in absurd (omega (arith, out i.0 i.1)))

made_there : {X : Type 0} (step : X → X → Type 0) (x x' y y' : X) → x ≡ x' → y ≡ y' → step x y → step x' y'
made_there step x x' y y' p q s = subst (λ z. step z y') p (subst (step x) q s)

pasted_size : {X : Type 0} (xs part : List X) (a n : ℕ) → a + n ≤ length xs → length part ≡ n → length (pasted xs part a n) ≡ length xs
pasted_size xs part a n most size =
    let rest : List _ = drop n (drop a xs) in
    omega (arith, most, size, length-append (take a xs) (part ++ rest), length-append part rest, length-take-le a xs (omega (arith, most)), length-drop n (drop a xs), length-drop a xs)

-- a step that each of the phase's part has gone each of all has, where those of other tasks may stand still
pub all_after : {X : Type 0} (step : ℕ → X → X → Type 0) (j : JobView) (phase : ℕ) (old part : List X) (a e : ℕ) → IsRange j phase (length j.tasks) a e → length old ≡ length j.tasks →
    ((t : ℕ) (d : X) → t < length old → in_phase j phase t ≡ false → step t (get_or old t d) (get_or old t d)) →
    Each (λ t. step (a + t)) (take (e - a) (drop a old)) part → Each step old (pasted old part a (e - a))
all_after step j phase old part a e r count idle made = record { count = pasted_size old part a (e - a) (omega (arith, r.order, exists)) (made.count ∙ size); each = each }
  where
    exists : e ≤ length old
    exists = omega (arith, r.exists, count)

    most : a ≤ length old
    most = omega (arith, r.order, exists)

    size : length (take (e - a) (drop a old)) ≡ e - a
    size = part_size old a e r.order exists

    each : (t : ℕ) (d : _) → t < length old → step t (get_or old t d) (get_or (pasted old part a (e - a)) t d)
    each t d l = elim (cases_lt t a) [
      | inl before ↦ subst (step t (get_or old t d)) (sym (before_part old (part ++ drop (e - a) (drop a old)) a t d most before))
          (idle t d l (not_there j phase a e t r (omega (arith, l, count)) (λ x y. absurd (omega (arith, x, before)))))
      | inr from ↦ elim (cases_lt t e) [
        | inl here ↦
            let i : t - a < e - a = omega (arith, from, here) in
            let there : a + (t - a) ≡ t = omega (arith, from) in
            made_there (step t) (get_or (take (e - a) (drop a old)) (t - a) d) (get_or old t d) (get_or part (t - a) d) (get_or (pasted old part a (e - a)) t d)
            (part_at old a (e - a) (t - a) d i ∙ ap (λ k. get_or old k d) there)
            (sym (in_part old part (drop (e - a) (drop a old)) a t d most from (omega (arith, i, made.count, size))))
            (subst (λ k. step k (get_or (take (e - a) (drop a old)) (t - a) d) (get_or part (t - a) d)) there (made.each (t - a) d (omega (arith, i, size))))
        | inr behind ↦ subst (step t (get_or old t d)) (sym (behind_part old part a (e - a) t d most (made.count ∙ size) (omega (arith, behind, r.order))))
            (idle t d l (not_there j phase a e t r (omega (arith, l, count)) (λ x y. absurd (omega (arith, y, behind)))))
      ]
    ]
