-- The words with which an area begins.
use Rattle.std.proofs.Common.{◌≡◌, ℕ, zero, suc, ◌-◌, ◌<◌, ◌≤◌, map, length, replicate, get_or, refl, ◌∙◌, arith, length-append}
use Rattle.std.proofs.lemmas.List.{get_or-map, get_or-append_right, get_or_append_left, length-map, length-replicate}
use Rattle.module_area.specs.Meaning.{PlanView, original_at, no_place}
use Rattle.module_area.specs.Words.{original_of, starting}

zeroes : (n i : ℕ) → ◌≡◌ {A = ℕ} (get_or (replicate n 0) i 0) 0
zeroes zero i = refl
zeroes (suc n) zero = refl
zeroes (suc n) (suc i) = zeroes n i

module _ (plan : PlanView) (count : ℕ) where
  abbrev behind : ℕ
  behind = count - length plan.places

  pub first_cell : (p : ℕ) → p < length plan.places → get_or (starting plan count) p 0 ≡ original_at plan p
  first_cell p l =
      get_or_append_left (map original_of plan.places) (replicate behind 0) 0 p (let e = length-map plan.places original_of in omega arith) ∙ get_or-map original_of plan.places p no_place 0 l

  pub zero_behind : (i : ℕ) → length plan.places ≤ i → get_or (starting plan count) i 0 ≡ 0
  zero_behind i past = get_or-append_right (map original_of plan.places) (replicate behind 0) (length plan.places) i 0 (length-map plan.places original_of) past ∙ zeroes behind (i - length plan.places)

  pub starting_count : length plan.places ≤ count → length (starting plan count) ≡ count
  starting_count enough =
      let a = length-append (map original_of plan.places) (replicate behind 0) in let b = length-map plan.places original_of in let c = length-replicate behind zero in omega (arith, a, b, c, enough)
