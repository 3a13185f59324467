-- The function bytes of a table, one argument on.
use Rattle.std.proofs.Common.{◌≡◌, ◌≢◌, ℕ, ◌+◌, ◌<◌, ◌≤◌, zero, suc, true, false, ◌&&◌, Option, Some, None, List, [], ◌∷◌, ◌++◌, slice_set, refl, sym, ◌∙◌, add-one, arith, get_or-set_other, inl, inr, not, ◌==◌, eq-or-lt_of_le}
use Rattle.std.specs.Option.{option_or}
use Rattle.std.proofs.lemmas.Bool.{and_from, and_left, and_parts, eq-eqb, ne_eqb, not_from_false, not_from_true}
use Rattle.std.proofs.Math.Bool.{and_assoc, and-false, and-true}
use Rattle.cov_base.specs.Meaning.{Memory, byte_at, wrap, can_reach, first_touch, is_accessible}
use Rattle.s370_state.specs.Meaning.{Use, reads, all_reached, all_stored, touched, touch_ending}
use Rattle.s370_state.proofs.Laws.{reach_at}
use Rattle.s370_storage.proofs.Firsts.{first_none, first_more, first_here, first_past}
use Rattle.s370_storage.specs.Meaning.{function_at, functions, translated, function, selected, looked_up}

-- a byte more that is read
reached_last : (m : Memory) (us : List Use) (b : ℕ) → all_reached m (us ++ (reads b 1 ∷ [])) ≡ (all_reached m us && can_reach m b 1)
unfolding all_reached
reached_last m [] b = and-true _
reached_last m (u ∷ us) b = rw (reached_last m us b) (sym (and_assoc (can_reach m u.at u.size) (all_reached m us) (can_reach m b 1)))

pub functions_reached_none : (m : Memory) (bytes : List ℕ) (a t : ℕ) → all_reached m (functions m bytes a t 0) ≡ true
unfolding functions all_reached
functions_reached_none m bytes a t = refl

functions_reached : (m : Memory) (bytes : List ℕ) (a t n : ℕ) → all_reached m (functions m bytes a t (suc n)) ≡ (all_reached m (functions m bytes a t n) && can_reach m (function_at m bytes a t n) 1)
unfolding functions
functions_reached m bytes a t n = reached_last m (functions m bytes a t n) (function_at m bytes a t n)

pub functions_reached_more : (m : Memory) (bytes : List ℕ) (a t n b : ℕ) → all_reached m (functions m bytes a t n) ≡ true → b ≡ function_at m bytes a t n → can_reach m b 1 ≡ true → all_reached m (functions m bytes a t (n + 1)) ≡ true
functions_reached_more m bytes a t n b h e k = rw (add-one, functions_reached m bytes a t n, h, ← e) k

pub functions_refused : (m : Memory) (bytes : List ℕ) (a t n i b : ℕ) → i < n → b ≡ function_at m bytes a t i → can_reach m b 1 ≡ false → all_reached m (functions m bytes a t n) ≡ false
functions_refused m bytes a t zero i b l e k = absurd (omega arith)
functions_refused m bytes a t (suc n) i b l e k =
    functions_reached m bytes a t n ∙ elim (eq-or-lt_of_le {n = i} {m = n} (omega arith)) [
      | inl q ↦ rw (← q, ← e, k) (and-false _)
      | inr z ↦ and_left _ _ (functions_refused m bytes a t n i b z e k)
    ]

-- each of them is reached where all are
function_reached : (m : Memory) (bytes : List ℕ) (a t n i b : ℕ) → all_reached m (functions m bytes a t n) ≡ true → i < n → b ≡ function_at m bytes a t i → can_reach m b 1 ≡ true
function_reached m bytes a t zero i b h l e = absurd (omega arith)
function_reached m bytes a t (suc n) i b h l e =
    let both : (all_reached m (functions m bytes a t n) && can_reach m (function_at m bytes a t n) 1) ≡ true = sym (functions_reached m bytes a t n) ∙ h in
    elim (eq-or-lt_of_le {n = i} {m = n} (omega arith)) [
      | inl q ↦ rw (e, q) (and_parts _ _ both).1
      | inr z ↦ function_reached m bytes a t n i b (and_parts _ _ both).0 z e
    ]

pub function_accessible : (m : Memory) (bytes : List ℕ) (a t n i b : ℕ) → all_reached m (functions m bytes a t n) ≡ true → i < n → b ≡ function_at m bytes a t i → is_accessible m b ≡ true
function_accessible m bytes a t n i b h l e = reach_at m b 1 0 b (function_reached m bytes a t n i b h l e) (omega arith) (omega arith)

pub one_accessible : (m : Memory) (b x : ℕ) → can_reach m x 1 ≡ true → x < 16777216 → b ≡ x → is_accessible m b ≡ true
one_accessible m b x h l e = reach_at m x 1 0 b h (omega arith) (omega arith)

stored_last : (m : Memory) (us : List Use) (b : ℕ) → all_stored m us ≡ true → all_stored m (us ++ (reads b 1 ∷ [])) ≡ true
unfolding all_stored
stored_last m [] b h = refl
stored_last m (u ∷ us) b h = let p = and_parts _ _ h in and_from _ _ p.0 (stored_last m us b p.1)

-- none is stored
pub functions_stored : (m : Memory) (bytes : List ℕ) (a t n : ℕ) → all_stored m (functions m bytes a t n) ≡ true
unfolding functions all_stored
functions_stored m bytes a t zero = refl
functions_stored m bytes a t (suc n) = stored_last m (functions m bytes a t n) _ (functions_stored m bytes a t n)

or_none : (p : Option ℕ) → option_or p None ≡ p
or_none None = refl
or_none (Some a) = refl

or_assoc : (p q r : Option ℕ) → option_or p (option_or q r) ≡ option_or (option_or p q) r
or_assoc None q r = refl
or_assoc (Some a) q r = refl

touched_last : (m : Memory) (us : List Use) (b : ℕ) → touched m (us ++ (reads b 1 ∷ [])) ≡ option_or (touched m us) (first_touch m b 1)
unfolding touched
touched_last m [] b = or_none (first_touch m b 1)
touched_last m (u ∷ us) b = rw (touched_last m us b) (or_assoc _ (touched m us) (first_touch m b 1))

or_touch : (p q : Option ℕ) → touch_ending (option_or p q) ≡ option_or (touch_ending p) (touch_ending q)
or_touch None q = refl
or_touch (Some a) q = refl

pub functions_touched_none : (m : Memory) (bytes : List ℕ) (a t : ℕ) → touch_ending (touched m (functions m bytes a t 0)) ≡ None
unfolding functions touched
functions_touched_none m bytes a t = refl

pub functions_touched_more : (m : Memory) (bytes : List ℕ) (a t n : ℕ) → touch_ending (touched m (functions m bytes a t (n + 1))) ≡ option_or (touch_ending (touched m (functions m bytes a t n))) (touch_ending (first_touch m (function_at m bytes a t n) 1))
unfolding functions
functions_touched_more m bytes a t n = rw (add-one, touched_last m (functions m bytes a t n) (function_at m bytes a t n)) (or_touch (touched m (functions m bytes a t n)) _)

pub translated_none : (m : Memory) (bytes : List ℕ) (a t : ℕ) → translated m bytes a t 0 ≡ bytes
unfolding translated
translated_none m bytes a t = refl

pub translated_more : (m : Memory) (bytes : List ℕ) (a t n : ℕ) → translated m bytes a t (n + 1) ≡ slice_set (translated m bytes a t n) (wrap (a + n)) (byte_at m (translated m bytes a t n) (function_at m bytes a t n))
unfolding translated
translated_more m bytes a t n = rw add-one refl

byte_set_other : (m : Memory) (bytes : List ℕ) (x y v : ℕ) → x ≢ y → byte_at m (slice_set bytes x v) y ≡ byte_at m bytes y
unfolding byte_at
byte_set_other m bytes x y v ne = grind (arith, get_or-set_other)

-- an argument stays until its turn
pub translated_keeps : (m : Memory) (bytes : List ℕ) (a t n i : ℕ) → n ≤ i → i < 16777216 → byte_at m (translated m bytes a t n) (wrap (a + i)) ≡ byte_at m bytes (wrap (a + i))
unfolding translated
translated_keeps m bytes a t zero i l h = refl
translated_keeps m bytes a t (suc n) i l h =
    byte_set_other m (translated m bytes a t n) (wrap (a + n)) (wrap (a + i)) _ (omega arith) ∙ translated_keeps m bytes a t n i (omega arith) h

pub selected_none : (m : Memory) (bytes : List ℕ) (a t : ℕ) → selected m bytes a t 0 ≡ None
unfolding selected
selected_none m bytes a t = first_none _

pub selected_more : (m : Memory) (bytes : List ℕ) (a t n v : ℕ) → selected m bytes a t n ≡ None → v ≡ function m bytes a t n → v ≡ 0 → selected m bytes a t (n + 1) ≡ None
unfolding selected
selected_more m bytes a t n v h e z = first_more _ n h (not_from_true _ (eq-eqb _ 0 (sym e ∙ z)))

pub selected_here : (m : Memory) (bytes : List ℕ) (a t n i v : ℕ) → i < n → selected m bytes a t i ≡ None → v ≡ function m bytes a t i → v ≢ 0 → Some i ≡ selected m bytes a t n
unfolding selected
selected_here m bytes a t n i v l h e z = sym (first_here _ n i l h (rw (← e) (not_from_false _ (ne_eqb v 0 z))))

looked_in : (n i : ℕ) (f : Option ℕ) → i < n → ((j : ℕ) → f ≡ Some j → i ≤ j) → i < looked_up n f
looked_in n i None l h = l
looked_in n i (Some j) l h = let k : i ≤ j = h j refl in omega arith

-- an argument before which none is selected is looked up
looked_past : (m : Memory) (bytes : List ℕ) (a t n i : ℕ) → i < n → selected m bytes a t i ≡ None → i < looked_up n (selected m bytes a t n)
unfolding selected
looked_past m bytes a t n i l h =
    looked_in n i (selected m bytes a t n) l (λ j e. first_past (λ k. not (function m bytes a t k == 0)) n i j (omega arith) h e)

pub search_refused : (m : Memory) (bytes : List ℕ) (a t n i b : ℕ) → i < n → selected m bytes a t i ≡ None → b ≡ function_at m bytes a t i → can_reach m b 1 ≡ false → all_reached m (functions m bytes a t (looked_up n (selected m bytes a t n))) ≡ false
search_refused m bytes a t n i b l h e k = functions_refused m bytes a t (looked_up n (selected m bytes a t n)) i b (looked_past m bytes a t n i l h) e k
