-- A name that is filled with blanks, and its bytes before them.
use Rattle.std.proofs.Common.{◌≡◌, ◌≢◌, ℕ, ◌-◌, ◌<◌, zero, suc, true, false, nat_eq, List, [], ◌∷◌, ◌++◌, length, take, replicate, slice_index, Some, refl, ap, arith}
use Rattle.std.specs.List.{list_all}
use Rattle.std.proofs.lemmas.Bool.Decides.{nat_tests}
use Rattle.std.proofs.lemmas.Bool.{and_parts, eq-eqb, ne_eqb}
use Rattle.cov_base.specs.Meaning.{is_name_byte, is_name, padded, unpadded, name_at}

pub no_blank : (b : ℕ) → is_name_byte b ≡ true → nat_eq b 32 ≡ false
no_blank b h = grind (arith, nat_tests)

unpadded-blanks : (n : ℕ) → unpadded (replicate n 32) ≡ []
unpadded-blanks zero = refl
unpadded-blanks (suc n) = refl

pub unpadded-append : (w : List ℕ) (n : ℕ) → list_all is_name_byte w ≡ true → unpadded (w ++ replicate n 32) ≡ w
unpadded-append [] n h = unpadded-blanks n
unpadded-append (b ∷ w) n h =
    let p = and_parts (is_name_byte b) (list_all is_name_byte w) h in
    rw (no_blank b p.0) (ap (λ x. b ∷ x) (unpadded-append w n p.1))

pub unpadded-padded : (w : List ℕ) → is_name w ≡ true → unpadded (padded w) ≡ w
unpadded-padded w h = unpadded-append w (8 - length w) (and_parts _ (list_all is_name_byte w) h).1

-- the first blank stands at i
pub unpadded_stops : (xs : List ℕ) (i : ℕ) → i < length xs → slice_index xs i ≡ 32 → ((k : ℕ) → k < i → slice_index xs k ≢ 32) → unpadded xs ≡ take i xs
unpadded_stops [] i h e n = absurd (omega arith)
unpadded_stops (b ∷ bs) zero h e n = rw (eq-eqb b 32 e) refl
unpadded_stops (b ∷ bs) (suc i) h e n =
    rw (ne_eqb b 32 (n 0 (omega arith))) (ap (λ x. b ∷ x) (unpadded_stops bs i (omega arith) e (λ k l. n (suc k) (omega arith))))

-- no blank stands there
pub unpadded_ends : (xs : List ℕ) → ((k : ℕ) → k < length xs → slice_index xs k ≢ 32) → unpadded xs ≡ take (length xs) xs
unpadded_ends [] n = refl
unpadded_ends (b ∷ bs) n =
    rw (ne_eqb b 32 (n 0 (omega arith))) (ap (λ x. b ∷ x) (unpadded_ends bs (λ k l. n (suc k) (omega arith))))

pub padded_name : (w bytes : List ℕ) → is_name w ≡ true → bytes ≡ padded w → (is_name (unpadded bytes) ≡ true) × (padded (unpadded bytes) ≡ bytes)
padded_name w bytes h e = rw (e, unpadded-padded w h) (h, refl)

pub named : (w bytes : List ℕ) → is_name w ≡ true → bytes ≡ padded w → Some bytes ≡ name_at w
named w bytes h e = rw (e, h) refl
