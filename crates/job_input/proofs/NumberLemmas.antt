-- The number that a word is the decimal of.
use Rattle.std.proofs.Common.{◌≡◌, ℕ, ◌<◌, ◌^◌, Bool, true, false, ◌&&◌, nat_lt, if◌then◌else◌, Some, None, Result, Ok, Err, List, decimal, refl, sym, ◌∙◌, ap, arith, rules}
use Rattle.std.specs.Str.{bytes_eq, all_ascii_digits}
use Rattle.std.specs.Str.Parse.{digits_value, ParsesUnsigned}
use Rattle.std.proofs.lemmas.Bool.Decides.{nat_tests}
use Rattle.std.proofs.lemmas.Fmt.{digits_value-decimal, parse-decimal}
use Rattle.std.proofs.lemmas.Slice.Eq.{bytes_eq-Decides}
use Rattle.std.proofs.lemmas.Str.Parse.{IsNumeralModel, numerals_by_value}
use Rattle.job_input.specs.Meaning.{number_word}

own : IsNumeralModel (λ ds. all_ascii_digits ds ≡ true) (digits_value 10)
own = numerals_by_value (λ ds. all_ascii_digits ds ≡ true) (search rules)

-- a word that is the decimal of a number
pub number_found : (w : List ℕ) (n : ℕ) → n < 2 ^ 32 → w ≡ decimal n → number_word w ≡ Some n
number_found w n h e =
    let value : digits_value 10 w ≡ n = ap (digits_value 10) e ∙ digits_value-decimal own n (omega arith) in
    let below : nat_lt n 4294967296 ≡ true = grind (arith, nat_tests) in
    let same : bytes_eq w (decimal n) ≡ true = (bytes_eq-Decides w (decimal n)).1 e in
    rw (value, below, same) refl

-- a word that is that of none
pub number_missing : (w : List ℕ) → ((n : ℕ) → n < 2 ^ 32 → w ≡ decimal n → ⊥) → number_word w ≡ None
number_missing w none = by_tests (nat_lt v 4294967296) refl (bytes_eq w (decimal v)) refl
  where
    v : ℕ
    v = digits_value 10 w

    by_tests : (a : Bool) → nat_lt v 4294967296 ≡ a → (b : Bool) → bytes_eq w (decimal v) ≡ b → (if a && b then Some v else None) ≡ None
    by_tests false e b f = refl
    by_tests true e false f = refl
    by_tests true e true f =
        let below : v < 2 ^ 32 = grind (arith, nat_tests) in
        absurd (none v below ((bytes_eq-Decides w (decimal v)).0 f))

-- what `parse` and a comparison with the number's decimal find
pub not_parsed : {E : Type 0} (w : List ℕ) (r : Result ℕ E) (e : E) → ParsesUnsigned 32 10 w r → r ≡ Err e → number_word w ≡ None
not_parsed w r e p q = number_missing w (λ n h is. (let found : r ≡ Ok n = parse-decimal 32 n w r h (omega arith) is p in absurd cc))

pub parsed_otherwise : {E : Type 0} (w : List ℕ) (r : Result ℕ E) (n : ℕ) → ParsesUnsigned 32 10 w r → r ≡ Ok n → (w ≡ decimal n → ⊥) → number_word w ≡ None
parsed_otherwise w r n p q other = number_missing w (λ m h is. (let found : r ≡ Ok m = parse-decimal 32 m w r h (omega arith) is p in
    let same : n ≡ m = cc in other (is ∙ ap decimal (sym same))))
