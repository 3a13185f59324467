-- How many words there are.
use Rattle.std.proofs.Common.{◌≡◌, ℕ, zero, suc, ◌*◌, ◌<◌, ◌≤◌, if◌then◌else◌, ap, arith, ne_eqb}
use Rattle.cov_base.specs.declared.facts.Fact.{Fact}
use Rattle.cov_base.specs.declared.facts.Fact.TheVariants.{Ran, Went, Stayed}
use Rattle.count_session.specs.Words.{count_word, words_of}

words_are : (n : ℕ) → words_of (suc n) ≡ 3 * suc n
words_are n = ap (λ b. if b then 1 else 3 * suc n) (ne_eqb (suc n) 0 (λ e. absurd (omega arith)))

pub some_word : (n : ℕ) → 0 < words_of n
some_word zero = omega arith
some_word (suc n) = let w = words_are n in omega arith

pub enough : (n : ℕ) → n ≤ words_of n
enough zero = omega arith
enough (suc n) = let w = words_are n in omega arith

pub cell_there : (n p : ℕ) → p < n → p < words_of n
cell_there n p l = let e = enough n in omega arith

pub count_there : (n p : ℕ) (f : Fact) → p < n → count_word n p f < words_of n
count_there zero p f l = absurd (omega arith)
count_there (suc n) p Ran l = let w = words_are n in omega arith
count_there (suc n) p Went l = let w = words_are n in omega arith
count_there (suc n) p Stayed l = let w = words_are n in omega arith

pub count_behind : (n p : ℕ) (f : Fact) → n ≤ count_word n p f
count_behind n p Ran = omega arith
count_behind n p Went = omega arith
count_behind n p Stayed = omega arith
