-- What the block behind a state is, by its draws.
use Rattle.std.proofs.Common.{◌≡◌, ℕ, zero, suc, ◌+◌, ◌*◌, ◌≤◌, ◌%◌, List, [], ◌∷◌, ◌++◌, length, nat_eq, false, refl, ◌∙◌, arith, if◌then◌else◌, length-append}
use Rattle.std.proofs.lemmas.Bool.{cond_both}
use Rattle.std.proofs.lemmas.Grind.{flat_map-append}
use Rattle.job_gen.specs.declared.instruction.Instruction.{Instruction}
use Rattle.job_gen.specs.declared.instruction.Operation.{Operation}
use Rattle.job_gen.specs.declared.instruction.Operation.TheVariants.{La, Ar, St, Bct, Br}
use Rattle.job_gen.specs.Meaning.{next, drawn, short, long_form, test_block, kind, block_of, block, after_block, code_bytes, code_from}

block_is : (x at y n : ℕ) → y ≡ next x → n ≡ drawn y 4 → block x at ≡ block_of n (next y) at
unfolding block
block_is x at y n e k = rw (k, e) refl

after_is : (x y n : ℕ) → y ≡ next x → n ≡ drawn y 4 → after_block x ≡ (if nat_eq n 1 then y else next y)
unfolding after_block
after_is x y n e k = rw (k, e) refl

-- by the state after the first draw, the state after the second, and what that draws
module _ (x at y z n : ℕ) (first : y ≡ next x) (second : z ≡ next y) where
  pub block_la : 0 ≡ drawn y 4 → n ≡ drawn z 16 → block x at ≡ long_form La 16656 (4096 + n) ∷ []
  block_la k e = rw (e, second) (block_is x at y 0 first k)

  pub block_test : 2 ≡ drawn y 4 → n ≡ drawn z 14 → block x at ≡ test_block (1 + n) (at + 8)
  block_test k e = rw (e, second) (block_is x at y 2 first k)

  pub block_st : 3 ≡ drawn y 4 → n ≡ drawn z 64 → block x at ≡ long_form St 20512 (4 * n) ∷ []
  block_st k e = rw (e, second) (block_is x at y 3 first k)

pub block_ar : (x at y : ℕ) → y ≡ next x → 1 ≡ drawn y 4 → block x at ≡ short Ar 6689 ∷ []
block_ar x at y first k = block_is x at y 1 first k

pub after_one : (x y : ℕ) → y ≡ next x → 1 ≡ drawn y 4 → after_block x ≡ y
after_one x y first k = after_is x y 1 first k

pub after_two : (x y z n : ℕ) → y ≡ next x → z ≡ next y → n ≡ drawn y 4 → nat_eq n 1 ≡ false → after_block x ≡ z
after_two x y z n first second k other = after_is x y n first k ∙ rw (other, second) refl

-- of a block, by its form
block_of_each : (P : List Instruction → Type 0) (n x at : ℕ) → ((o : Operation) (first second : ℕ) → P (long_form o first second ∷ [])) → ((o : Operation) (first : ℕ) → P (short o first ∷ [])) → ((m t : ℕ) → P (test_block m t)) → P (block_of n x at)
block_of_each P n x at two one test =
    cond_both (nat_eq n 0) _ _ P (λ _. two _ _ _)
    (λ _. cond_both (nat_eq n 1) _ _ P (λ _. one _ _)
    (λ _. cond_both (nat_eq n 2) _ _ P (λ _. test _ _) (λ _. two _ _ _)))

block_each : (P : List Instruction → Type 0) (x at : ℕ) → ((o : Operation) (first second : ℕ) → P (long_form o first second ∷ [])) → ((o : Operation) (first : ℕ) → P (short o first ∷ [])) → ((m t : ℕ) → P (test_block m t)) → P (block x at)
unfolding block
block_each P x at two one test = block_of_each P (kind x) (next (next x)) at two one test

-- of code, at most so many instructions and bytes, which are an even number
pub record IsSized (instructions bytes : ℕ) (code : List Instruction) : Type 0 where
  pub most : length code ≤ instructions
  pub fits : length (code_bytes code) ≤ bytes
  pub even : length (code_bytes code) % 2 ≡ 0

pub block_size : (x at : ℕ) → IsSized 3 8 (block x at)
block_size x at = block_each (IsSized 3 8) x at (λ o a b. record { most = omega arith; fits = omega arith; even = refl }) (λ o a. record { most = omega arith; fits = omega arith; even = refl }) (λ m t. record { most = omega arith; fits = omega arith; even = refl })

-- the code's first block
pub code_more : (n m x at : ℕ) → n ≡ m + 1 → code_from n x at ≡ block x at ++ code_from m (after_block x) (at + length (code_bytes (block x at)))
unfolding code_from
code_more zero m x at e = absurd (omega arith)
code_more (suc n) m x at e = let k : m ≡ n = omega arith in rw k refl

pub code_end : (n x at : ℕ) → n ≡ 0 → code_from n x at ≡ long_form Bct 17968 61440 ∷ short Br 2046 ∷ []
unfolding code_from
code_end n x at e = rw e refl

size_more : (n : ℕ) (xs ys : List Instruction) → IsSized 3 8 xs → IsSized (3 * n + 2) (8 * n + 6) ys → IsSized (3 * suc n + 2) (8 * suc n + 6) (xs ++ ys)
size_more n xs ys p q =
    let bytes : length (code_bytes (xs ++ ys)) ≡ length (code_bytes xs) + length (code_bytes ys) = rw flat_map-append (length-append (code_bytes xs) (code_bytes ys)) in
    record { most = rw length-append (omega arith); fits = omega arith; even = omega arith }

pub code_size : (n x at : ℕ) → IsSized (3 * n + 2) (8 * n + 6) (code_from n x at)
code_size zero x at = rw code_end (record { most = omega arith; fits = omega arith; even = refl })
code_size (suc n) x at = rw (code_more (suc n) n x at (omega arith)) (size_more n _ _ (block_size x at) (code_size n _ _))

pub code_some : (n x at : ℕ) → 2 ≤ length (code_bytes (code_from n x at))
code_some zero x at = rw (code_end zero x at refl) (omega arith)
code_some (suc n) x at =
    let rest = code_some n (after_block x) (at + length (code_bytes (block x at))) in
    rw (code_more (suc n) n x at (omega arith), flat_map-append, length-append) (omega arith)
