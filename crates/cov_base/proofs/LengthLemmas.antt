-- How many bytes an instruction has.
use Rattle.std.proofs.Common.{◌≡◌, ◌⊎◌, ℕ, ◌≤◌, arith}
use Rattle.std.proofs.lemmas.Bool.Decides.{nat_tests}
use Rattle.cov_base.specs.Meaning.{length_of}

pub length_of-cases : (h : ℕ) → (length_of h ≡ 2) ⊎ ((length_of h ≡ 4) ⊎ (length_of h ≡ 6))
unfolding length_of
length_of-cases h = grind (arith, nat_tests)

pub length_of-least : (h : ℕ) → 2 ≤ length_of h
unfolding length_of
length_of-least h = grind (arith, nat_tests)
