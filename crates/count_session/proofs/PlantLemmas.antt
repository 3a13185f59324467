-- One place more of a planting round.
use Rattle.std.proofs.Common.{◌≡◌, ℕ, ◌+◌, ◌<◌, Bool, false, ◌||◌, ◌&&◌, nat_eq, nat_lt, ap, arith}
use Rattle.std.proofs.lemmas.Bool.Decides.{nat_tests}

pub none_planted : (b : Bool) (p : ℕ) → (nat_lt p 0 && b) ≡ false
none_planted b p = grind (arith, nat_tests)

pub not_yet : (b : Bool) (p : ℕ) → (nat_lt p p && b) ≡ false
not_yet b p = grind (arith, nat_tests)

one_more : (b c : Bool) (p i : ℕ) → (p ≡ i → b ≡ c) → ((nat_lt p i && b) || (nat_eq p i && c)) ≡ (nat_lt p (i + 1) && b)
one_more b c p i h = grind (arith, nat_tests)

pub more_planted : (w : ℕ → ℕ) (p i : ℕ) → ((nat_lt p i && nat_lt 0 (w p)) || (nat_eq p i && nat_lt 0 (w i))) ≡ (nat_lt p (i + 1) && nat_lt 0 (w p))
more_planted w p i = one_more (nat_lt 0 (w p)) (nat_lt 0 (w i)) p i (λ e. ap (λ k. nat_lt 0 (w k)) e)

pub all_planted : (b : Bool) (p n : ℕ) → p < n → (nat_lt p n && b) ≡ b
all_planted b p n h = grind (arith, nat_tests)

pub no_window : (a b : Bool) (w : ℕ) → w ≡ 0 → a ≡ (a || (b && nat_lt 0 w))
no_window a b w e = grind (arith, nat_tests)

pub a_window : (a b : Bool) (w : ℕ) → 0 < w → (a || b) ≡ (a || (b && nat_lt 0 w))
a_window a b w e = grind (arith, nat_tests)
