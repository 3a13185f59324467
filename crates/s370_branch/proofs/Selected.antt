-- A mask's bit for a condition code, by shifts.
use Rattle.std.proofs.Common.{◌≡◌, ℕ, ◌+◌, ◌*◌, ◌/◌, ◌%◌, ◌^◌, ◌<◌, ◌≤◌, ◌==◌, refl, arith}
use Rattle.std.proofs.lemmas.Bool.{agree_below_at}
use Rattle.s370_branch.specs.Meaning.{is_selected}

pub selected_by_shift : (mask code : ℕ) → mask < 16 → code ≤ 3 → (mask * 2 ^ code % 256 / 8 % 2 == 1) ≡ is_selected mask code
unfolding is_selected
selected_by_shift mask code lt le =
    let both = agree_below_at (λ n. n / 4 * 2 ^ (n % 4) % 256 / 8 % 2 == 1) (λ n. is_selected (n / 4) (n % 4)) 64 (4 * mask + code) refl (omega arith) in
    let first : (4 * mask + code) / 4 ≡ mask = omega arith in
    let second : (4 * mask + code) % 4 ≡ code = omega arith in
    rw (first, second) at both
