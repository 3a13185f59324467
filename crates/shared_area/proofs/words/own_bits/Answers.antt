use Rattle.std.proofs.Common.{ℕ, ◌*◌, ◌/◌, ◌%◌, ◌^◌, nat_eq, add-one, refl, sym, ap, ◌∙◌}
use Rattle.std.proofs.Math.Nat.{div-div-eq-div-mul, pow-suc}
use Rattle.shared_area.proofs.words.own_bits.Goals as goal

pub returns-clause-second : goal.returns-clause-second
returns-clause-second c =
    let n : ℕ = 2 * (c.args.place.0 % 32) in
    ap (λ (x : ℕ). nat_eq (x % 2) 1) (div-div-eq-div-mul c.args.word (2 ^ n) 2 ∙ ap (λ (k : ℕ). c.args.word / k) (sym (rw (add-one n, pow-suc) refl)))
