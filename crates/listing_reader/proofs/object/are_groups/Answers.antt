use Rattle.std.proofs.Common.{sym, subst, ℕ, ◌≡◌, true, arith}
use Rattle.listing_reader.specs.Meaning.{are_groups, all_below, fits_groups}
use Rattle.listing_reader.proofs.Digits.{all_below_false}
use Rattle.listing_reader.proofs.object.are_groups.Goals as goal

pub returns-then-not-fits_groups : goal.returns-then-not-fits_groups
unfolding are_groups
returns-then-not-fits_groups c = sym (all_below_false _ c.args.columns.room c.loop-k.k (sym c.if-not-fits_groups.ensures) c.loop-k-test.true)

pub returns : goal.returns
unfolding are_groups
returns c =
    let end : c.loop-k.k ≡ c.args.columns.room = omega arith in
    let P : ℕ → Type 0 = λ k. all_below (fits_groups c.args.line.now c.args.shift c.args.columns.object c.args.groups) k ≡ true in
    sym (subst P end c.loop-k.invariant)
