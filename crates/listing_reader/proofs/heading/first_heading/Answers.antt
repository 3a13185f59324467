use Rattle.std.proofs.Common.{◌≡◌, [], true, false, length, nat_lt, sym, ap, ◌∙◌, refl, arith}
use Rattle.std.specs.Prelude.{slice_index_or}
use Rattle.std.specs.List.{position_or_len}
use Rattle.std.proofs.lemmas.Bool.Decides.{nat_tests}
use Rattle.std.proofs.lemmas.List.Sums.{position_or_len_is}
use Rattle.listing_reader.specs.Meaning.{is_heading}
use Rattle.listing_reader.proofs.heading.first_heading.Goals as goal

pub returns-then-is_heading : goal.returns-then-is_heading
returns-then-is_heading c =
    let here : is_heading (slice_index_or c.args.lines.now c.loop-i.i []) ≡ true = ap is_heading (sym c.line.ensures) ∙ (sym c.is_heading.ensures ∙ c.if-is_heading.true) in
    let at : position_or_len is_heading c.args.lines.now ≡ c.loop-i.i = position_or_len_is is_heading c.args.lines.now c.loop-i.i [] (omega arith) c.loop-i.invariant (λ lt. here) in
    let lt : nat_lt c.loop-i.i (length c.args.lines.now) ≡ true = grind (arith, nat_tests) in
    rw (at, lt) refl

pub returns : goal.returns
returns c =
    let at : position_or_len is_heading c.args.lines.now ≡ c.loop-i.i = position_or_len_is is_heading c.args.lines.now c.loop-i.i [] (omega arith) c.loop-i.invariant (λ lt. absurd (omega arith)) in
    let ge : nat_lt c.loop-i.i (length c.args.lines.now) ≡ false = grind (arith, nat_tests) in
    rw (at, ge) refl
