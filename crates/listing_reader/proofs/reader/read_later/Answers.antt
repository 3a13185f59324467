use Rattle.std.proofs.Common.{◌≡◌, ◌∙◌, ◌+◌, ◌<◌, [], ◌∷◌, true, length, inr, sym, ap, length-append, arith}
use Rattle.std.specs.Prelude.{Some}
use Rattle.std.proofs.lemmas.List.Elements.{All-push}
use Rattle.std.specs.declared.option.Option.TheVariants.{None}
use Rattle.listing_reader.specs.Meaning.{line_of}
use Rattle.listing_reader.specs.Listing.{is_sound}
use Rattle.listing_reader.proofs.FaultLemmas.{bad_here, read_here, none_here}
use Rattle.listing_reader.proofs.reader.read_later.Goals as goal

pub returns-in-None-clause-fault : goal.returns-in-None-clause-fault
returns-in-None-clause-fault c =
    let none : line_of c.args.columns c.args.shift c.line.result.now ≡ None = sym c.read_line.ensures.value ∙ c.in-None.is in
    let below : c.loop-i.i < length c.args.lines.now = omega (arith, c.len-i-end.ensures) in
    inr (bad_here c.args.columns c.args.lines.now _ c.args.shift _ _ c.loop-i.i c.line.result.now below c.line.ensures none c.loop-i.invariant.none)

pub loop-i-preserved : goal.loop-i-preserved
loop-i-preserved c =
    let says : line_of c.args.columns c.args.shift c.line.result.now ≡ Some c.in-Some.says = sym c.read_line.ensures.value ∙ c.in-Some.is in
    let below : c.loop-i.i < length c.args.lines.now = omega (arith, c.len-i-end.ensures) in
    record {
      length = omega (arith, ap length c.in_ok-push-in-Some.ensures.added, length-append c.loop-i.read (c.in-Some.says ∷ []), c.loop-i.invariant.length);
      sound = λ before. rw c.in_ok-push-in-Some.ensures.added (All-push (λ l. is_sound l ≡ true) c.loop-i.read c.in-Some.says (c.loop-i.invariant.sound before) c.in-Some.ensures.sound);
      read = rw c.in_ok-push-in-Some.ensures.added (read_here c.args.columns c.args.lines.now c.args.shift c.loop-i.i c.line.result.now c.in-Some.says below c.line.ensures says c.loop-i.read) ∙ c.loop-i.invariant.read;
      none = none_here c.args.columns c.args.lines.now c.args.shift c.loop-i.i c.line.result.now c.in-Some.says below c.line.ensures says (c.loop-i.i + 1) ∙ c.loop-i.invariant.none;
    }
