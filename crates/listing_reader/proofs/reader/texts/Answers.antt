use Rattle.std.proofs.Common.{◌≡◌, ◌∙◌, ◌++◌, ◌∷◌, [], ap, true, refl}
use Rattle.std.proofs.lemmas.List.{replicate_more}
use Rattle.std.proofs.lemmas.List.Elements.{All-push}
use Rattle.listing_reader.specs.Listing.{is_sound}
use Rattle.listing_reader.specs.declared.lines.Line.TheVariants.{Text}
use Rattle.listing_reader.proofs.reader.texts.Goals as goal

pub loop-k-preserved : goal.loop-k-preserved
loop-k-preserved c =
    (c.in_ok-push.ensures.added ∙ (ap (λ x. x ++ Text ∷ []) c.loop-k.invariant.0 ∙ replicate_more c.loop-k._k Text), rw c.in_ok-push.ensures.added (All-push (λ l. is_sound l ≡ true) c.loop-k.read Text c.loop-k.invariant.1 refl))
