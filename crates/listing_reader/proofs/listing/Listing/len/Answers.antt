use Rattle.std.proofs.Common.{length, sym, ap, ◌∙◌}
use Rattle.listing_reader.proofs.PackedLemmas.{lines_count}
use Rattle.listing_reader.proofs.listing.Listing.len.Goals as goal

pub returns : goal.returns
returns c = c.len.ensures ∙ (c.self.inside.ordinals.ok.0 ∙ (sym (lines_count c.self.inside.codes.items c.self.inside.firsts.items c.self.inside.ordinals.items) ∙ ap length c.self.view_is))
