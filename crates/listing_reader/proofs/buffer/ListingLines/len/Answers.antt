use Rattle.std.proofs.Common.{length, sym, ap, ◌∙◌}
use Rattle.listing_reader.proofs.BufferLemmas.{buffered_count}
use Rattle.listing_reader.proofs.buffer.ListingLines.len.Goals as goal

pub returns : goal.returns
returns c = c.len.ensures ∙ (c.self.inside.begins.ok.0 ∙ (sym (buffered_count c.self.inside.bytes.items c.self.inside.starts.items c.self.inside.begins.items) ∙ ap length c.self.view_is))
