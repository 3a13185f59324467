use Rattle.std.proofs.Common.{◌<◌, length, sym, ap, arith}
use Rattle.listing_reader.proofs.BufferLemmas.{buffered_count, buffered_there}
use Rattle.listing_reader.proofs.buffer.ListingLines.line.Goals as goal

pub overflow_add-i : goal.overflow_add-i
overflow_add-i c = omega (arith, buffered_count c.self.inside.bytes.items c.self.inside.starts.items c.self.inside.begins.items, ap length c.self.view_is)

pub returns : goal.returns
returns c =
    let below : c.args.i < length c.self.inside.begins.items = omega (arith, buffered_count c.self.inside.bytes.items c.self.inside.starts.items c.self.inside.begins.items, ap length c.self.view_is) in
    let there = buffered_there c.self.inside.bytes.items c.self.inside.starts.items c.self.inside.begins.items c.args.i below in
    rw (c.begin_of-from.ensures, c.begin_of-to.ensures, c.deref.ensures.value, c.deref-2.ensures.value, c.deref-3.ensures.value, c.deref-4.ensures.value, c.deref-5.ensures.value, c.deref-6.ensures.value, c.deref-7.ensures.value, ← c.self.view_is) (sym there)
