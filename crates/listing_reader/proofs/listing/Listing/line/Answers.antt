use Rattle.std.proofs.Common.{◌≡◌, ◌+◌, ◌-◌, ◌/◌, ◌<◌, ◌∙◌, length, get_or, sym, ap, arith}
use Rattle.std.proofs.lemmas.List.{get_or_read}
use Rattle.listing_reader.specs.declared.lines.Line.TheVariants.{Text}
use Rattle.listing_reader.proofs.PackedLemmas.{lines_count, line_there, text_there, code_there}
use Rattle.listing_reader.proofs.listing.Listing.line.Goals as goal

pub index-requires : goal.index-requires
index-requires c =
    omega (arith, lines_count c.self.inside.codes.items c.self.inside.firsts.items c.self.inside.ordinals.items, ap length c.self.view_is, c.self.inside.ordinals.ok.0)

pub returns-then-ordinal-eq0 : goal.returns-then-ordinal-eq0
returns-then-ordinal-eq0 c =
    let below : c.args.i < length c.self.inside.ordinals.items = omega (arith, lines_count c.self.inside.codes.items c.self.inside.firsts.items c.self.inside.ordinals.items, ap length c.self.view_is) in
    let read : c.index.result.now ≡ get_or c.self.inside.ordinals.items c.args.i 0 = get_or_read c.self.inside.ordinals.items c.args.i c.index.result.now below c.index.ensures 0 in
    rw (← c.self.view_is) (sym (line_there c.self.inside.codes.items c.self.inside.firsts.items c.self.inside.ordinals.items c.args.i below
    ∙ text_there c.self.inside.codes.items c.self.inside.firsts.items c.self.inside.ordinals.items c.args.i (omega (arith, read, c.from-ordinal.ensures, c.if-ordinal-eq0.true))))

pub index-requires-2 : goal.index-requires-2
index-requires-2 c =
    let below : c.args.i < length c.self.inside.ordinals.items = omega (arith, lines_count c.self.inside.codes.items c.self.inside.firsts.items c.self.inside.ordinals.items, ap length c.self.view_is) in
    omega (arith, c.self.invariant.started c.args.i below, c.self.inside.firsts.ok.0)

pub overflow_add-index : goal.overflow_add-index
overflow_add-index c =
    let below : c.args.i < length c.self.inside.ordinals.items = omega (arith, lines_count c.self.inside.codes.items c.self.inside.firsts.items c.self.inside.ordinals.items, ap length c.self.view_is) in
    let read : c.index.result.now ≡ get_or c.self.inside.ordinals.items c.args.i 0 = get_or_read c.self.inside.ordinals.items c.args.i c.index.result.now below c.index.ensures 0 in
    let first : c.index-2.result.now ≡ get_or c.self.inside.firsts.items (c.args.i / 255) 0 = get_or_read c.self.inside.firsts.items (c.args.i / 255) c.index-2.result.now (c.self.invariant.started c.args.i below) c.index-2.ensures 0 in
    omega (arith, read, first, c.from-ordinal.ensures, c.self.invariant.within c.args.i below (omega (arith, read, c.from-ordinal.ensures, c.if-ordinal-eq0.false)), c.self.inside.codes.ok.0, c.self.inside.codes.small)

pub index-requires-3 : goal.index-requires-3
index-requires-3 c =
    let below : c.args.i < length c.self.inside.ordinals.items = omega (arith, lines_count c.self.inside.codes.items c.self.inside.firsts.items c.self.inside.ordinals.items, ap length c.self.view_is) in
    let read : c.index.result.now ≡ get_or c.self.inside.ordinals.items c.args.i 0 = get_or_read c.self.inside.ordinals.items c.args.i c.index.result.now below c.index.ensures 0 in
    let first : c.index-2.result.now ≡ get_or c.self.inside.firsts.items (c.args.i / 255) 0 = get_or_read c.self.inside.firsts.items (c.args.i / 255) c.index-2.result.now (c.self.invariant.started c.args.i below) c.index-2.ensures 0 in
    let some : 0 < c.from-ordinal.result = omega (arith, c.if-ordinal-eq0.false) in
    omega (arith, some, read, first, c.from-ordinal.ensures, c.self.invariant.within c.args.i below (omega (arith, some, read, c.from-ordinal.ensures)), c.self.inside.codes.ok.0)

pub returns : goal.returns
returns c =
    let below : c.args.i < length c.self.inside.ordinals.items = omega (arith, lines_count c.self.inside.codes.items c.self.inside.firsts.items c.self.inside.ordinals.items, ap length c.self.view_is) in
    let read : c.index.result.now ≡ get_or c.self.inside.ordinals.items c.args.i 0 = get_or_read c.self.inside.ordinals.items c.args.i c.index.result.now below c.index.ensures 0 in
    let first : c.index-2.result.now ≡ get_or c.self.inside.firsts.items (c.args.i / 255) 0 = get_or_read c.self.inside.firsts.items (c.args.i / 255) c.index-2.result.now (c.self.invariant.started c.args.i below) c.index-2.ensures 0 in
    let some : 0 < c.from-ordinal.result = omega (arith, c.if-ordinal-eq0.false) in
    let within = c.self.invariant.within c.args.i below (omega (arith, some, read, c.from-ordinal.ensures)) in
    let at : c.index-2.result.now + c.from-ordinal.result - 1 ≡ get_or c.self.inside.firsts.items (c.args.i / 255) 0 + get_or c.self.inside.ordinals.items c.args.i 0 - 1 = omega (arith, read, first, c.from-ordinal.ensures) in
    let there : c.index-3.result.now ≡ get_or c.self.inside.codes.items (c.index-2.result.now + c.from-ordinal.result - 1) Text =
    get_or_read c.self.inside.codes.items (c.index-2.result.now + c.from-ordinal.result - 1) c.index-3.result.now (omega (arith, some, at, within)) c.index-3.ensures Text in
    there ∙ (ap (λ k. get_or c.self.inside.codes.items k Text) at
    ∙ (sym (line_there c.self.inside.codes.items c.self.inside.firsts.items c.self.inside.ordinals.items c.args.i below ∙ code_there c.self.inside.codes.items c.self.inside.firsts.items c.self.inside.ordinals.items c.args.i (omega (arith, some, read, c.from-ordinal.ensures)))
    ∙ ap (λ x. get_or x c.args.i Text) c.self.view_is))
