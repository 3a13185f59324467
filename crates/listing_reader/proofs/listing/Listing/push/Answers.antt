use Rattle.std.proofs.Common.{◌≡◌, ◌+◌, ◌-◌, ◌/◌, ◌<◌, ℕ, ◌∙◌, List, [], ◌∷◌, ◌++◌, length, get_or, arith}
use Rattle.std.specs.Prelude.{Result, Ok, Err, OnOk, OnErr}
use Rattle.listing_reader.specs.declared.lines.Line.{Line}
use Rattle.listing_reader.specs.Packed.{lines_in, IsPacked}
use Rattle.listing_reader.proofs.PackedLemmas.{text_packed, text_added_lines, code_packed, code_added_lines}
use Rattle.listing_reader.proofs.listing.Listing.push.Goals as goal

more : {T E : Type 0} (r : Result T E) (codes codes2 : List Line) (firsts ordinals ordinals2 : List ℕ) (code : Line) (ordinal : ℕ) → IsPacked codes firsts ordinals → length ordinals / 255 < length firsts
    → ordinal ≡ length codes - get_or firsts (length ordinals / 255) 0 + 1 → OnOk r (codes2 ≡ codes ++ code ∷ []) → OnOk r (ordinals2 ≡ ordinals ++ ordinal ∷ [])
    → OnOk r (lines_in codes2 firsts ordinals2 ≡ lines_in codes firsts ordinals ++ code ∷ [])
more (Ok u) codes codes2 firsts ordinals ordinals2 code ordinal p is at e f = rw (e, f) (code_added_lines codes firsts ordinals code ordinal p is at)
more (Err x) codes codes2 firsts ordinals ordinals2 code ordinal p is at e f = tt

either : {T E : Type 0} (r : Result T E) (codes codes2 : List Line) (firsts ordinals ordinals2 : List ℕ) (code : Line) (ordinal : ℕ) → IsPacked codes firsts ordinals → length ordinals / 255 < length firsts
    → ordinal ≡ length codes - get_or firsts (length ordinals / 255) 0 + 1 → OnOk r (codes2 ≡ codes ++ code ∷ []) → OnOk r (ordinals2 ≡ ordinals ++ ordinal ∷ []) → OnErr r (codes2 ≡ codes) → OnErr r (ordinals2 ≡ ordinals)
    → IsPacked codes2 firsts ordinals2
either (Ok u) codes codes2 firsts ordinals ordinals2 code ordinal p is at e f e2 f2 = rw (e, f) (code_packed codes firsts ordinals code ordinal p is at)
either (Err x) codes codes2 firsts ordinals ordinals2 code ordinal p is at e f e2 f2 = rw (e2, f2) p

pub invariant_of-self-in-Text : goal.invariant_of-self-in-Text
invariant_of-self-in-Text c =
    let packed : IsPacked c.self.inside.codes.items c.first_of_next.new.firsts.items c.self.inside.ordinals.items = rw (← c.deref.ensures.value, ← c.deref-2.ensures.value) c.in_ok-first.ensures.packed in
    let there : length c.self.inside.ordinals.items / 255 < length c.first_of_next.new.firsts.items = rw (← c.deref-2.ensures.value) c.in_ok-first.ensures.there in
    rw c.in_ok-push-in-Text.ensures.items (text_packed c.self.inside.codes.items c.first_of_next.new.firsts.items c.self.inside.ordinals.items packed there)

pub invariant_of-self-in_default : goal.invariant_of-self-in_default
invariant_of-self-in_default c =
    let packed : IsPacked c.self.inside.codes.items c.first_of_next.new.firsts.items c.self.inside.ordinals.items = rw (← c.deref.ensures.value, ← c.deref-2.ensures.value) c.in_ok-first.ensures.packed in
    let there : length c.self.inside.ordinals.items / 255 < length c.first_of_next.new.firsts.items = rw (← c.deref-2.ensures.value) c.in_ok-first.ensures.there in
    let first : c.in_ok-first.first ≡ get_or c.first_of_next.new.firsts.items (length c.self.inside.ordinals.items / 255) 0 = rw (← c.deref-2.ensures.value) c.in_ok-first.ensures.first in
    either c.add_code.result c.self.inside.codes.items c.add_code.new.codes.items c.first_of_next.new.firsts.items c.self.inside.ordinals.items c.add_code.new.ordinals.items c.args.line _ packed there
    (omega (arith, first, c.len.ensures, c.self.inside.codes.ok.0)) c.add_code.ensures.codes c.add_code.ensures.ordinals c.add_code.ensures.codes_kept c.add_code.ensures.ordinals_kept

pub returns-in_ok-push-in-Text-clause-added : goal.returns-in_ok-push-in-Text-clause-added
returns-in_ok-push-in-Text-clause-added c =
    let packed : IsPacked c.self.inside.codes.items c.first_of_next.new.firsts.items c.self.inside.ordinals.items = rw (← c.deref.ensures.value, ← c.deref-2.ensures.value) c.in_ok-first.ensures.packed in
    let there : length c.self.inside.ordinals.items / 255 < length c.first_of_next.new.firsts.items = rw (← c.deref-2.ensures.value) c.in_ok-first.ensures.there in
    let same : lines_in c.self.inside.codes.items c.first_of_next.new.firsts.items c.self.inside.ordinals.items ≡ c.args.self.now = (rw (← c.deref.ensures.value, ← c.deref-2.ensures.value) c.in_ok-first.ensures.same) ∙ c.self.view_is in
    rw (c.in_ok-push-in-Text.ensures.items, c.in-Text.is, ← same) (text_added_lines c.self.inside.codes.items c.first_of_next.new.firsts.items c.self.inside.ordinals.items packed there)

pub returns-in_default-clause-added : goal.returns-in_default-clause-added
returns-in_default-clause-added c =
    let packed : IsPacked c.self.inside.codes.items c.first_of_next.new.firsts.items c.self.inside.ordinals.items = rw (← c.deref.ensures.value, ← c.deref-2.ensures.value) c.in_ok-first.ensures.packed in
    let there : length c.self.inside.ordinals.items / 255 < length c.first_of_next.new.firsts.items = rw (← c.deref-2.ensures.value) c.in_ok-first.ensures.there in
    let first : c.in_ok-first.first ≡ get_or c.first_of_next.new.firsts.items (length c.self.inside.ordinals.items / 255) 0 = rw (← c.deref-2.ensures.value) c.in_ok-first.ensures.first in
    let same : lines_in c.self.inside.codes.items c.first_of_next.new.firsts.items c.self.inside.ordinals.items ≡ c.args.self.now = (rw (← c.deref.ensures.value, ← c.deref-2.ensures.value) c.in_ok-first.ensures.same) ∙ c.self.view_is in
    rw (← same) (more c.add_code.result c.self.inside.codes.items c.add_code.new.codes.items c.first_of_next.new.firsts.items c.self.inside.ordinals.items c.add_code.new.ordinals.items c.args.line _ packed there
    (omega (arith, first, c.len.ensures, c.self.inside.codes.ok.0)) c.add_code.ensures.codes c.add_code.ensures.ordinals)
