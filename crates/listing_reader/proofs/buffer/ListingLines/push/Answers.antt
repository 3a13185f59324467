use Rattle.std.proofs.Common.{◌≡◌, ◌∙◌, ◌-◌, ◌/◌, ◌<◌, ◌≤◌, ℕ, List, [], ◌∷◌, ◌++◌, length, get_or, arith}
use Rattle.std.specs.Prelude.{Result, Ok, Err, OnOk, OnErr}
use Rattle.cov_base.specs.declared.limits.TheConstants.{LINE_LIMIT}
use Rattle.listing_reader.specs.Buffer.{IsBuffer, buffered_lines}
use Rattle.listing_reader.proofs.BufferLemmas.{added, added_lines}
use Rattle.listing_reader.proofs.buffer.ListingLines.push.Goals as goal

either : {T E : Type 0} (r : Result T E) (bytes starts begins line bytes2 begins2 : List ℕ) (begin : ℕ) → IsBuffer bytes starts begins → length begins / 256 < length starts → length line ≤ LINE_LIMIT
    → begin ≡ length bytes - get_or starts (length begins / 256) 0 → OnOk r (bytes2 ≡ bytes ++ line) → OnOk r (begins2 ≡ begins ++ begin ∷ []) → OnErr r (bytes2 ≡ bytes) → OnErr r (begins2 ≡ begins)
    → IsBuffer bytes2 starts begins2
either (Ok u) bytes starts begins line bytes2 begins2 begin b is short at p q p2 q2 = rw (p, q) (added bytes starts begins line begin b is short at)
either (Err e) bytes starts begins line bytes2 begins2 begin b is short at p q p2 q2 = rw (p2, q2) b

more : {T E : Type 0} (r : Result T E) (bytes starts begins line bytes2 begins2 : List ℕ) (begin : ℕ) → IsBuffer bytes starts begins → length begins / 256 < length starts → length line ≤ LINE_LIMIT
    → begin ≡ length bytes - get_or starts (length begins / 256) 0 → OnOk r (bytes2 ≡ bytes ++ line) → OnOk r (begins2 ≡ begins ++ begin ∷ [])
    → OnOk r (buffered_lines bytes2 starts begins2 ≡ buffered_lines bytes starts begins ++ line ∷ [])
more (Ok u) bytes starts begins line bytes2 begins2 begin b is short at p q = rw (p, q) (added_lines bytes starts begins line begin b is short at)
more (Err e) bytes starts begins line bytes2 begins2 begin b is short at p q = tt

pub invariant_of-self-2 : goal.invariant_of-self-2
invariant_of-self-2 c =
    let buffer : IsBuffer c.self.inside.bytes.items c.start_of_next.new.starts.items c.self.inside.begins.items = rw (← c.deref.ensures.value, ← c.deref-2.ensures.value) c.in_ok-start.ensures.buffer in
    let there : length c.self.inside.begins.items / 256 < length c.start_of_next.new.starts.items = rw (← c.deref-2.ensures.value) c.in_ok-start.ensures.there in
    let start : c.in_ok-start.start ≡ get_or c.start_of_next.new.starts.items (length c.self.inside.begins.items / 256) 0 = rw (← c.deref-2.ensures.value) c.in_ok-start.ensures.start in
    either c.add.result c.self.inside.bytes.items c.start_of_next.new.starts.items c.self.inside.begins.items c.args.line.now c.add.new.bytes.items c.add.new.begins.items _ buffer there c.requires
    (omega (arith, start, c.len.ensures, c.self.inside.bytes.ok.0)) c.add.ensures.bytes c.add.ensures.begins c.add.ensures.bytes_kept c.add.ensures.begins_kept

pub returns-clause-added : goal.returns-clause-added
returns-clause-added c =
    let buffer : IsBuffer c.self.inside.bytes.items c.start_of_next.new.starts.items c.self.inside.begins.items = rw (← c.deref.ensures.value, ← c.deref-2.ensures.value) c.in_ok-start.ensures.buffer in
    let there : length c.self.inside.begins.items / 256 < length c.start_of_next.new.starts.items = rw (← c.deref-2.ensures.value) c.in_ok-start.ensures.there in
    let start : c.in_ok-start.start ≡ get_or c.start_of_next.new.starts.items (length c.self.inside.begins.items / 256) 0 = rw (← c.deref-2.ensures.value) c.in_ok-start.ensures.start in
    let same : buffered_lines c.self.inside.bytes.items c.start_of_next.new.starts.items c.self.inside.begins.items ≡ c.args.self.now = (rw (← c.deref.ensures.value, ← c.deref-2.ensures.value) c.in_ok-start.ensures.same) ∙ c.self.view_is in
    rw (← same) (more c.add.result c.self.inside.bytes.items c.start_of_next.new.starts.items c.self.inside.begins.items c.args.line.now c.add.new.bytes.items c.add.new.begins.items _ buffer there c.requires
    (omega (arith, start, c.len.ensures, c.self.inside.bytes.ok.0)) c.add.ensures.bytes c.add.ensures.begins)
