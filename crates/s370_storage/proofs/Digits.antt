-- The recursions of packing, one result byte or pair on.
use Rattle.std.proofs.Common.{◌≡◌, ℕ, ◌+◌, ◌*◌, ◌/◌, ◌%◌, List, slice_set, suc, refl, ap, ◌∙◌, add-one, arith}
use Rattle.cov_base.specs.Meaning.{Memory, byte_at, wrap}
use Rattle.s370_storage.specs.Meaning.{source, result_at, exchanged, packed_byte, packed, with_zoned, unpacked, shifted}
use Rattle.s370_storage.specs.declared.packing.Fields.{Fields}

pub packed_none : (m : Memory) (bytes : List ℕ) (o : Fields) → packed m bytes o 0 ≡ bytes
unfolding packed
packed_none m bytes o = refl

pub packed_more : (m : Memory) (bytes : List ℕ) (o : Fields) (k : ℕ) → packed m bytes o (k + 1) ≡ slice_set (packed m bytes o k) (result_at o k) (packed_byte m (packed m bytes o k) o k)
unfolding packed
packed_more m bytes o k = rw add-one refl

pub unpacked_none : (m : Memory) (bytes : List ℕ) (o : Fields) → unpacked m bytes o 0 ≡ slice_set bytes (result_at o 0) (exchanged (source m bytes o 0))
unfolding unpacked
unpacked_none m bytes o = refl

pub unpacked_more : (m : Memory) (bytes : List ℕ) (o : Fields) (j : ℕ) → unpacked m bytes o (j + 1) ≡ with_zoned (unpacked m bytes o j) o (2 * j + 1) (source m (unpacked m bytes o j) o (j + 1))
unfolding unpacked
unpacked_more m bytes o j = let e : j + 1 ≡ suc j = omega arith in ap (unpacked m bytes o) e ∙ refl

pub shifted_none : (m : Memory) (bytes : List ℕ) (o : Fields) → shifted m bytes o 0 ≡ record { bytes = bytes; half = byte_at m bytes (wrap (o.to + o.to_last)) % 16 }
unfolding shifted
shifted_none m bytes o = refl

pub shifted_more : (m : Memory) (bytes : List ℕ) (o : Fields) (k : ℕ) → shifted m bytes o (k + 1) ≡ record { bytes = slice_set (shifted m bytes o k).bytes (result_at o k) (source m (shifted m bytes o k).bytes o k % 16 * 16 + (shifted m bytes o k).half); half = source m (shifted m bytes o k).bytes o k / 16 }
unfolding shifted
shifted_more m bytes o k = rw add-one refl
