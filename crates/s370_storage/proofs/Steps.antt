-- The recursions of moves, one byte on.
use Rattle.std.proofs.Common.{◌≡◌, ℕ, zero, suc, ◌+◌, ◌-◌, ◌<◌, ◌≤◌, true, List, slice_set, refl, add-one, arith}
use Rattle.cov_base.specs.Meaning.{Memory, byte_at, wrap, can_reach, is_accessible}
use Rattle.s370_state.specs.Fields.{copied}
use Rattle.s370_state.proofs.Laws.{reach_at}
use Rattle.s370_storage.specs.Meaning.{moved, with_part, inverted, left_of}
use Rattle.s370_storage.specs.declared.moves.Part.{Part}
use Rattle.s370_storage.specs.declared.moves.Part.TheVariants.{Byte}

pub moved_none : (p : Part) (m : Memory) (bytes : List ℕ) (a b : ℕ) → moved p m bytes a b 0 ≡ bytes
unfolding moved
moved_none p m bytes a b = refl

pub moved_more : (p : Part) (m : Memory) (bytes : List ℕ) (a b n : ℕ) → moved p m bytes a b (n + 1) ≡ slice_set (moved p m bytes a b n) (wrap (a + n)) (with_part p (byte_at m (moved p m bytes a b n) (wrap (a + n))) (byte_at m (moved p m bytes a b n) (wrap (b + n))))
unfolding moved
moved_more p m bytes a b n = rw add-one refl

-- whole bytes
pub moved_copied : (m : Memory) (bytes : List ℕ) (a b n : ℕ) → copied m bytes a b n ≡ moved Byte m bytes a b n
unfolding copied moved
moved_copied m bytes a b zero = refl
moved_copied m bytes a b (suc n) = rw (moved_copied m bytes a b n) refl

pub inverted_none : (m : Memory) (bytes : List ℕ) (a b : ℕ) → inverted m bytes a b 0 ≡ bytes
unfolding inverted
inverted_none m bytes a b = refl

pub inverted_more : (m : Memory) (bytes : List ℕ) (a b n : ℕ) → inverted m bytes a b (n + 1) ≡ slice_set (inverted m bytes a b n) (wrap (a + n)) (byte_at m (inverted m bytes a b n) (left_of b n))
unfolding inverted
inverted_more m bytes a b n = rw add-one refl

-- each of the bytes to the left of b
pub left_reached : (m : Memory) (b l i x : ℕ) → can_reach m (left_of b l) (l + 1) ≡ true → l < 256 → i ≤ l → x ≡ left_of b i → is_accessible m x ≡ true
left_reached m b l i x h w k e = reach_at m (left_of b l) (l + 1) (l - i) x h (omega arith) (omega arith)
