-- Copies within storage, one byte on, and a list that is stored whole.
use Rattle.std.proofs.Common.{◌≡◌, ◌+◌, ◌<◌, ◌≤◌, zero, suc, List, length, length-drop, take, drop, slice_index, slice_set, refl, sym, ◌∙◌, add-one, arith, ℕ}
use Rattle.std.proofs.lemmas.Bool.{lt-ltb}
use Rattle.std.proofs.lemmas.List.{length-take-le, get_or-take, get_or-drop}
use Rattle.cov_base.specs.Meaning.{Memory, byte_at, wrap}
use Rattle.s370_state.specs.Fields.{AreBytes, copied}
use Rattle.s370_state.specs.Meaning.{store_bytes}
use Rattle.s370_state.proofs.Stores.{none_stored, one_stored, all_stored}

pub copied_none : (m : Memory) (bytes : List ℕ) (a b : ℕ) → copied m bytes a b 0 ≡ bytes
unfolding copied
copied_none m bytes a b = refl

pub copied_more : (m : Memory) (bytes : List ℕ) (a b n : ℕ) → copied m bytes a b (n + 1) ≡ slice_set (copied m bytes a b n) (wrap (a + n)) (byte_at m (copied m bytes a b n) (wrap (b + n)))
unfolding copied
copied_more m bytes a b n = rw add-one refl

-- the byte at a private address
pub byte_at-private : (m : Memory) (bytes : List ℕ) (a : ℕ) → a < m.private → byte_at m bytes a ≡ slice_index bytes a
unfolding byte_at
byte_at-private m bytes a h = rw (lt-ltb a m.private h) refl

-- one byte on where both are private
pub copied_inside : (m : Memory) (bytes done : List ℕ) (a b n : ℕ) → copied m bytes a b n ≡ done → a + n < m.private → b + n < m.private → m.private ≤ 16777216 →
    slice_set done (a + n) (slice_index done (b + n)) ≡ copied m bytes a b (n + 1)
copied_inside m bytes done a b n e h k l =
    let w : wrap (a + n) ≡ a + n = omega arith in
    let x : wrap (b + n) ≡ b + n = omega arith in
    sym (copied_more m bytes a b n ∙ rw (e, w, x, byte_at-private m done (b + n) k) refl)

-- from where no byte is private
copied_first : (m : Memory) (bytes list : List ℕ) (a b n : ℕ) → n ≤ length list → ((done : List ℕ) (i : ℕ) → i < n → slice_index list i ≡ byte_at m done (wrap (b + i))) →
    copied m bytes a b n ≡ store_bytes bytes a (take n list)
copied_first m bytes list a b zero h f = copied_none m bytes a b ∙ sym (none_stored bytes a list)
copied_first m bytes list a b (suc n) h f =
    let one : suc n ≡ n + 1 = omega arith in
    let e : copied m bytes a b n ≡ store_bytes bytes a (take n list) = copied_first m bytes list a b n (omega arith) (λ done i l. f done i (omega arith)) in
    rw one (copied_more m bytes a b n
    ∙ rw (e, ← f (store_bytes bytes a (take n list)) n (omega arith)) (sym (one_stored bytes a list n (omega arith))))

pub copied_list : (m : Memory) (bytes list : List ℕ) (a b n : ℕ) → length list ≡ n → ((done : List ℕ) (i : ℕ) → i < n → slice_index list i ≡ byte_at m done (wrap (b + i))) →
    copied m bytes a b n ≡ store_bytes bytes a list
copied_list m bytes list a b n h f = copied_first m bytes list a b n (omega arith) f ∙ all_stored bytes a list n h

-- a range of private bytes
pub bytes_inside : (m : Memory) (bytes : List ℕ) (a n : ℕ) → a + n ≤ length bytes → a + n ≤ 16777216 → length bytes ≡ m.private → AreBytes m bytes a n (take n (drop a bytes))
bytes_inside m bytes a n h l k = record {
  size = length-take-le n (drop a bytes) (omega (arith, length-drop a bytes));
  each = λ i p. let w : wrap (a + i) ≡ a + i = omega arith in rw (w, byte_at-private m bytes (a + i) (omega arith)) (get_or-take n (drop a bytes) i 0 p ∙ get_or-drop a bytes i 0);
}
