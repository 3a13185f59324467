-- What one test of a range tells in a task's space.
use Rattle.std.proofs.Common.{◌≡◌, ℕ, ◌+◌, ◌*◌, ◌/◌, ◌%◌, ◌<◌, ◌≤◌, zero, suc, Bool, true, false, nat_eq, nat_le, IsTrue, None, Ok, List, length, take, drop, ◌++◌, slice_index, slice_set, refl, ap, sym, ◌∙◌, arith, inl, inr}
use Rattle.std.specs.List.{list_any}
use Rattle.std.proofs.lemmas.List.{length-set}
use Rattle.std.proofs.Math.Seq.{take-append_seam}
use Rattle.std.proofs.lemmas.Bool.{le-leb, lt-leb, lt-ltb, cases_eq, cases_lt, leb-true}
use Rattle.cov_base.specs.Meaning.{Memory, ImageView, wrap, byte_at, can_reach, can_store, first_touch}
use Rattle.s370_state.specs.Answers.{first_answer}
use Rattle.s370_state.specs.Fields.{AreBytes, copied}
use Rattle.s370_state.specs.Meaning.{number_at, store_number, store_bytes}
use Rattle.s370_state.proofs.Laws.{copied_list, word_of_bytes, word_stored}
use Rattle.module_area.specs.declared.places.Place.{Place}
use Rattle.brk_table.specs.Meaning.{memory_of, in_image, image_byte}
use Rattle.space_map.specs.Space.{SpaceView, memory_of_space}
use Rattle.space_map.specs.Inside.{IsSpace}
use Rattle.space_map.proofs.Ranges.{reach_private, reach_image, store_private, store_outside, touch_private}
use Rattle.space_map.proofs.Touches.{touches-private}
use Rattle.space_map.proofs.Seen.{byte_at-image}

-- private storage has all its bytes
pub private_filled : (s : SpaceView) → length s.bytes ≡ (memory_of_space s).private
unfolding memory_of
private_filled s = refl

-- as many as the size that its memory was made of
pub private_filled-as : (s : SpaceView) (size : ℕ) (images : List ImageView) (places : List Place) → memory_of_space s ≡ memory_of size images places → length s.bytes ≡ size
unfolding memory_of
private_filled-as s size images places h = ap (λ (m : Memory). m.private) h

pub store_empty : (m : Memory) (a n : ℕ) → n ≡ 0 → nat_eq n 0 ≡ can_store m a n
unfolding can_store
store_empty m a zero h = refl
store_empty m a (suc n) h = absurd (omega arith)

pub reach_empty : (m : Memory) (a n : ℕ) → n ≡ 0 → can_reach m a n ≡ true
unfolding can_reach
reach_empty m a zero h = refl
reach_empty m a (suc n) h = absurd (omega arith)

pub touch_empty : (m : Memory) (a n : ℕ) → n ≡ 0 → first_touch m a n ≡ None
unfolding first_touch
touch_empty m a zero h = refl
touch_empty m a (suc n) h = absurd (omega arith)

-- by the number of private bytes, however it was read

pub store_range : (s : SpaceView) (monitored : Bool) (a n x size : ℕ) → IsSpace s monitored → size ≡ length s.bytes → a < 16777216 → 0 < n → x ≡ a + n → nat_le x size ≡ can_store (memory_of_space s) a n
unfolding memory_of
store_range s monitored a n x size k f l p e =
    elim (cases_lt size x) [
      | inl h ↦ rw (lt-leb x size h, store_outside (memory_of_space s) a n p (omega arith) l (omega arith)) refl
      | inr h ↦ rw (le-leb x size h, store_private (memory_of_space s) a n (omega arith) (omega arith)) refl
    ]

pub reach_range : (s : SpaceView) (monitored : Bool) (a n x size : ℕ) → IsSpace s monitored → size ≡ length s.bytes → x ≡ a + n → IsTrue (nat_le x size) → can_reach (memory_of_space s) a n ≡ true
unfolding memory_of
reach_range s monitored a n x size k f e h = let w = leb-true x size h in reach_private (memory_of_space s) a n (omega arith) (omega arith)

pub touch_range : (s : SpaceView) (monitored : Bool) (a n x size : ℕ) → IsSpace s monitored → size ≡ length s.bytes → x ≡ a + n → IsTrue (nat_le x size) → first_touch (memory_of_space s) a n ≡ None
unfolding memory_of
touch_range s monitored a n x size k f e h =
    let w = leb-true x size h in
    touch_private (memory_of_space s) a n (λ b l. touches-private s.images s.places b k.are_images k.in_images (omega arith)) (omega arith) (omega arith)

pub reach_listed : (size : ℕ) (images : List ImageView) (places : List Place) (a n : ℕ) → ((b : ℕ) → a ≤ b → b < a + n → list_any (λ i. in_image i b) images ≡ true) → a + n ≤ 16777216 → can_reach (memory_of size images places) a n ≡ true
unfolding memory_of
reach_listed size images places a n f h = reach_image (memory_of size images places) a n f h

two : (P : ℕ → Type 0) (a b : ℕ) → a ≤ b → b < a + 2 → P a → P (a + 1) → P b
two P a b l h p q = elim (cases_eq b a) [ inl e ↦ rw e p | inr n ↦ rw (let e : b ≡ a + 1 = omega arith in e) q ]

pub first_listed : (s : SpaceView) (monitored : Bool) (a h : ℕ) → IsSpace s monitored → 1048576 ≤ a → a + 2 ≤ 16777216 → list_any (λ i. in_image i a) s.images ≡ true → list_any (λ i. in_image i (a + 1)) s.images ≡ true → h ≡ image_byte s.images a * 256 + image_byte s.images (a + 1) → Ok h ≡ first_answer (memory_of_space s) s.bytes a
first_listed s monitored a h k from to one next e =
    rw (reach_listed (length s.bytes) s.images s.places a 2 (λ b l m. two (λ b. list_any (λ i. in_image i b) s.images ≡ true) a b l m one next) to, let w : wrap (a + 1) ≡ a + 1 = omega arith in w, byte_at-image (length s.bytes) s.images s.places s.bytes a (omega arith), byte_at-image (length s.bytes) s.images s.places s.bytes (a + 1) (omega arith), e) refl

at_private : (size : ℕ) (images : List ImageView) (places : List Place) (bytes : List ℕ) (a : ℕ) → a < size → size ≤ 1048576 → byte_at (memory_of size images places) bytes (wrap a) ≡ slice_index bytes a
unfolding byte_at memory_of
at_private size images places bytes a h l = let w : wrap a ≡ a = omega arith in rw (w, lt-ltb a size h) refl

-- a word in private storage is that of its bytes
pub word_in : (s : SpaceView) (monitored : Bool) (a : ℕ) → IsSpace s monitored → a + 4 ≤ length s.bytes → number_at (memory_of_space s) s.bytes a 4 ≡ ((slice_index s.bytes a * 256 + slice_index s.bytes (a + 1)) * 256 + slice_index s.bytes (a + 2)) * 256 + slice_index s.bytes (a + 3)
word_in s monitored a k h =
    let size = length s.bytes in
    word_of_bytes (memory_of_space s) s.bytes a
    ∙ rw (at_private size s.images s.places s.bytes a (omega arith) (omega arith), at_private size s.images s.places s.bytes (a + 1) (omega arith) (omega arith), at_private size s.images s.places s.bytes (a + 2) (omega arith) (omega arith), at_private size s.images s.places s.bytes (a + 3) (omega arith) (omega arith)) refl

outside : (s : SpaceView) (monitored : Bool) (a n : ℕ) → IsSpace s monitored → a < 16777216 → 0 < n → length s.bytes < a + n → can_store (memory_of_space s) a n ≡ false
unfolding memory_of
outside s monitored a n k l p q = store_outside (memory_of_space s) a n p q l (omega arith)

-- what may be stored lies in private storage
pub within : (s : SpaceView) (monitored : Bool) (a n : ℕ) → IsSpace s monitored → a < 16777216 → 0 < n → can_store (memory_of_space s) a n ≡ true → a + n ≤ length s.bytes
within s monitored a n k l p h = elim (cases_lt (length s.bytes) (a + n)) [
  | inl q ↦ (let no : true ≡ false = sym h ∙ outside s monitored a n k l p q in absurd cc)
  | inr q ↦ q
]

pub set_length : (bytes : List ℕ) (a v : ℕ) → length (slice_set bytes a v) ≡ length bytes
set_length bytes a v = length-set bytes a v

-- a word that is stored in private storage
pub word_put : (bytes : List ℕ) (a v : ℕ) → a + 4 ≤ 1048576 → v < 4294967296 →
    store_number bytes a 4 v ≡ slice_set (slice_set (slice_set (slice_set bytes (a + 3) (v % 256)) (a + 2) (v / 256 % 256)) (a + 1) (v / 65536 % 256)) a (v / 16777216)
word_put bytes a v h l =
    let w : wrap a ≡ a = omega arith in
    let x : wrap (a + 1) ≡ a + 1 = omega arith in
    let y : wrap (a + 2) ≡ a + 2 = omega arith in
    let z : wrap (a + 3) ≡ a + 3 = omega arith in
    word_stored bytes a v l ∙ rw (w, x, y, z) refl

-- a vector whose bytes are all put anew
pub whole_put : (n : ℕ) (new old : List ℕ) → n ≡ length new → take n (new ++ drop (length new) old) ≡ new
whole_put n new old h = rw h (take-append_seam new (drop (length new) old))

-- a range of a module
pub list_bytes : (s : SpaceView) (monitored : Bool) (a n : ℕ) (list : List ℕ) → IsSpace s monitored → 1048576 ≤ a → a + n ≤ 16777216 → length list ≡ n → ((i : ℕ) → i < n → slice_index list i ≡ image_byte s.images (a + i)) →
    AreBytes (memory_of_space s) s.bytes a n list
list_bytes s monitored a n list k from to size each = record {
  size = size;
  each = λ i l. let w : wrap (a + i) ≡ a + i = omega arith in rw (w, byte_at-image (length s.bytes) s.images s.places s.bytes (a + i) (omega arith)) (each i l);
}

-- and a copy of it
pub list_copied : (s : SpaceView) (monitored : Bool) (a b n : ℕ) (list : List ℕ) → IsSpace s monitored → 1048576 ≤ b → b + n ≤ 16777216 → length list ≡ n → ((i : ℕ) → i < n → slice_index list i ≡ image_byte s.images (b + i)) →
    store_bytes s.bytes a list ≡ copied (memory_of_space s) s.bytes a b n
list_copied s monitored a b n list k from to size each =
    sym (copied_list (memory_of_space s) s.bytes list a b n size (λ done i l. let w : wrap (b + i) ≡ b + i = omega arith in rw (w, byte_at-image (length s.bytes) s.images s.places done (b + i) (omega arith)) (each i l)))
