-- The recursions of several registers, one register on.
use Rattle.std.proofs.Common.{◌≡◌, ℕ, zero, suc, ◌+◌, ◌*◌, ◌%◌, ◌<◌, ◌≤◌, ◌∙◌, arith, List, slice_index, slice_set, refl, sym, add-one, add_assoc}
use Rattle.cov_base.specs.Meaning.{Memory}
use Rattle.s370_state.specs.Fields.{AreBytes, words_stored}
use Rattle.s370_state.specs.Meaning.{number_at, store_number}
use Rattle.s370_state.proofs.Laws.{word_of_bytes, no_words, more_words}
use Rattle.s370_storage.specs.Meaning.{loaded, stored}

pub loaded_none : (m : Memory) (bytes regs : List ℕ) (r a : ℕ) → loaded m bytes regs r a 0 ≡ regs
unfolding loaded
loaded_none m bytes regs r a = refl

pub loaded_more : (m : Memory) (bytes regs : List ℕ) (r a n : ℕ) → loaded m bytes regs r a (n + 1) ≡ slice_set (loaded m bytes regs r a n) ((r + n) % 16) (number_at m bytes (a + 4 * n) 4)
unfolding loaded
loaded_more m bytes regs r a n = rw add-one refl

-- where no register 0 comes behind register 15
pub loaded_next : (m : Memory) (bytes regs : List ℕ) (r a n : ℕ) → r + n < 16 → loaded m bytes regs r a (n + 1) ≡ slice_set (loaded m bytes regs r a n) (r + n) (number_at m bytes (a + 4 * n) 4)
loaded_next m bytes regs r a n h = let e : (r + n) % 16 ≡ r + n = omega arith in loaded_more m bytes regs r a n ∙ rw e refl

-- a word of a row, by its bytes
pub word_in_row : (m : Memory) (bytes s : List ℕ) (a n i : ℕ) → AreBytes m bytes a (4 * n) s → i < n →
    number_at m bytes (a + 4 * i) 4 ≡ ((slice_index s (4 * i) * 256 + slice_index s (4 * i + 1)) * 256 + slice_index s (4 * i + 2)) * 256 + slice_index s (4 * i + 3)
word_in_row m bytes s a n i h below =
    word_of_bytes m bytes (a + 4 * i)
    ∙ rw (add_assoc a (4 * i) 1, add_assoc a (4 * i) 2, add_assoc a (4 * i) 3, h.each (4 * i) (omega arith), h.each (4 * i + 1) (omega arith), h.each (4 * i + 2) (omega arith), h.each (4 * i + 3) (omega arith)) refl

pub stored_none : (bytes regs : List ℕ) (r a : ℕ) → stored bytes regs r a 0 ≡ bytes
unfolding stored
stored_none bytes regs r a = refl

pub stored_more : (bytes regs : List ℕ) (r a n : ℕ) → stored bytes regs r a (n + 1) ≡ store_number (stored bytes regs r a n) (a + 4 * n) 4 (slice_index regs ((r + n) % 16))
unfolding stored
stored_more bytes regs r a n = rw add-one refl

-- registers in a row
pub row_stored : (bytes regs row : List ℕ) (r a n k : ℕ) → k ≤ n → r + n ≤ 16 → ((i : ℕ) → i < n → slice_index row i ≡ slice_index regs (r + i)) → words_stored bytes a row k ≡ stored bytes regs r a k
row_stored bytes regs row r a n zero h l f = no_words bytes a row ∙ sym (stored_none bytes regs r a)
row_stored bytes regs row r a n (suc k) h l f =
    let one : suc k ≡ k + 1 = omega arith in
    let e : (r + k) % 16 ≡ r + k = omega arith in
    let same : words_stored bytes a row k ≡ stored bytes regs r a k = row_stored bytes regs row r a n k (omega arith) l f in
    rw one (more_words bytes a row k ∙ rw (same, f k (omega arith), ← e) (sym (stored_more bytes regs r a k)))
