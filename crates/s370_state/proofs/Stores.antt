-- The bytes of a list that go to storage one after the other.
use Rattle.std.proofs.Common.{◌≡◌, ℕ, ◌+◌, ◌*◌, ◌<◌, add-one, List, length, take, drop, slice_index, slice_set, refl, arith, ◌∙◌, ap}
use Rattle.std.proofs.lemmas.List.{take_all, take_more, length-take-le, get_or-drop, length-drop}
use Rattle.cov_base.specs.Meaning.{wrap}
use Rattle.s370_state.specs.Fields.{words_stored}
use Rattle.s370_state.specs.Meaning.{store_bytes, store_number}
use Rattle.s370_state.proofs.Digits.{store_bytes-last}

pub none_stored : (bytes : List ℕ) (a : ℕ) (list : List ℕ) → store_bytes bytes a (take 0 list) ≡ bytes
unfolding store_bytes
none_stored bytes a list = refl

pub one_stored : (bytes : List ℕ) (a : ℕ) (list : List ℕ) (n : ℕ) → n < length list →
    store_bytes bytes a (take (n + 1) list) ≡ slice_set (store_bytes bytes a (take n list)) (wrap (a + n)) (slice_index list n)
one_stored bytes a list n h =
    ap (store_bytes bytes a) (take_more list n 0 h) ∙ store_bytes-last (take n list) bytes a (slice_index list n)
    ∙ rw (length-take-le n list (omega arith)) refl

-- of a list from k on
pub one_received : (bytes : List ℕ) (a : ℕ) (list : List ℕ) (k n : ℕ) → k + n < length list →
    store_bytes bytes a (take (n + 1) (drop k list)) ≡ slice_set (store_bytes bytes a (take n (drop k list))) (wrap (a + n)) (slice_index list (k + n))
one_received bytes a list k n h =
    one_stored bytes a (drop k list) n (omega (arith, length-drop k list))
    ∙ ap (slice_set (store_bytes bytes a (take n (drop k list))) (wrap (a + n))) (get_or-drop k list n 0)

pub all_stored : (bytes : List ℕ) (a : ℕ) (list : List ℕ) (n : ℕ) → length list ≡ n → store_bytes bytes a (take n list) ≡ store_bytes bytes a list
all_stored bytes a list n h = ap (store_bytes bytes a) (take_all n list (omega arith))

pub no_words : (bytes : List ℕ) (a : ℕ) (words : List ℕ) → words_stored bytes a words 0 ≡ bytes
unfolding words_stored
no_words bytes a words = refl

pub more_words : (bytes : List ℕ) (a : ℕ) (words : List ℕ) (n : ℕ) →
    words_stored bytes a words (n + 1) ≡ store_number (words_stored bytes a words n) (a + 4 * n) 4 (slice_index words n)
unfolding words_stored
more_words bytes a words n = rw add-one refl
