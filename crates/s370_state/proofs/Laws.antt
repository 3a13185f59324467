-- What crates above may cite of this crate's lemmas: the others are its own.
pub use Rattle.s370_state.proofs.Tested.{reach_at, store_at, store_prefix, store_part, store_wrapped, word_of_bytes, word_stored}
pub use Rattle.s370_state.proofs.Ranges.{reach_none, reach_more, reach_fails, store_fails, touch_none, touch_more, touch_found, reach_two}
pub use Rattle.s370_state.proofs.Ranges.{answer_ok}
pub use Rattle.s370_state.proofs.Performs.{at_once, passes, refuses, ill_formed, well_at_once, well_passes, well_refuses, good_data}
pub use Rattle.s370_state.proofs.Performs.{bad_data}
pub use Rattle.s370_state.proofs.Stores.{none_stored, one_stored, one_received, all_stored, no_words, more_words}
pub use Rattle.s370_state.proofs.Copies.{copied_none, copied_more, copied_inside, copied_list, bytes_inside}
