-- What crates above may cite of this crate's lemmas: the others are its own.
pub use Rattle.module_area.proofs.BeginLemmas.{begins, begins_drained}
pub use Rattle.module_area.proofs.CellLemmas.{lifts, plants, closes}
pub use Rattle.module_area.proofs.ClosedLemmas.{at_place, under_place, closed_place, closed_of_places}
pub use Rattle.module_area.proofs.CountLemmas.{count_same}
pub use Rattle.module_area.proofs.DrainLemmas.{mark_drained, cell_drained, fetch_drained, bound_drained, note_drained, all_past}
pub use Rattle.module_area.proofs.DrainLemmas.{read_drained, split_drained, join_drained}
pub use Rattle.module_area.proofs.EndedLemmas.{session_has_sets, pairs_are_places}
pub use Rattle.module_area.proofs.ForkLemmas.{splits, joins}
pub use Rattle.module_area.proofs.Indices.{index_below, same_index, read_at, same_tests}
pub use Rattle.module_area.proofs.PartyLemmas.{more-add_if, here-add_if, has-append, left-append, right-append, set_else, at_longer, at_put}
pub use Rattle.module_area.proofs.PartyLemmas.{all_set, all_snoc, all_two, total-set, total_two, total_only, kept_tag, dropped_tag, no_tag}
pub use Rattle.module_area.proofs.PartyLemmas.{first_tag}
pub use Rattle.module_area.proofs.PlanLemmas.{any_at, any_shown, number, no_session, one_controller, no_controller, controlled_at}
pub use Rattle.module_area.proofs.PlanLemmas.{no_controlled, over_cases, tested_controller, controller_of, over_window, over_small}
pub use Rattle.module_area.proofs.StepLemmas.{spent_not_root, spent_not_task, full_some}
pub use Rattle.module_area.proofs.StepLemmas.{breakpoint_form, first_only, quiet, fetches, marks}
pub use Rattle.module_area.proofs.TieLemmas.{places_at, has_here, may_plant, may_close, from_one, tied_close, next_at, next_kept, next_later, tied_open}
pub use Rattle.module_area.proofs.TieLemmas.{open_kept}
pub use Rattle.module_area.proofs.TiedLemmas.{first_tied, tied_same}
pub use Rattle.module_area.proofs.WordLemmas.{first_cell, zero_behind, starting_count}
pub use Rattle.module_area.proofs.RaceLemmas.{begins_raced, still_raced, met_raced, beat_raced, split_raced, join_raced}
