-- What crates above may cite of this crate's lemmas: the others are its own.
pub use Rattle.job_run.proofs.BackLemmas.{have_run, are_empty, whatever}
pub use Rattle.job_run.proofs.BeforeLemmas.{before_one, few_before}
pub use Rattle.job_run.proofs.EquipLemmas.{begun_in}
pub use Rattle.job_run.proofs.PhaseLemmas.{written}
pub use Rattle.job_run.proofs.SessionLemmas.{window_at-session, phase_in, set_is_left}
pub use Rattle.job_run.proofs.SlotLemmas.{is_over_begun, plan_here, traces-map}
pub use Rattle.job_run.proofs.TaskLemmas.{begun_run, begun_walk, private_of, still_filled, AreRun-start, all_ended}
pub use Rattle.space_map.proofs.Laws.{row_range}
