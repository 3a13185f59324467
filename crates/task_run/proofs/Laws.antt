-- What crates above may cite of this crate's lemmas: the others are its own.
pub use Rattle.task_run.proofs.AsideLemmas.{step_known, same_number, step_over, aside_none, aside_more, aside_boundary}
pub use Rattle.task_run.proofs.AsideLemmas.{boundary_number, aside_calls, tied_aside, Follows-aside}
pub use Rattle.task_run.proofs.CloseLemmas.{closes_closed}
pub use Rattle.task_run.proofs.FollowsLemmas.{control_more}
pub use Rattle.task_run.proofs.GoesLemmas.{goes_made}
pub use Rattle.task_run.proofs.GoneLemmas.{made_all}
pub use Rattle.task_run.proofs.NotesLemmas.{one_at_most}
pub use Rattle.task_run.proofs.ObservedLemmas.{has_fact-more, facts_at-more, visits_at_places-append, Observes-none}
pub use Rattle.task_run.proofs.ObservedLemmas.{shows_before, shows_behind, shows_either}
pub use Rattle.task_run.proofs.RanLemmas.{ran_tour}
pub use Rattle.task_run.proofs.RiseLemmas.{rises_between, rises_all}
pub use Rattle.task_run.proofs.SetLemmas.{facts_at-kind}
pub use Rattle.task_run.proofs.SetLemmas.{facts_of_all-one, IsReady, exact_set, exact_lifts}
pub use Rattle.task_run.proofs.SoloLemmas.{course_solo}
pub use Rattle.task_run.proofs.SvcLemmas.{bad_svc-behind}
pub use Rattle.task_run.proofs.TagLemmas.{tag_last}
pub use Rattle.task_run.proofs.TurnLemmas.{turns_made}
