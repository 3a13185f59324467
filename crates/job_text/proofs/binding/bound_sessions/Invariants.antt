use Rattle.std.proofs.Common.{◌≡◌, map}
use Rattle.job_text.specs.Meaning as drafts
use Rattle.job_text.proofs.binding.bound_sessions.Given as goal

abbrev pub invariant-loop-session : goal.invariant-loop-session
invariant-loop-session l = l.bound.items ≡ map (drafts.bound_session l.tasks) l.yielded
