use Rattle.std.proofs.Common.{◌≡◌, drop, Some, []}
use Rattle.job_text.specs.Meaning as adding
use Rattle.job_text.proofs.drafts.indices.Given as goal

abbrev pub invariant-loop-name : goal.invariant-loop-name
invariant-loop-name l = adding.indices_on l.job l.by (Some l.used.items) (drop l.name-index l.names) ≡ adding.indices_on l.job l.by (Some []) l.names
