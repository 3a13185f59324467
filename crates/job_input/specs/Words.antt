-- What is so of each command that words are.
use Rattle.std.specs.Prelude.{◌≤◌}
use Rattle.job_input.specs.declared.words.Command.{Command}
use Rattle.job_input.specs.declared.words.Command.TheVariants.{Trial}

-- a generated job has 1 to 64 tasks
abbrev pub HasFewTasks : Command → Type 0
HasFewTasks (Trial number tasks) = (1 ≤ tasks) × (tasks ≤ 64)
HasFewTasks c = Unit {0}
