-- Which commands run threads.
use Rattle.std.specs.Prelude.{Bool, true, false, if◌then◌else◌}
use Rattle.job_input.specs.declared.words.Command.{Command}
use Rattle.job_input.specs.declared.words.Command.TheVariants.{Run, Exits, Early, Count, Marks, Trial, Unknown}

abbrev pub runs_threads : Command → Bool
runs_threads (Run g) = true
runs_threads Exits = true
runs_threads Early = true
runs_threads (Count g) = true
runs_threads (Marks name g) = true
runs_threads (Trial number tasks) = true
runs_threads c = false

-- as it is served without threads
abbrev pub without_threads : Command → Command
without_threads c = if runs_threads c then Unknown else c
