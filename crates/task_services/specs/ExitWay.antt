-- What an exit is behind the instructions of its task.
use Rattle.std.specs.Prelude.{◌≡◌, ℕ, Option}
use Rattle.task_run.specs.Hooks.{Way}
use Rattle.task_services.specs.Meaning.{exit_by_next}
use Rattle.task_services.specs.declared.exits.Exit.{Exit}

-- the course depends on the exit alone, and the pass stays
abbrev pub exit_way : (O P : Type 0) → Way Exit O P
exit_way O P = record {
  Key = Option ℕ;
  key = λ exit. exit.at;
  after = exit_by_next;
  IsSet = λ exit o p c done. Unit {0};
  Aside = λ exit o p c done q later. q ≡ p;
}
