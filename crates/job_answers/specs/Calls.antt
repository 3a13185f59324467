-- What the functions of these answers tell.
use Rattle.std.specs.Prelude.{◌≡◌, ℕ, List}
use Rattle.brk_table.specs.Meaning.{TablesView}
use Rattle.interleave_core.specs.Meaning.{Parts}
use Rattle.interleave_core.specs.World.{world_of}
use Rattle.refusals.specs.Meaning.{bad_schedule_line, refusal}
use Rattle.schedule_play.specs.Meaning.{Bad, IsRun, Whole, replay_text}
use Rattle.schedule_play.specs.Play.{play_behind}
use Rattle.schedule_play.specs.declared.playing.Played.{Played}
use Rattle.session_book.specs.Meaning.{JobView}
use Rattle.task_ends.specs.Meaning.{end_of, ends_text, unlisted_of}
use Rattle.job_answers.specs.Meaning.{HasVerified, IsVerdict}
use Rattle.refusals.specs.Told.{IsText}

abbrev pub IsEnds : JobView → TablesView → ℕ → List ℕ → Type 0
IsEnds j tables = IsText (ends_text j (end_of j tables.places) (unlisted_of j tables.places))

-- marks and evidence behind the job are told as they are, and as verified where they are
pub record IsChecked (name : List ℕ) (j : JobView) (tables : TablesView) (s : ℕ) (rest : List ℕ) (status : ℕ)
    (text : List ℕ) : Type 0 where
  pub verdict : IsVerdict name j tables s rest (refusal status text)
  pub verified : status ≡ 0 → HasVerified j tables s rest

-- the schedule behind the job's lines, so many, was played to its end on the core; or its first line is told that is no item, or
-- none that is possible there
pub data IsReplayed (j : JobView) (tables : TablesView) (count : ℕ) (rest : List ℕ) (status : ℕ) (text : List ℕ) : Type 0 where
  ToEnd : (core : Parts) (played : List Played) → play_behind j tables count rest ≡ Whole core played
      → IsRun (world_of j tables) core →
      IsText (replay_text j tables core played) status text → IsReplayed j tables count rest status text
  AtLine : (line : ℕ) → play_behind j tables count rest ≡ Bad line → status ≡ 9 → text ≡ bad_schedule_line line
      → IsReplayed j tables count rest status text
