-- What a schedule and its lines make of a core.
use Rattle.std.specs.Prelude.{◌≡◌, ℕ, Option, Some, None, List, option_and_then}
use Rattle.brk_table.specs.Meaning.{TablesView}
use Rattle.session_book.specs.Meaning.{JobView}
use Rattle.interleave_core.specs.Meaning.{Parts, Stepped, parts_step}
use Rattle.interleave_core.specs.Results.{Fits}
use Rattle.interleave_core.specs.Views.{CoreView}
use Rattle.interleave_core.specs.declared.events.Event.{Event}
use Rattle.job_text.specs.Meaning.{LineView, lines_of, item_at}
use Rattle.job_text.specs.declared.schedule.Item.{Item}
use Rattle.schedule_play.specs.declared.playing.Played.{Played}
use Rattle.schedule_play.specs.declared.playing.ScheduleFault.{ScheduleFault}
use Rattle.schedule_play.specs.declared.playing.ScheduleFault.TheVariants as fault
use Rattle.schedule_play.specs.Meaning.{Play, Bad, Whole, with_item, play_item, play_end, play_line, play, play_of}

-- the same world's core, in range where it was
pub record Stays (old new : CoreView) : Type 0 where
  pub world : new.world ≡ old.world
  pub fits : Fits old.world old.parts → Fits new.world new.parts

-- what an event, where there is one, and an item make of a core
abbrev pub event_step : CoreView → Option Event → Option Stepped
event_step c made = option_and_then (parts_step c.world c.parts) made

abbrev pub item_step : CoreView → Item → Option Stepped
item_step c item = play_item c.world c.parts item

-- the lines of these bytes played on a core, the first of which is line n of the input
abbrev pub play_bytes : CoreView → ℕ → List ℕ → Play
play_bytes c n bytes = play c.world n c.parts (lines_of bytes)

abbrev pub play_behind : JobView → TablesView → ℕ → List ℕ → Play
play_behind j tables count bytes = play_of j tables.places count (lines_of bytes)

-- the schedule is played to its end, which leaves this core, and its items have shown this
abbrev pub PlaysTo : Play → CoreView → List Played → Type 0
PlaysTo p core items = p ≡ Whole core.parts items

-- a line that was played, or that ended the schedule
abbrev pub IsLine : Option Played → Play → (Played → Play) → Play → Type 0
IsLine (Some p) play played end = play ≡ played p
IsLine None play played end = play ≡ end

-- so it is whatever stands behind it
abbrev pub IsLineOf : JobView → List ℕ → CoreView → CoreView → Option Played → Type 0
IsLineOf j line old new o = (more : Parts → Play) (n : ℕ) (rest : List LineView) →
    IsLine o (play_line more old.world n old.parts rest (item_at j line)) (λ p. with_item p (more new.parts))
    (play_end n new.parts rest)

-- a line that is no item, or none that is possible
abbrev pub IsBadLine : JobView → List ℕ → CoreView → Type 0
IsBadLine j line c =
    (more : Parts → Play) (n : ℕ) (rest : List LineView) → play_line more c.world n c.parts rest (item_at j line) ≡ Bad n

-- want of memory may come at any item
abbrev pub IsUnplayed : Play → ScheduleFault → Type 0
IsUnplayed p (fault.Bad n) = p ≡ Bad n
IsUnplayed p fault.NoMemory = Unit {0}
