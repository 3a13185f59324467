-- What the claim of the program says by this crate's clauses.
use Rattle.std.specs.Prelude.{ℕ, ◌+◌, Bool, true, false, nat_eq, nat_lt, if◌then◌else◌, Option, Some, None, option_and_then, is_none, List, [], ◌∷◌, length, ◌≡◌, ◌++◌, ◌-◌, get_or, codes, decimal}
use Rattle.std.specs.List.{flat_map, range_with_len}
use Rattle.std.specs.Option.{option_map_or}
use Rattle.module_area.specs.Meaning.{window_at, place_of}
use Rattle.module_area.specs.declared.places.Place.{Place}
use Rattle.session_book.specs.Meaning.{JobView, task_of, session_of}
use Rattle.interleave_core.specs.Meaning.{World, Parts, plan_in, first_parts, Stepped, parts_step, run_on, set_of, most_events, go, next_of, results_of}
use Rattle.interleave_core.specs.MeaningOfEvents.{Stands}
use Rattle.interleave_core.specs.declared.events.Event.{Event}
use Rattle.interleave_core.specs.declared.events.Event.TheVariants as event
use Rattle.interleave_core.specs.declared.events.Shown.TheVariants.{Done, Fetched, Marked, Lifted, Planted, Closed}
use Rattle.job_text.specs.Meaning.{LineView, item_at}
use Rattle.job_text.specs.declared.schedule.Item.{Item}
use Rattle.job_text.specs.declared.schedule.Item.TheVariants.{Fetch, Mark, Lift, Do, Go, Plant, Close, End}
use Rattle.schedule_play.specs.declared.playing.Played.{Played}
use Rattle.annotator.specs.Meaning.{hex_digits}
use Rattle.cov_base.specs.Meaning.{FactSet, unpadded}
use Rattle.brk_table.specs.Meaning.{TablesView}
use Rattle.interleave_core.specs.declared.events.Shown.{Shown}
use Rattle.report_text.specs.Meaning.{result_lines, text_of, lines_from}

-- A schedule played on a core.

-- the first bad line of the input, or what the core then stores and what each item has shown
pub data Play : Type 0 where
  Bad : ℕ → Play
  Whole : Parts → List Played → Play

-- the plant of a place for the whole session that observes it, where one does
abbrev pub plant_at : World → ℕ → List Event
plant_at w p =
    if nat_lt 0 (window_at (plan_in w) p) then event.Plant (record { 0 = window_at (plan_in w) p }) (record { 0 = p }) ∷ [] else []

-- before the first item all these places are planted, in their order
abbrev pub plants : World → List Event
plants w = flat_map (plant_at w) (range_with_len 0 (length w.places))

-- the event that is next of a task, where it plants, or where it closes
abbrev pub if_plants : Option Event → Option Event
if_plants (Some (event.Plant s p)) = Some (event.Plant s p)
if_plants next = None

abbrev pub if_closes : Option Event → Option Event
if_closes (Some (event.Close s p)) = Some (event.Close s p)
if_closes next = None

-- the event that an item stands for, if it is one
abbrev pub item_event : World → Parts → Item → Option Event
item_event w c (Fetch t) = Some (event.Fetch t)
item_event w c (Mark t) = Some (event.Mark t)
item_event w c (Lift t) = Some (event.Lift t)
item_event w c (Do t) = Some (event.Do t)
item_event w c (Plant t) = if_plants (next_of w c t)
item_event w c (Close t) = if_closes (next_of w c t)
item_event w c item = None

-- an item, where it is possible: its event, or all events of a task that hasn't ended
abbrev pub play_item : World → Parts → Item → Option Stepped
play_item w c (Go t) =
    if is_none (next_of w c t) then None else Some (record { parts = go w (most_events w t.0) c t; shown = Done })
play_item w c item = option_and_then (parts_step w c) (item_event w c item)

abbrev pub with_item : Played → Play → Play
with_item p (Bad n) = Bad n
with_item p (Whole c played) = Whole c (p ∷ played)

abbrev pub play_on : (Parts → Play) → ℕ → Item → Option Event → Option Stepped → Play
play_on more n item made None = Bad n
play_on more n item made (Some x) = with_item (record { item = item; event = made; shown = x.shown }) (more x.parts)

-- behind the last item nothing stands
abbrev pub play_end : ℕ → Parts → List LineView → Play
play_end n c [] = Whole c []
play_end n c (line ∷ lines) = Bad (n + 1)

abbrev pub is_end : Item → Bool
is_end End = true
is_end item = false

abbrev pub play_line : (Parts → Play) → World → ℕ → Parts → List LineView → Option Item → Play
play_line more w n c lines None = Bad n
play_line more w n c lines (Some item) =
    if is_end item then play_end n c lines else play_on more n item (item_event w c item) (play_item w c item)

-- the lines from number n of the input on, up to ENDSCHED
abbrev pub play : World → ℕ → Parts → List LineView → Play
play w n c [] = Bad n
play w n c (line ∷ lines) = play_line (λ d. play w (n + 1) d lines) w n c lines (item_at w.job line.bytes)

-- a schedule behind the job's lines, of which there are so many; a job that hasn't one phase has none
abbrev pub play_of : JobView → List Place → ℕ → List LineView → Play
play_of j places count lines =
    let w : World = record { job = j; places = places } in
    if nat_eq (length j.phases) 1
    then option_map_or (λ (c : Parts). play w (count + 1) c lines) (run_on w (first_parts w) (plants w)) (Bad 0) else Bad 0

-- The play is a run of the core, whose first events are the plants. It stands as the core does after every list of events.
pub record IsRun (w : World) (parts : Parts) : Type 0 where
  pub events : List Event
  pub run : run_on w (first_parts w) (plants w ++ events) ≡ Some parts
  pub stands : Stands w (plants w ++ events) parts

-- The text that tells a schedule that was played.

-- a set of facts, each by its letter
abbrev pub letters : FactSet → List ℕ
letters f = (if f.ran then codes "R" else []) ++ (if f.went then codes "W" else []) ++ (if f.stayed then codes "S" else [])

abbrev pub or_dash : List ℕ → List ℕ
or_dash [] = codes "-"
or_dash (b ∷ bs) = b ∷ bs

abbrev pub shown_words : Shown → List ℕ
shown_words (Fetched cell) = codes " TAG " ++ decimal cell.tag ++ codes " HALF " ++ hex_digits 4 cell.half
shown_words (Marked found) = codes " OLD " ++ or_dash (letters found)
shown_words (Lifted true) = codes " TAKEN"
shown_words (Lifted false) = codes " NOT TAKEN"
shown_words Done = []
shown_words Planted = []
shown_words Closed = []

abbrev pub item_words : JobView → Item → List ℕ
item_words j (Fetch t) = codes "FETCH " ++ unpadded (task_of j t.0).name
item_words j (Mark t) = codes "MARK " ++ unpadded (task_of j t.0).name
item_words j (Lift t) = codes "LIFT " ++ unpadded (task_of j t.0).name
item_words j (Do t) = codes "DO " ++ unpadded (task_of j t.0).name
item_words j (Plant t) = codes "PLANT " ++ unpadded (task_of j t.0).name
item_words j (Close t) = codes "CLOSE " ++ unpadded (task_of j t.0).name
item_words j (Go t) = codes "GO " ++ unpadded (task_of j t.0).name
item_words j End = codes "ENDSCHED"

abbrev pub at_words : JobView → List Place → ℕ → ℕ → List ℕ
at_words j places s p = codes " " ++ unpadded (session_of j s).name ++ codes " " ++ hex_digits 6 (place_of places p).at

-- a session that was planted or closed, and the address of the place
abbrev pub event_words : JobView → List Place → Option Event → List ℕ
event_words j places (Some (event.Plant s p)) = at_words j places s.0 p.0
event_words j places (Some (event.Close s p)) = at_words j places s.0 p.0
event_words j places made = []

-- of item n, which numbers from 1
abbrev pub event_line : JobView → List Place → ℕ → Played → List ℕ
event_line j places n p =
    codes "EVENT " ++ decimal n ++ codes " " ++ item_words j p.item ++ event_words j places p.event ++ shown_words p.shown

abbrev pub no_item : Played
no_item = record { item = End; event = None; shown = Done }

abbrev pub event_lines : JobView → List Place → List Played → List (List ℕ)
event_lines j places played = lines_from (λ n. event_line j places n (get_or played (n - 1) no_item) ∷ []) 1 (length played)

-- the events, and the report of the core as they left it
abbrev pub replay_lines : JobView → TablesView → Parts → List Played → List (List ℕ)
replay_lines j tables c played =
    let w : World = record { job = j; places = tables.places } in
    codes "COVERAGE REPLAY" ∷ (event_lines j tables.places played ++ result_lines j tables (results_of c) (set_of w c))

abbrev pub replay_text : JobView → TablesView → Parts → List Played → List ℕ
replay_text j tables c played = text_of (replay_lines j tables c played)
