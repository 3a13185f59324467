-- What the claim of the program says by this crate's clauses.
use Rattle.std.specs.Prelude.{◌≡◌, ℕ, List, get_or, Bool, ◌&&◌, ◌||◌, nat_eq, nat_lt, ◌+◌, ◌==◌, if◌then◌else◌, Option, Some, None, [], ◌∷◌, map, slice_get, zero, suc, ◌-◌, ◌*◌, length, ◌/◌, ◌++◌, take, drop, replicate, fold}
use Rattle.module_area.specs.declared.cells.Cell.{Cell}
use Rattle.module_area.specs.declared.places.Place.{Place}
use Rattle.module_area.specs.declared.parties.Beat.{Beat}
use Rattle.module_area.specs.declared.parties.Beat.TheVariants.{Met, Gave}
use Rattle.std.specs.List.{list_any, filter}
use Rattle.cov_base.specs.declared.facts.Fact.{Fact}
use Rattle.cov_base.specs.declared.facts.Kind.{Kind}
use Rattle.cov_base.specs.declared.facts.Kind.TheVariants.{Straight}
use Rattle.cov_base.specs.declared.numbers.TaskNo.{TaskNo}
use Rattle.cov_base.specs.declared.numbers.PlaceNo.{PlaceNo}
use Rattle.cov_base.specs.declared.numbers.SessNo.{SessNo}
use Rattle.cov_base.specs.Meaning.{FactSet, no_facts, is_full, with_fact, union, fact_of, same_fact, Visit}

-- A list of cells, one for each place.

abbrev pub no_cell : Cell
no_cell = record { tag = 0; half = 0 }

abbrev pub word_at : List Cell → ℕ → Cell
word_at words p = get_or words p no_cell

-- the cell of a place where nothing was planted
abbrev pub fresh_word : Place → Cell
fresh_word p = record { tag = 0; half = p.original }

-- A phase's plan: the places, what observes each of them, and the tasks.

-- a session that a task opens and closes, both by their numbers, and its places, rising
pub record ControlledView : Type 0 where
  pub session : ℕ
  pub by : ℕ
  pub places : List PlaceNo

pub record PlanView : Type 0 where
  pub places : List Place
  -- for each place the number of the whole session over it, or 0
  pub windows : List ℕ
  -- in job order
  pub controlled : List ControlledView
  -- those of the phase
  pub tasks : List TaskNo
  -- how many the whole job has
  pub sessions : ℕ

abbrev pub no_place : Place
no_place = record { «module» = 0; at = 0; len = 0; original = 0; kind = Straight }

abbrev pub place_of : List Place → ℕ → Place
place_of places p = get_or places p no_place

abbrev pub original_at : PlanView → ℕ → ℕ
original_at plan p = (place_of plan.places p).original

abbrev pub kind_at : PlanView → ℕ → Kind
kind_at plan p = (place_of plan.places p).kind

-- the whole session over the place, or 0
abbrev pub window_at : PlanView → ℕ → ℕ
window_at plan p = get_or plan.windows p 0

abbrev pub has_task : List TaskNo → ℕ → Bool
has_task tasks t = list_any (λ (u : TaskNo). nat_eq u.0 t) tasks

-- the place is one of these
abbrev pub has_place : List PlaceNo → ℕ → Bool
has_place places p = list_any (λ (q : PlaceNo). nat_eq q.0 p) places

-- the session is a controlled one over the place
abbrev pub is_controlled : PlanView → ℕ → ℕ → Bool
is_controlled plan s p = list_any (λ (c : ControlledView). nat_eq c.session s && has_place c.places p) plan.controlled

-- the session is the place's whole session, or a controlled one over it
abbrev pub is_over : PlanView → ℕ → ℕ → Bool
is_over plan s p = (nat_lt 0 s && nat_eq (window_at plan p) s) || is_controlled plan s p

-- A controller's sessions, and what opening the next one and closing the open one change.

-- a task's sessions in job order, how many were opened, and the open one
pub record ControlView : Type 0 where
  pub sessions : List SessNo
  pub next : ℕ
  pub opened : Option SessNo

-- the places of a controlled session
abbrev pub places_in : List ControlledView → ℕ → List PlaceNo
places_in [] s = []
places_in (c ∷ cs) s = if nat_eq c.session s then c.places else places_in cs s

abbrev pub places_under : PlanView → ℕ → List PlaceNo
places_under plan s = places_in plan.controlled s

abbrev pub number_of : ControlledView → SessNo
number_of c = record { 0 = c.session }

-- the sessions of the task, and its control before it opened one
abbrev pub sessions_of : PlanView → ℕ → List SessNo
sessions_of plan t = map number_of (filter (λ (c : ControlledView). nat_eq c.by t) plan.controlled)

abbrev pub first_control : PlanView → ℕ → ControlView
first_control plan t = record { sessions = sessions_of plan t; next = 0; opened = None }

-- the session that opening opens: the next one, where none is open
abbrev pub unless_open : Option SessNo → Option SessNo → Option SessNo
unless_open None next = next
unless_open (Some s) next = None

abbrev pub to_open : ControlView → Option SessNo
to_open c = unless_open c.opened (slice_get c.sessions c.next)

-- the control once this one was opened, and once none is open
abbrev pub opening : ControlView → Option SessNo → ControlView
opening c None = c
opening c (Some s) = record c { next = c.next + 1; opened = Some s }

abbrev pub closing : ControlView → ControlView
closing c = record c { opened = None }

abbrev pub control_after : ControlView → Option ℕ → ControlView
control_after c None = c
control_after c (Some k) = if k == 4 then opening c (to_open c) else (if k == 5 then closing c else c)

-- The race of an area: one order of all fetches and all givings of tags.

-- who made each beat, 0 being the root and suc t the task t; the last first
abbrev pub Race : Type 0
Race = List (ℕ × Beat)

-- the tag of place p after a beat, before which it had this one; and after all, where none was given it is 0
abbrev pub tag_next : ℕ → ℕ → Beat → ℕ
tag_next p tag (Met q x) = tag
tag_next p tag (Gave q x) = if nat_eq q p then x else tag

abbrev pub tag_in : ℕ → Race → ℕ
tag_in p [] = 0
tag_in p (e ∷ r) = tag_next p (tag_in p r) e.1

-- each fetch answers the tag that its place was given last
abbrev pub Finds : Race → Beat → Type 0
Finds r (Met p x) = x ≡ tag_in p r
Finds r (Gave p x) = Unit {0}

abbrev pub IsRace : Race → Type 0
IsRace [] = Unit {0}
IsRace (e ∷ r) = IsRace r × Finds r e.1

-- the beats of one party
abbrev pub part : ℕ → Race → List Beat
part k [] = []
part k (e ∷ r) = if nat_eq e.0 k then e.1 ∷ part k r else part k r

-- more beats: the same tag is given at these places, one after the other
abbrev pub gives : ℕ → List PlaceNo → List Beat → List Beat
gives tag [] bs = bs
gives tag (p ∷ ps) bs = gives tag ps (Gave p.0 tag ∷ bs)

-- and the tags of the windows of the first n places
abbrev pub window_beats : PlanView → List Beat → ℕ → List Beat
window_beats plan bs zero = bs
window_beats plan bs (suc n) =
    if nat_eq (window_at plan n) 0 then window_beats plan bs n
    else Gave n (2 * window_at plan n - 1) ∷ window_beats plan bs n

-- Counts of facts and of places.

-- how many numbers below n pass the test
abbrev pub count_below : (ℕ → Bool) → ℕ → ℕ
count_below f zero = 0
count_below f (suc n) = count_below f n + (if f n then 1 else 0)

-- how many sessions from 1 to m and numbers below n pass the test
abbrev pub count_pairs : (ℕ → ℕ → Bool) → ℕ → ℕ → ℕ
count_pairs f zero n = 0
count_pairs f (suc m) n = count_pairs f m n + count_below (f (suc m)) n

-- how many facts the set has
abbrev pub fact_count : FactSet → ℕ
fact_count s = (if s.ran then 1 else 0) + (if s.went then 1 else 0) + (if s.stayed then 1 else 0)

-- The sets that an area ends with.

-- how many places there are, and the sets of session 1 at each of them, then those of session 2, and so on
pub record FinalsView : Type 0 where
  pub places : ℕ
  pub sets : List FactSet

-- where the set of session s at place p stands, of so many places
abbrev pub index_of : ℕ → ℕ → ℕ → ℕ
index_of places s p = (s - 1) * places + p

abbrev pub set_in : ℕ → List FactSet → ℕ → ℕ → FactSet
set_in places sets s p = get_or sets (index_of places s p) no_facts

-- the set of session s at place p
abbrev pub set_at : FinalsView → ℕ → ℕ → FactSet
set_at finals s p = set_in finals.places finals.sets s p

-- How many of these sets are full.

-- how many places with a window have a full set
abbrev pub full_places : PlanView → FinalsView → ℕ
full_places plan finals =
    count_below (λ p. nat_lt 0 (window_at plan p) && is_full (kind_at plan p) (set_at finals (window_at plan p) p))
    (length plan.places)

-- how many sessions and places have a full set
abbrev pub full_pairs : PlanView → FinalsView → ℕ
full_pairs plan finals = count_pairs (λ s p. is_full (kind_at plan p) (set_at finals s p)) plan.sessions (length plan.places)

-- What a trace shows at a place.

-- the visit executes the instruction at the place
abbrev pub executes : Place → Visit → Bool
executes place v = v.begun && (v.at == place.at)

-- and shows this fact
abbrev pub shows : Place → Fact → Visit → Bool
shows place f v = executes place v && same_fact (fact_of place.kind v.went) f

-- the facts of the begun visits at the place
abbrev pub facts_at : Place → List Visit → FactSet
facts_at place [] = no_facts
facts_at place (v ∷ vs) = if executes place v then with_fact (facts_at place vs) (fact_of place.kind v.went) else facts_at place vs

-- the facts that several traces show at the place
abbrev pub facts_of_all : Place → List (List Visit) → FactSet
facts_of_all place [] = no_facts
facts_of_all place (trace ∷ traces) = union (facts_at place trace) (facts_of_all place traces)

-- a place begins there
abbrev pub is_place : List Place → ℕ → Bool
is_place places a = list_any (λ (p : Place). a == p.at) places

-- how many visits are at places
abbrev pub visits_at_places : List Place → List Visit → ℕ
visits_at_places places [] = 0
visits_at_places places (v ∷ vs) = (if is_place places v.at then 1 else 0) + visits_at_places places vs

-- The session of a cell's tag, and whether a session is one of several.

-- in its window or after it
abbrev pub tag_session : ℕ → ℕ
tag_session t = (t + 1) / 2

abbrev pub has_session : List SessNo → ℕ → Bool
has_session sessions s = list_any (λ (t : SessNo). nat_eq t.0 s) sessions

-- Data cards, and the storage that they fill.

-- bytes at an offset of private storage
pub record DataView : Type 0 where
  pub offset : ℕ
  pub bytes : List ℕ

-- the card's bytes stand from its offset on
abbrev pub with_card : List ℕ → DataView → List ℕ
with_card bytes c = take c.offset bytes ++ c.bytes ++ drop (c.offset + length c.bytes) bytes

-- private storage as a task begins: zero where no card sets a byte, and of two cards the later one counts
abbrev pub first_bytes : ℕ → List DataView → List ℕ
first_bytes size cards = fold with_card (replicate size 0) cards
