-- The rule of an area: what holds of its cells, its sets and all parties' notes at every moment.
use Rattle.std.specs.Prelude.{◌≡◌, ◌≢◌, ℕ, ◌<◌, ◌≤◌, Bool, true, ◌&&◌, ◌||◌, nat_eq, List, [], length, AllPairs, All, Contains, ◌⊎◌, ◌+◌, ◌-◌, ◌*◌, ◌%◌, false, if◌then◌else◌, Some, None, ◌∷◌, ◌++◌}
use Rattle.std.specs.List.{list_any}
use Rattle.cov_base.specs.Meaning.{breakpoint, kind_of, FactSet, with_fact, is_full, has_fact}
use Rattle.cov_base.specs.declared.limits.TheConstants.{PLACE_LIMIT, SESSION_LIMIT}
use Rattle.cov_base.specs.declared.numbers.TaskNo.{TaskNo}
use Rattle.cov_base.specs.declared.numbers.PlaceNo.{PlaceNo}
pub use Rattle.module_area.specs.Meaning.{has_task}
use Rattle.module_area.specs.Meaning.{ControlledView, PlanView, original_at, kind_at, window_at, has_place, tag_session, is_over, is_controlled}
use Rattle.cov_base.specs.declared.facts.Fact.{Fact}
use Rattle.module_area.specs.declared.cells.Cell.{Cell}
use Rattle.module_area.specs.declared.parties.Role.{Role}
use Rattle.module_area.specs.declared.parties.Role.TheVariants.{Task, Root, Spent}
use Rattle.module_area.specs.declared.parties.View.{View}
use Rattle.module_area.specs.declared.parties.Beat.TheVariants.{Met, Gave}
use mathlib.Core.Option.{some}
use lib.ListN.{get_elem?}
use Rattle.cov_base.specs.FactKind.{is_of_kind}

-- What every plan keeps.

-- the task opens and closes the sessions over the place
abbrev pub is_controller : PlanView → ℕ → ℕ → Bool
is_controller plan t p = list_any (λ (c : ControlledView). nat_eq c.by t && has_place c.places p) plan.controlled

-- a controlled session: of the job, by a task of the phase, over places without a whole session
pub record IsControlled (plan : PlanView) (c : ControlledView) : Type 0 where
  pub from : 0 < c.session
  pub to : c.session ≤ plan.sessions
  pub by_task : has_task plan.tasks c.by ≡ true
  pub of_plan : All (λ p. p.0 < length plan.places) c.places
  pub free : All (λ p. window_at plan p.0 ≡ 0) c.places
  pub rising : AllPairs (λ p q. p.0 < q.0) c.places

-- two controlled sessions: they rise, and a place of both is under one controller
pub record AreApart (c d : ControlledView) : Type 0 where
  pub rising : c.session < d.session
  pub one_controller : (p : PlaceNo) → Contains c.places p → Contains d.places p → c.by ≡ d.by

pub record IsPlan (plan : PlanView) : Type 0 where
  pub windows : length plan.windows ≡ length plan.places
  pub in_range : (p : ℕ) → p < length plan.places → window_at plan p ≤ plan.sessions
  pub no_breakpoint : (p : ℕ) → p < length plan.places → original_at plan p ≢ breakpoint
  pub kinds : (p : ℕ) → p < length plan.places → kind_at plan p ≡ kind_of (original_at plan p)
  pub places : length plan.places ≤ PLACE_LIMIT
  pub sessions : plan.sessions ≤ SESSION_LIMIT
  pub tasks_differ : AllPairs (λ t u. t.0 ≢ u.0) plan.tasks
  pub controlled : All (IsControlled plan) plan.controlled
  pub apart : AllPairs AreApart plan.controlled
  pub no_windows : All (λ c. (p : ℕ) → p < length plan.places → window_at plan p ≢ c.session) plan.controlled

-- What a party has done and knows, as lists, and what each kind of step adds to them.

abbrev pub Has : {X : Type 0} → X → List X → Type 0
Has x [] = ⊥
Has x (y ∷ ys) = (y ≡ x) ⊎ Has x ys

abbrev pub add_if : {X : Type 0} → Bool → X → List X → List X
add_if true x xs = x ∷ xs
add_if false x xs = xs

abbrev pub has_number : ℕ → List ℕ → Bool
has_number i [] = false
has_number i (j ∷ js) = has_number i js || nat_eq i j

-- how often the pair stands in the list
abbrev pub times : ℕ → ℕ → List (ℕ × ℕ) → ℕ
times s p [] = 0
times s p (x ∷ xs) = (if nat_eq x.0 s && nat_eq x.1 p then 1 else 0) + times s p xs

abbrev pub total : {V : Type 0} → (V → ℕ) → List V → ℕ
total f [] = 0
total f (v ∷ vs) = f v + total f vs

-- the last tag that was planted at the place, or 0
abbrev pub last_tag : ℕ → List (ℕ × ℕ) → ℕ
last_tag p [] = 0
last_tag p (x ∷ xs) = if nat_eq x.0 p then x.1 else last_tag p xs

-- the tag of the window of session s
abbrev pub window_tag : ℕ → ℕ
window_tag s = 2 * s - 1

abbrev pub is_breakpoint : Cell → Bool
is_breakpoint c = nat_eq c.half breakpoint

-- the original in a window
abbrev pub is_lifted : PlanView → ℕ → Cell → Bool
is_lifted plan p c = nat_eq c.half (original_at plan p) && nat_eq (c.tag % 2) 1

-- a party that has done and knows nothing
abbrev pub blank : Role → View
blank r =
    record {
      role = r;
      marked = [];
      full = [];
      free = [];
      lifted = [];
      seen = [];
      pending = None;
      answered = [];
      planted = [];
      given = [];
      joined = [];
      numbers = [];
      noted = [];
      settled = [];
      found = [];
      beats = [];
      back = [];
    }

-- A fetch at place p found the cell.
abbrev pub fetching : PlanView → ℕ → Cell → View → View
fetching plan p c v = record v {
  seen = (p, c.tag) ∷ v.seen;
  pending = if is_breakpoint c then Some (p, c.tag) else None;
  answered = v.answered ++ (p, c) ∷ [];
  full = add_if (is_lifted plan p c) (tag_session c.tag, p) v.full;
  free = add_if (is_lifted plan p c) (tag_session c.tag, p) v.free;
  beats = Met p c.tag ∷ v.beats;
}

-- A mark of the fact for session s at place p found the set.
abbrev pub marking : PlanView → ℕ → ℕ → Fact → FactSet → View → View
marking plan s p f found v = record v {
  marked = (s, p, f) ∷ v.marked;
  full = add_if (is_full (kind_at plan p) (with_fact found f)) (s, p) v.full;
  found = found ∷ v.found;
}

-- A lift for session s at place p exchanged, or not.
abbrev pub lifting : ℕ → ℕ → Bool → View → View
lifting s p exchanged v = record v { free = (s, p) ∷ v.free; lifted = add_if exchanged (s, p) v.lifted }

-- It gave place p the tag, by planting or closing.
abbrev pub tagging : ℕ → ℕ → View → View
tagging p t v = record v { planted = (p, t) ∷ v.planted; seen = (p, t) ∷ v.seen; beats = Gave p t ∷ v.beats }

abbrev pub planting : ℕ → ℕ → View → View
planting s p v = tagging p (window_tag s) v

-- The rule: what holds of the cells, the sets and all parties' notes at every moment.

-- The forms of a cell: never planted; the breakpoint, then the original, in the window of session s; session s is over.
abbrev pub untouched : ℕ → Cell
untouched original = record { tag = 0; half = original }

abbrev pub planted : ℕ → Cell
planted s = record { tag = window_tag s; half = breakpoint }

abbrev pub lifted : ℕ → ℕ → Cell
lifted s original = record { tag = window_tag s; half = original }

abbrev pub closed : ℕ → ℕ → Cell
closed s original = record { tag = 2 * s; half = original }

-- only a controlled session ends before its phase
abbrev pub IsForm : PlanView → ℕ → Cell → Type 0
IsForm plan p c =
    (c ≡ untouched (original_at plan p))
    ⊎ ((s : ℕ) × (0 < s) × (is_over plan s p ≡ true)
    × ((c ≡ planted s) ⊎ ((c ≡ lifted s (original_at plan p))
    ⊎ ((c ≡ closed s (original_at plan p)) × (is_controlled plan s p ≡ true)))))

-- how often session s's breakpoint was taken out at a place whose cell is c
pub record Once (s original : ℕ) (c : Cell) (n : ℕ) : Type 0 where
  pub most : n ≤ 1
  pub there : c ≡ lifted s original → n ≡ 1
  pub early : c.tag < window_tag s → n ≡ 0
  pub not_yet : c ≡ planted s → n ≡ 0

-- The party keeps the sessions over the place: the root those of windows, and those of a task that isn't out; a task those that it
-- controls.
abbrev pub KeepsAs : PlanView → View → ℕ → Role → Type 0
KeepsAs plan v p Root =
    (0 < window_at plan p) ⊎ ((t : ℕ) × (is_controller plan t p ≡ true) × ((Has t v.given → ⊥) ⊎ Has t v.joined))
KeepsAs plan v p (Task t) = is_controller plan t p ≡ true
KeepsAs plan v p Spent = ⊥

abbrev pub Keeps : PlanView → View → ℕ → Type 0
Keeps plan v p = KeepsAs plan v p v.role

-- the first party is the root; a task is given out and hasn't come back
abbrev pub IsRole : List View → ℕ → Role → Type 0
IsRole views j Root = j ≡ 0
IsRole views j (Task t) = (i : ℕ) (r : View) → get_elem? views i ≡ some r → r.role ≡ Root → Has t r.given × (Has t r.joined → ⊥)
IsRole views j Spent = Unit {0}

-- it met the set full, and has neither tried to lift nor met the original
abbrev pub Owes : ℕ → ℕ → View → Type 0
Owes s p v = Has (s, p) v.full × (Has (s, p) v.free → ⊥)

module _ (plan : PlanView) (cell : ℕ → Cell) (sets : ℕ → ℕ → FactSet) where
  -- each note of a party is true of the cells and sets
  pub record Kept (v : View) : Type 0 where
    pub seen : (p t : ℕ) → Has (p, t) v.seen → (p < length plan.places) × (t ≤ (cell p).tag)
    pub pending : (p t : ℕ) → v.pending ≡ Some (p, t)
        → (s : ℕ) × (0 < s) × (is_over plan s p ≡ true) × (t ≡ window_tag s) × Has (p, t) v.seen
    pub marked : (s p : ℕ) (f : Fact) → Has (s, p, f) v.marked
        → (p < length plan.places) × (0 < s) × (is_over plan s p ≡ true) × (is_of_kind (kind_at plan p) f ≡ true)
        × (has_fact (sets s p) f ≡ true)
    pub full : (s p : ℕ) → Has (s, p) v.full → (0 < s) × Has (p, window_tag s) v.seen × (is_full (kind_at plan p) (sets s p) ≡ true)
    pub free : (s p : ℕ) → Has (s, p) v.free → Has (s, p) v.full × (cell p ≢ planted s)
    pub lifted : (s p : ℕ) → Has (s, p) v.lifted
        → (p < length plan.places) × (0 < s) × (is_over plan s p ≡ true) × Has (s, p) v.free
    pub planted : (p t : ℕ) → Has (p, t) v.planted → Has (p, t) v.seen
    pub joined : (t : ℕ) → Has t v.joined → Has t v.given

  -- the cell and the sets of one place: its form; full under the original of a window; empty before the window
  pub record IsSite (p : ℕ) : Type 0 where
    pub form : IsForm plan p (cell p)
    pub full : (s : ℕ) → 0 < s → cell p ≡ lifted s (original_at plan p) → is_full (kind_at plan p) (sets s p) ≡ true
    pub empty : (s : ℕ) → 0 < s → (cell p).tag < window_tag s → (f : Fact) → has_fact (sets s p) f ≡ true → ⊥

pub record Held (plan : PlanView) (cell : ℕ → Cell) (sets : ℕ → ℕ → FactSet) (views : List View) : Type 0 where
  pub is_plan : IsPlan plan
  pub site : (p : ℕ) → p < length plan.places → IsSite plan cell sets p
  pub kept : (j : ℕ) (v : View) → get_elem? views j ≡ some v → Kept plan cell sets v
  -- each fact of a set was marked by a party
  pub known : (s p : ℕ) (f : Fact) → p < length plan.places → 0 < s → has_fact (sets s p) f ≡ true
      → (j : ℕ) × (v : View) × (get_elem? views j ≡ some v) × Has (s, p, f) v.marked
  -- the tag is the last one that the place's keeper gave it
  pub ties : (j : ℕ) (v : View) → get_elem? views j ≡ some v → (p : ℕ) → p < length plan.places → Keeps plan v p
      → (cell p).tag ≡ last_tag p v.planted
  -- a full set under a breakpoint is some party's to lift
  pub owed : (s p : ℕ) → p < length plan.places → 0 < s → is_full (kind_at plan p) (sets s p) ≡ true → cell p ≡ planted s
      → (j : ℕ) × (v : View) × (get_elem? views j ≡ some v) × Owes s p v
  pub once : (s p : ℕ) → p < length plan.places → 0 < s
      → Once s (original_at plan p) (cell p) (total (λ v. times s p v.lifted) views)
  pub roles : (j : ℕ) (v : View) → get_elem? views j ≡ some v → IsRole views j v.role
  -- what was joined tells no more
  pub spent : (j : ℕ) (v : View) → get_elem? views j ≡ some v → v.role ≡ Spent → v ≡ blank Spent
  -- no two bear one task
  pub apart : (i j : ℕ) (u v : View) (t : ℕ) → get_elem? views i ≡ some u → get_elem? views j ≡ some v → u.role ≡ Task t
      → v.role ≡ Task t → i ≡ j
