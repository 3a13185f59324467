-- What a pass has done and knows, and how each call changes it.
use Rattle.std.specs.Prelude.{◌≡◌, ◌≢◌, ℕ, ◌+◌, ◌-◌, ◌*◌, ◌/◌, ◌%◌, ◌<◌, ◌≤◌, Bool, true, false, not, ◌&&◌, ◌||◌, if◌then◌else◌, nat_eq, nat_lt, nat_le, Option, Some, None, is_some, List, [], ◌∷◌, ◌++◌, All, unwrap_or, max}
use Rattle.std.specs.List.{list_any, list_all}
use Rattle.cov_base.specs.declared.numbers.PlaceNo.{PlaceNo}
use Rattle.cov_base.specs.declared.numbers.TaskNo.{TaskNo}
use Rattle.cov_base.specs.declared.facts.Fact.{Fact}
use Rattle.cov_base.specs.Meaning.{FactSet, with_fact, has_fact, is_full, is_within, full_of, same_fact, breakpoint}
use Rattle.module_area.specs.declared.cells.Cell.{Cell}
use Rattle.module_area.specs.declared.parties.Beat.{Beat}
use Rattle.module_area.specs.declared.parties.Beat.TheVariants.{Met, Gave}
use Rattle.module_area.specs.declared.tallies.Tally.{Tally}
use Rattle.module_area.specs.Meaning.{PlanView, ControlledView, original_at, kind_at, window_at, has_place, is_over, is_controlled}
use Rattle.module_area.specs.Rule.{is_controller}

-- a look at a task's word: its number then, and the highest tags that the pass knew of the places
pub record NotedView : Type 0 where
  pub task : ℕ
  pub number : ℕ
  pub seen : ℕ → ℕ

pub record Notes : Type 0 where
  -- it marked the fact at the place for the session: session, place, fact
  pub marked : ℕ → ℕ → Fact → Bool
  -- it met the set of the session at the place full
  pub full : ℕ → ℕ → Bool
  -- it fetched the original there under the session's tag, or tried to lift there
  pub free : ℕ → ℕ → Bool
  -- the highest tag that it knows of the place
  pub seen : ℕ → ℕ
  -- place and tag of its last fetch, where that answered a breakpoint
  pub pending : Option (ℕ × ℕ)
  -- the tag that it gave the place last, by planting or closing, or took over with the place; 0 where there is none
  pub last : ℕ → ℕ
  -- place and cell of each of its own fetches, in order
  pub answered : List (ℕ × Cell)
  -- the number of the task that it bears; for the root those of the tasks whose passes have come back; else 0
  pub numbers : ℕ → ℕ
  -- its looks at tasks' words, the last first
  pub noted : List NotedView
  -- it knows that the set is the final one: session, place, set
  pub settled : ℕ → ℕ → FactSet → Bool
  -- the sets that its own marks and looks at sets found, the last first
  pub found : List FactSet
  -- its fetches and the tags that it gave, the last first; for the root those of each task that has come back
  pub beats : List Beat
  pub back : ℕ → List Beat
  pub tally : Tally
  -- the task that it bears, or none for the root
  pub bears : Option ℕ
  -- for the root: the tasks for which passes were split off, and those whose passes aren't joined yet
  pub given : ℕ → Bool
  pub out : ℕ → Bool

abbrev pub no_tally : Tally
no_tally = record { plants = 0; fetches = 0; marks = 0; lifts = 0; closes = 0 }

abbrev pub root_notes : Notes
root_notes = record {
  marked = λ s p f. false;
  full = λ s p. false;
  free = λ s p. false;
  seen = λ p. 0;
  pending = None;
  last = λ p. 0;
  answered = [];
  numbers = λ t. 0;
  noted = [];
  settled = λ s p x. false;
  found = [];
  beats = [];
  back = λ t. [];
  tally = no_tally;
  bears = None;
  given = λ t. false;
  out = λ t. false;
}

abbrev pub calls : Notes → ℕ
calls n = n.tally.plants + n.tally.fetches + n.tally.marks + n.tally.lifts + n.tally.closes

-- the task that the pass bears
abbrev pub bearer : Notes → ℕ
bearer n = unwrap_or n.bears 0

-- the number of its task
abbrev pub own_number : Notes → ℕ
own_number n = n.numbers (bearer n)

-- The pass of a task that has not ended, which alone fetches and marks. The number of an ended task is odd.
abbrev pub is_working : Notes → Bool
is_working n = is_some n.bears && nat_eq (own_number n % 2) 0

-- The sessions over the place are its own to plant and close. A task's pass works those that its task controls; the
-- root those of windows, and those of the tasks whose passes aren't out.
abbrev pub keeps_as : PlanView → Option ℕ → (ℕ → Bool) → ℕ → Bool
keeps_as plan (Some t) out p = is_controller plan t p
keeps_as plan None out p =
    nat_lt 0 (window_at plan p) || list_any (λ (c : ControlledView). not (out c.by) && has_place c.places p) plan.controlled

abbrev pub keeps : PlanView → Notes → ℕ → Bool
keeps plan n p = keeps_as plan n.bears n.out p

-- the cell is the original under the tag of session s
abbrev pub is_free_under : PlanView → ℕ → Cell → ℕ → Bool
is_free_under plan p cell s = nat_eq cell.half (original_at plan p) && nat_eq (cell.tag + 1) (2 * s)

abbrev pub after_fetch : PlanView → Notes → ℕ → Cell → Notes
after_fetch plan n p cell = record n {
  full = λ s q. n.full s q || (nat_eq q p && is_free_under plan p cell s);
  free = λ s q. n.free s q || (nat_eq q p && is_free_under plan p cell s);
  seen = λ q. if nat_eq q p then cell.tag else n.seen q;
  pending = if nat_eq cell.half breakpoint then Some (p, cell.tag) else None;
  answered = n.answered ++ (p, cell) ∷ [];
  beats = Met p cell.tag ∷ n.beats;
  tally = record n.tally { fetches = n.tally.fetches + 1 };
}

-- the set is the one that the mark found
abbrev pub after_mark : PlanView → Notes → ℕ → ℕ → Fact → FactSet → Notes
after_mark plan n s p f found = record n {
  marked = λ t q g. n.marked t q g || (nat_eq t s && nat_eq q p && same_fact g f);
  full = λ t q. n.full t q || (nat_eq t s && nat_eq q p && is_full (kind_at plan p) (with_fact found f));
  found = found ∷ n.found;
  tally = record n.tally { marks = n.tally.marks + 1 };
}

abbrev pub after_lift : Notes → ℕ → ℕ → Bool → Notes
after_lift n s p exchanged = record n {
  free = λ t q. n.free t q || (nat_eq t s && nat_eq q p);
  tally = record n.tally { lifts = n.tally.lifts + (if exchanged then 1 else 0) };
}

abbrev pub after_plant : Notes → ℕ → ℕ → Notes
after_plant n s p = record n {
  seen = λ q. if nat_eq q p then 2 * s - 1 else n.seen q;
  last = λ q. if nat_eq q p then 2 * s - 1 else n.last q;
  beats = Gave p (2 * s - 1) ∷ n.beats;
  tally = record n.tally { plants = n.tally.plants + 1 };
}

abbrev pub after_close : Notes → ℕ → ℕ → Notes
after_close n s p = record n {
  seen = λ q. if nat_eq q p then 2 * s else n.seen q;
  last = λ q. if nat_eq q p then 2 * s else n.last q;
  beats = Gave p (2 * s) ∷ n.beats;
  tally = record n.tally { closes = n.tally.closes + 1 };
}

-- the root after a pass was split off for the task
abbrev pub after_split : Notes → ℕ → Notes
after_split n t = record n {
  given = λ u. n.given u || nat_eq u t;
  out = λ u. n.out u || nat_eq u t;
}

-- the pass that was split off, with the last tags of the places that its task controls
abbrev pub split_notes : PlanView → Notes → ℕ → Notes
split_notes plan n t = record root_notes {
  seen = n.seen;
  last = λ p. if is_controller plan t p then n.last p else 0;
  bears = Some t;
}

-- by these tags the controlled session s is over at all its places
abbrev pub is_closed : PlanView → (ℕ → ℕ) → ℕ → Bool
is_closed plan seen s =
    list_all (λ (c : ControlledView). not (nat_eq c.session s)
    || list_all (λ (q : PlaceNo). nat_le (2 * s) (seen q.0)) c.places) plan.controlled

-- By these looks task t is past session s: one at which s was known as over found an odd number of t, or a number of t
-- that another look found passed.
abbrev pub is_past : PlanView → List NotedView → ℕ → ℕ → Bool
is_past plan noted s t = list_any (λ (e : NotedView). nat_eq e.task t && (is_closed plan e.seen s
    && (nat_eq (e.number % 2) 1 || list_any (λ (d : NotedView). nat_eq d.task t && nat_lt e.number d.number) noted))) noted

abbrev pub is_own : Option ℕ → ℕ → Bool
is_own None t = false
is_own (Some u) t = nat_eq u t

-- it knows each other task of the plan past session s
abbrev pub is_drained : PlanView → Notes → ℕ → Bool
is_drained plan n s = list_all (λ (u : TaskNo). is_own n.bears u.0 || is_past plan n.noted s u.0) plan.tasks

abbrev pub is_at : Option (ℕ × ℕ) → ℕ → ℕ → Bool
is_at None p t = false
is_at (Some x) p t = nat_eq x.0 p && nat_eq x.1 t

-- What it reads of session s at place p is final: it knows s over there, and nobody can have an answer of s there.
abbrev pub is_final : PlanView → Notes → ℕ → ℕ → Bool
is_final plan n s p =
    is_controlled plan s p && (nat_le (2 * s) (n.seen p) && (is_drained plan n s && not (is_at n.pending p (2 * s - 1))))

abbrev pub same_bit : Bool → Bool → Bool
same_bit true b = b
same_bit false b = not b

-- whether two sets have the same facts
abbrev pub same_set : FactSet → FactSet → Bool
same_set a b = same_bit a.ran b.ran && (same_bit a.went b.went && same_bit a.stayed b.stayed)

-- the pass after a boundary, at which its task has ended or not
abbrev pub after_boundary : Notes → Bool → Notes
after_boundary n ended = record n {
  pending = None;
  numbers = λ t. if nat_eq t (bearer n) then own_number n + (if ended then 1 else 2) else n.numbers t;
}

-- after it looked at the word of task t
abbrev pub after_note : Notes → ℕ → ℕ → Notes
after_note n t found = record n { noted = record { task = t; number = found; seen = n.seen } ∷ n.noted }

-- after it looked at the set of session s at place p
abbrev pub after_read : PlanView → Notes → ℕ → ℕ → FactSet → Notes
after_read plan n s p found = record n {
  settled = λ t q x. n.settled t q x || (is_final plan n s p && (nat_eq t s && nat_eq q p && same_set found x));
  found = found ∷ n.found;
}

-- What a look at a task's word may find: no number below one that it noted; its own number.
pub record IsWord (n : Notes) (t found : ℕ) : Type 0 where
  pub noted : All (λ (e : NotedView). e.task ≡ t → e.number ≤ found) n.noted
  pub own : n.bears ≡ Some t → found ≡ own_number n

-- the root after another pass was joined to it: it takes over the places that the pass's task controls, and drops
-- the pass's answered pairs and the sets that it found
abbrev pub after_join : PlanView → Notes → Notes → Notes
after_join plan n other = record n {
  marked = λ s p f. n.marked s p f || other.marked s p f;
  full = λ s p. n.full s p || other.full s p;
  free = λ s p. n.free s p || other.free s p;
  seen = λ p. max (n.seen p) (other.seen p);
  last = λ p. if is_controller plan (bearer other) p then other.last p else n.last p;
  tally = record {
    plants = n.tally.plants + other.tally.plants;
    fetches = n.tally.fetches + other.tally.fetches;
    marks = n.tally.marks + other.tally.marks;
    lifts = n.tally.lifts + other.tally.lifts;
    closes = n.tally.closes + other.tally.closes;
  };
  out = λ u. n.out u && not (nat_eq u (bearer other));
  numbers = λ u. if nat_eq u (bearer other) then other.numbers u else n.numbers u;
  noted = other.noted ++ n.noted;
  back = λ u. if nat_eq u (bearer other) then other.beats else n.back u;
  settled = λ s p x. n.settled s p x || other.settled s p x;
}

-- What a fetch may answer: the original, or a breakpoint under an odd tag; a tag that is not 0 is of a session over
-- the place; no older tag than the pass knows, and while the place's whole session runs, its tag; its last tag where
-- the pass keeps the place; and no breakpoint that the pass has tried to lift or met gone.
pub record IsAnswer (plan : PlanView) (n : Notes) (p : ℕ) (cell : Cell) : Type 0 where
  pub planted : cell.half ≡ breakpoint → cell.tag % 2 ≡ 1
  pub plain : cell.half ≢ breakpoint → cell.half ≡ original_at plan p
  pub later : n.seen p ≤ cell.tag
  pub window : 0 < window_at plan p → n.seen p + 1 ≡ 2 * window_at plan p → cell.tag ≡ n.seen p
  pub kept : keeps plan n p ≡ true → cell.tag ≡ n.last p
  pub over : cell.tag ≢ 0 → is_over plan ((cell.tag + 1) / 2) p ≡ true
  pub lifted : (s : ℕ) → n.free s p ≡ true → cell.half ≡ breakpoint → cell.tag + 1 ≢ 2 * s

-- The set that a mark or a look found has what the pass marked before, and facts of the place's kind alone; it is full
-- where the pass met it full.
pub record IsFound (plan : PlanView) (n : Notes) (s p : ℕ) (found : FactSet) : Type 0 where
  pub own : (f : Fact) → n.marked s p f ≡ true → has_fact found f ≡ true
  pub within : is_within (kind_at plan p) found ≡ true
  pub full : n.full s p ≡ true → found ≡ full_of (kind_at plan p)
