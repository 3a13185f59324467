-- Drains: how a pass learns that a session that it has closed gets no fact any more.
use Rattle.std.specs.Prelude.{◌≡◌, ◌≢◌, ◌⊎◌, ℕ, ◌+◌, ◌-◌, ◌*◌, ◌<◌, ◌%◌, Bool, true, false, ◌&&◌, nat_eq, if◌then◌else◌, Option, Some, None, List, [], ◌∷◌, ◌++◌, length, map, replicate, get_or, All}
use Rattle.std.specs.List.{list_any}
use Rattle.cov_base.specs.declared.numbers.TaskNo.{TaskNo}
use Rattle.cov_base.specs.declared.numbers.PlaceNo.{PlaceNo}
use Rattle.cov_base.specs.Meaning.{FactSet, no_facts}
use Rattle.module_area.specs.Meaning.{PlanView, ControlledView, places_under}
use Rattle.module_area.specs.Notes.{Notes, NotedView, IsWord, IsFound, after_note, after_read, bearer, is_at, is_closed, is_past, is_drained}
use Rattle.early_report.specs.DrainView.{DrainView}
use Rattle.early_report.specs.declared.drains.Stage.{Stage}
use Rattle.early_report.specs.declared.drains.Stage.TheVariants.{Unused, Begun, Drained, Taken}
use Rattle.early_report.specs.declared.drains.Poll.{Poll}
use Rattle.early_report.specs.declared.drains.Poll.TheVariants as polls
use Rattle.early_report.specs.Meaning.{others}

-- there is a controlled session of that number; the task that controls it
abbrev pub has_controlled : PlanView → ℕ → Bool
has_controlled plan s = list_any (λ (c : ControlledView). nat_eq c.session s) plan.controlled

abbrev pub controller_in : List ControlledView → ℕ → ℕ
controller_in [] s = 0
controller_in (c ∷ cs) s = if nat_eq c.session s then c.by else controller_in cs s

abbrev pub controller_of : PlanView → ℕ → ℕ
controller_of plan s = controller_in plan.controlled s

-- the drain of a session that isn't closed
abbrev pub unused : PlanView → ℕ → DrainView
unused plan s = record {
  session = s;
  stage = Unused;
  noted = map (λ (u : TaskNo). (u, 0)) (others plan.tasks (controller_of plan s));
  last = None;
  polls = 0;
  at = 0;
  sets = replicate (length (places_under plan s)) no_facts;
}

-- The pass of the controlled session's own task has closed it at all its places, by what it has seen and by the tags that it
-- gave, and has no answer left that it could still mark for it.
pub record HasClosed (plan : PlanView) (n : Notes) (s : ℕ) : Type 0 where
  pub controlled : has_controlled plan s ≡ true
  pub own : n.bears ≡ Some (controller_of plan s)
  pub seen : is_closed plan n.seen s ≡ true
  pub given : is_closed plan n.last s ≡ true
  pub idle : (p : ℕ) → is_at n.pending p (2 * s - 1) ≡ false

-- a look of the pass at the word of task t, when it knew the session as closed, found this number
abbrev pub is_noted : PlanView → Notes → ℕ → ℕ → ℕ → Bool
is_noted plan n s t number =
    list_any (λ (e : NotedView). nat_eq e.task t && (nat_eq e.number number && is_closed plan e.seen s)) n.noted

-- The entry is one of these, and each task before it is past the session.
pub record IsReached (plan : PlanView) (n : Notes) (s : ℕ) (entries : List (TaskNo × ℕ)) (entry : TaskNo × ℕ) : Type 0 where
  pub index : ℕ
  pub within : index < length entries
  pub is_there : get_or entries index entry ≡ entry
  pub before : (i : ℕ) → i < index → is_past plan n.noted s (get_or entries i entry).0.0 ≡ true

abbrev pub is_over : Stage → Bool
is_over Unused = false
is_over Begun = false
is_over Drained = true
is_over Taken = true

-- the tasks of these entries
abbrev pub tasks_in : List (TaskNo × ℕ) → List TaskNo
tasks_in entries = map (λ (e : TaskNo × ℕ). e.0) entries

-- How a drain that was begun stands to its pass.
pub record IsDrainOf (plan : PlanView) (n : Notes) (d : DrainView) : Type 0 where
  pub closed : HasClosed plan n d.session
  pub tasks : tasks_in d.noted ≡ others plan.tasks (bearer n)
  pub noted : All (λ (e : TaskNo × ℕ). is_noted plan n d.session e.0.0 e.1 ≡ true) d.noted
  pub last : (e : TaskNo × ℕ) → d.last ≡ Some e → IsReached plan n d.session d.noted e
  pub sets : length d.sets ≡ length (places_under plan d.session)
  pub drained : is_over d.stage ≡ true → is_drained plan n d.session ≡ true

-- From the old to the new notes the pass has looked at the words of these tasks, in order, and the entries have what it found.
abbrev pub Begins : Notes → Notes → List TaskNo → List (TaskNo × ℕ) → Type 0
Begins old new [] [] = new ≡ old
Begins old new [] (e ∷ es) = ⊥
Begins old new (t ∷ ts) [] = ⊥
Begins old new (t ∷ ts) (e ∷ es) = (e.0 ≡ t) × IsWord old t.0 e.1 × Begins (after_note old t.0 e.1) new ts es

-- of the tasks of the plan but the pass's own
abbrev pub BeginsOthers : PlanView → Notes → Notes → List (TaskNo × ℕ) → Type 0
BeginsOthers plan old new entries = Begins old new (others plan.tasks (bearer old)) entries

abbrev pub is_odd : ℕ → Bool
is_odd n = nat_eq (n % 2) 1

-- A poll of these entries, in order: it passes over those whose number is odd, and looks at the word of each other one's task,
-- up to the first that still has its number. That one is the answer.
abbrev pub Polls : Notes → Notes → List (TaskNo × ℕ) → Option (TaskNo × ℕ) → Type 0
Polls old new [] answer = (new ≡ old) × (answer ≡ None)
Polls old new (e ∷ es) answer =
    ((is_odd e.1 ≡ true) × Polls old new es answer)
    ⊎ ((is_odd e.1 ≡ false) × (found : ℕ) × IsWord old e.0.0 found
    × (((found ≡ e.1) × (new ≡ after_note old e.0.0 found) × (answer ≡ Some e))
    ⊎ ((found ≢ e.1) × Polls (after_note old e.0.0 found) new es answer)))

-- from the entry of that task on, or all
abbrev pub from_entry : Option (TaskNo × ℕ) → List (TaskNo × ℕ) → List (TaskNo × ℕ)
from_entry None es = es
from_entry (Some x) [] = []
from_entry (Some x) (e ∷ es) = if nat_eq e.0.0 x.0.0 then e ∷ es else from_entry (Some x) es

-- a poll of the drain's entries, from the one at which its last poll has stopped
abbrev pub PollsDrain : DrainView → Notes → Notes → Option (TaskNo × ℕ) → Type 0
PollsDrain d old new answer = Polls old new (from_entry d.last d.noted) answer

-- the entry that a poll answers, and the drain after it
abbrev pub entry_of : Poll → Option (TaskNo × ℕ)
entry_of (polls.Pending t n) = Some (t, n)
entry_of polls.Drained = None

abbrev pub polled : DrainView → Option (TaskNo × ℕ) → DrainView
polled d None = record d { stage = Drained }
polled d (Some e) = record d { last = Some e; polls = d.polls + 1 }

-- From the old to the new notes the pass has read the session's sets at these places, in order.
abbrev pub Reads : PlanView → ℕ → Notes → Notes → List PlaceNo → List FactSet → Type 0
Reads plan s old new [] [] = new ≡ old
Reads plan s old new [] (x ∷ xs) = ⊥
Reads plan s old new (p ∷ ps) [] = ⊥
Reads plan s old new (p ∷ ps) (x ∷ xs) = IsFound plan old s p.0 x × Reads plan s (after_read plan old s p.0 x) new ps xs

-- at all of the session's places
abbrev pub ReadsAll : PlanView → ℕ → Notes → Notes → List FactSet → Type 0
ReadsAll plan s old new sets = Reads plan s old new (places_under plan s) sets

-- each of these sets is known as the session's final one at its place
pub record AreKnown (n : Notes) (s : ℕ) (places : List PlaceNo) (sets : List FactSet) : Type 0 where
  pub size : length sets ≡ length places
  pub each : (i : ℕ) (p : PlaceNo) (x : FactSet) → i < length places → n.settled s (get_or places i p).0 (get_or sets i x) ≡ true

-- each of them, at the session's places
abbrev pub AreFinal : PlanView → Notes → ℕ → List FactSet → Type 0
AreFinal plan n s sets = AreKnown n s (places_under plan s) sets

-- from the old to the new notes what is known of sessions' sets stays known
abbrev pub KeepsFinal : PlanView → Notes → Notes → Type 0
KeepsFinal plan old new = (s : ℕ) (sets : List FactSet) → AreFinal plan old s sets → AreFinal plan new s sets

-- the pass has looked at tasks and sets, and has done nothing else
pub record IsLooking (old new : Notes) : Type 0 where
  pub more : List NotedView
  pub same : new ≡ record old { noted = more ++ old.noted; settled = new.settled; found = new.found }
  pub known : (s p : ℕ) (x : FactSet) → old.settled s p x ≡ true → new.settled s p x ≡ true
