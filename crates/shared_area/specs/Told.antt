-- What a contract sees of a party.
use Rattle.std.specs.Prelude.{ℕ, Bool, true, false, not, ◌&&◌, ◌||◌, nat_eq, if◌then◌else◌, Option, Some, None, List, [], ◌∷◌, map, max}
use Rattle.cov_base.specs.declared.facts.Fact.{Fact}
use Rattle.cov_base.specs.Meaning.{FactSet, same_fact}
use Rattle.module_area.specs.declared.parties.Role.{Role}
use Rattle.module_area.specs.declared.parties.Role.TheVariants.{Task}
use Rattle.module_area.specs.declared.parties.View.{View}
use Rattle.module_area.specs.Rule.{last_tag, has_number}
use Rattle.module_area.specs.Race.{beats_of}
use Rattle.module_area.specs.declared.tallies.Tally.{Tally}
use Rattle.module_area.specs.Notes.{Notes, NotedView, same_set}

abbrev pub has_mark : ℕ → ℕ → Fact → List (ℕ × ℕ × Fact) → Bool
has_mark s p f [] = false
has_mark s p f (x ∷ xs) = has_mark s p f xs || (nat_eq s x.0 && nat_eq p x.1 && same_fact f x.2)

abbrev pub has_pair : ℕ → ℕ → List (ℕ × ℕ) → Bool
has_pair s p [] = false
has_pair s p (x ∷ xs) = has_pair s p xs || (nat_eq s x.0 && nat_eq p x.1)

abbrev pub has_settled : ℕ → ℕ → FactSet → List (ℕ × ℕ × FactSet) → Bool
has_settled s p x [] = false
has_settled s p x (y ∷ ys) = has_settled s p x ys || (nat_eq s y.0 && nat_eq p y.1 && same_set y.2 x)

-- the highest tag at the place
abbrev pub seen_at : ℕ → List (ℕ × ℕ) → ℕ
seen_at p [] = 0
seen_at p (x ∷ xs) = if nat_eq p x.0 then max x.1 (seen_at p xs) else seen_at p xs

-- a look at a task's word, with the highest tags that were seen then
abbrev pub told_note : ℕ × ℕ × List (ℕ × ℕ) → NotedView
told_note e = record { task = e.0; number = e.1; seen = λ p. seen_at p e.2 }

abbrev pub bears_as : Role → Option ℕ
bears_as (Task t) = Some t
bears_as r = None

abbrev pub notes_in : View → Tally → Notes
notes_in v tally = record {
  marked = λ s p f. has_mark s p f v.marked;
  full = λ s p. has_pair s p v.full;
  free = λ s p. has_pair s p v.free;
  seen = λ p. seen_at p v.seen;
  pending = v.pending;
  last = λ p. last_tag p v.planted;
  answered = v.answered;
  numbers = λ t. last_tag t v.numbers;
  noted = map told_note v.noted;
  settled = λ s p x. has_settled s p x v.settled;
  found = v.found;
  beats = v.beats;
  back = λ t. beats_of t v.back;
  tally = tally;
  bears = bears_as v.role;
  given = λ t. has_number t v.given;
  out = λ t. has_number t v.given && not (has_number t v.joined);
}

-- whatever came back was given out
abbrev pub is_given : List ℕ → List ℕ → Bool
is_given given [] = true
is_given given (t ∷ ts) = has_number t given && is_given given ts
