-- The rule over all words and all passes: each count is the sum of what all passes added there.
use Rattle.std.specs.Prelude.{◌≡◌, ℕ, ◌+◌, ◌*◌, ◌/◌, ◌^◌, ◌<◌, ◌≤◌, true, false, nat_eq, if◌then◌else◌, Some, None, List, [], ◌∷◌, ◌++◌, length, get_or}
use mathlib.Core.Option.{some}
use lib.ListN.{get_elem?}
use Rattle.atomic_table.specs.Table.{State}
use Rattle.cov_base.specs.FactKind.{is_of_kind}
use Rattle.module_area.specs.Rule.{total, IsPlan, has_number}
use Rattle.module_area.specs.Meaning.{PlanView, original_at, kind_at, window_at}
use Rattle.count_session.specs.declared.rule.NoSlot.{NoSlot}
use Rattle.count_session.specs.declared.rule.CountView.{CountView}
use Rattle.count_session.specs.Notes.{CountNotes, cell_at}
use Rattle.module_area.specs.Words.{cell_of}
use Rattle.count_session.specs.Words.{planted_word, count_word, word_count}

-- how often the number stands in the list
abbrev pub times : ℕ → List ℕ → ℕ
times i [] = 0
times i (j ∷ js) = (if nat_eq i j then 1 else 0) + times i js

-- the root of a new area
abbrev pub first_view : CountView
first_view = record { root = true; live = true; planted = []; pending = None; added = []; given = 0; passes = 0 }

-- a pass that was joined
abbrev pub spent_view : CountView
spent_view = record { root = false; live = false; planted = []; pending = None; added = []; given = 0; passes = 0 }

abbrev pub planting : ℕ → CountView → CountView
planting p v = record v { planted = p ∷ v.planted }

abbrev pub fetching : ℕ → CountView → CountView
fetching p v = record v { pending = if has_number p v.planted then Some p else None }

abbrev pub adding : ℕ → CountView → CountView
adding i v = record v { added = i ∷ v.added }

abbrev pub giving : CountView → CountView
giving v = record v { given = v.given + 1 }

abbrev pub newcomer : CountView → CountView
newcomer v = record { root = false; live = true; planted = v.planted; pending = None; added = []; given = 0; passes = 1 }

abbrev pub joining : CountView → CountView → CountView
joining v o = record v { added = o.added ++ v.added; passes = v.passes + o.passes }

-- the word of the cell at place p, as the pass knows it
abbrev pub cell_word : PlanView → CountView → ℕ → ℕ
cell_word plan v p = if has_number p v.planted then planted_word (window_at plan p) else original_at plan p

-- the root stands first; another pass has its own adds, fewer than 2^40 or as many
pub record IsView (plan : PlanView) (words : List ℕ) (j : ℕ) (v : CountView) : Type 0 where
  pub cells : v.live ≡ true → (p : ℕ) → p < length plan.places → get_or words p 0 ≡ cell_word plan v p
  pub few : length v.added ≤ v.passes * 2 ^ 40
  pub first : v.root ≡ true → j ≡ 0
  pub one : v.root ≡ false → v.live ≡ true → v.passes ≡ 1

-- the root has split off all other passes
pub record IsRoot (views : List CountView) (r : CountView) : Type 0 where
  pub first : get_elem? views 0 ≡ some r
  pub count : length views ≡ r.given + 1
  pub passes : total (λ (v : CountView). v.passes) views ≡ r.given
  pub few : r.given ≤ 65535

pub record IsCounting (plan : PlanView) (s : State NoSlot CountView) : Type 0 where
  pub is_plan : IsPlan plan
  pub fits : (p : ℕ) → p < length plan.places → original_at plan p < 65536
  pub wide : length s.words ≡ word_count plan
  pub views : (j : ℕ) (v : CountView) → get_elem? s.views j ≡ some v → IsView plan s.words j v
  pub counts : (i : ℕ) → length plan.places ≤ i → i < length s.words
      → get_or s.words i 0 ≡ total (λ (v : CountView). times i v.added) s.views
  pub root : CountView
  pub is_root : IsRoot s.views root

-- what a contract sees of the pass
abbrev pub notes_in : PlanView → CountView → CountNotes
notes_in plan v = record {
  root = v.root;
  planted = λ p. has_number p v.planted;
  pending = v.pending;
  added = λ p f. if is_of_kind (kind_at plan p) f then times (count_word (length plan.places) p f) v.added else 0;
  adds = length v.added;
  given = v.given;
  passes = v.passes;
}

-- a fetch at place p found the word
pub record Fetched (plan : PlanView) (p : ℕ) (v : CountView) (w : ℕ) (v' : CountView) : Type 0 where
  pub after : v' ≡ fetching p v
  pub cell : cell_of w ≡ cell_at plan (notes_in plan v) p
  pub small : w / 65536 < 2 ^ 32
