-- What a contract sees of a pass, and what each call changes.
use Rattle.std.specs.Prelude.{◌≡◌, ℕ, ◌+◌, ◌-◌, ◌*◌, ◌<◌, Bool, true, false, ◌||◌, ◌&&◌, nat_eq, nat_lt, if◌then◌else◌, Option, Some, None, length}
use Rattle.cov_base.specs.Meaning.{breakpoint, same_fact}
use Rattle.cov_base.specs.declared.facts.Fact.{Fact}
use Rattle.module_area.specs.declared.cells.Cell.{Cell}
use Rattle.module_area.specs.Meaning.{PlanView, original_at, window_at}

pub record CountNotes : Type 0 where
  pub root : Bool
  -- the places that the root had planted when the pass was split off
  pub planted : ℕ → Bool
  -- where its last fetch answered a breakpoint
  pub pending : Option ℕ
  -- how often it, or a pass that was joined to it, added the fact at the place
  pub added : ℕ → Fact → ℕ
  -- how often at all
  pub adds : ℕ
  -- how many passes were split off from it
  pub given : ℕ
  -- whose adds it has: a pass its own, the root those of so many passes that were joined
  pub passes : ℕ

-- the root of a new area
abbrev pub root_notes : CountNotes
root_notes = record { root = true; planted = λ p. false; pending = None; added = λ p f. 0; adds = 0; given = 0; passes = 0 }

abbrev pub after_plant : CountNotes → ℕ → CountNotes
after_plant n p = record n { planted = λ q. n.planted q || nat_eq q p }

-- nothing but the planted places is changed; by planting this place where it has a window; and now each place with one is
abbrev pub OnlyPlants : CountNotes → CountNotes → Type 0
OnlyPlants old new = new ≡ record old { planted = new.planted }

abbrev pub PlantsAt : PlanView → ℕ → CountNotes → CountNotes → Type 0
PlantsAt plan place old new = (p : ℕ) → new.planted p ≡ (old.planted p || (nat_eq p place && nat_lt 0 (window_at plan place)))

abbrev pub HasPlanted : PlanView → CountNotes → Type 0
HasPlanted plan n = (p : ℕ) → p < length plan.places → n.planted p ≡ nat_lt 0 (window_at plan p)

-- the cell as the root has planted it, or not
abbrev pub cell_at : PlanView → CountNotes → ℕ → Cell
cell_at plan n p =
    if n.planted p then record { tag = 2 * window_at plan p - 1; half = breakpoint }
    else record { tag = 0; half = original_at plan p }

abbrev pub after_fetch : CountNotes → ℕ → CountNotes
after_fetch n p = record n { pending = if n.planted p then Some p else None }

abbrev pub is_same : ℕ → Fact → ℕ → Fact → Bool
is_same p f q g = nat_eq q p && same_fact g f

abbrev pub after_add : CountNotes → ℕ → Fact → CountNotes
after_add n p f = record n { added = λ q g. n.added q g + (if is_same p f q g then 1 else 0); adds = n.adds + 1 }

abbrev pub after_split : CountNotes → CountNotes
after_split n = record n { given = n.given + 1 }

-- the pass that was split off
abbrev pub split_notes : CountNotes → CountNotes
split_notes n = record { root = false; planted = n.planted; pending = None; added = λ p f. 0; adds = 0; given = 0; passes = 1 }

abbrev pub after_join : CountNotes → CountNotes → CountNotes
after_join n o = record n { added = λ p f. n.added p f + o.added p f; adds = n.adds + o.adds; passes = n.passes + o.passes }
