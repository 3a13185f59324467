-- What is added of no visits, and of visits one behind the other, and how the room for the next goes on.
use Rattle.std.specs.Prelude.{◌≡◌, ℕ, ◌+◌, Bool, true, false, if◌then◌else◌, List, [], ◌∷◌, ◌++◌, refl}
use Rattle.std.proofs.Common.{◌∙◌, ap, arith, length-append}
use Rattle.cov_base.specs.Meaning.{Visit}
use Rattle.cov_base.specs.declared.facts.Fact.{Fact}
use Rattle.module_area.specs.Meaning.{PlanView, place_of}
use Rattle.module_area.specs.declared.places.Place.{Place}
use Rattle.brk_table.specs.Meaning.{TablesView}
use Rattle.count_session.specs.Meaning.{count_at}
use Rattle.count_session.specs.Counting.{planted_count, Adds, HasAdded, HasRoom}
use Rattle.count_session.specs.Notes.{CountNotes}
use Rattle.count_session.specs.Passes.{notes_of, plan_in}
use Rattle.count_session.specs.declared.cells.CountCells.{CountCells}
use Rattle.count_session.specs.declared.pass.CountPass.{CountPass}

count_at-append : (place : Place) (f : Fact) (vs ws : List Visit)
    → count_at place f (vs ++ ws) ≡ count_at place f vs + count_at place f ws
count_at-append place f [] ws = omega arith
count_at-append place f (v ∷ vs) ws = let r = count_at-append place f vs ws in omega arith

planted_count-append : (plan : PlanView) (b : Bool) (p : ℕ) (f : Fact) (vs ws : List Visit)
    → (if b then count_at (place_of plan.places p) f (vs ++ ws) else 0) ≡ (if b then count_at (place_of plan.places p) f vs else 0)
    + (if b then count_at (place_of plan.places p) f ws else 0)
planted_count-append plan true p f vs ws = count_at-append (place_of plan.places p) f vs ws
planted_count-append plan false p f vs ws = refl

Adds-none : (plan : PlanView) (n : CountNotes) → Adds plan n n []
Adds-none plan n = record { same = refl; added = λ p f l. let z = nothing (n.planted p) in omega arith; adds = omega arith }
  where
    nothing : (b : Bool) → ◌≡◌ {A = ℕ} (if b then 0 else 0) 0
    nothing true = refl
    nothing false = refl

Adds-append : (plan : PlanView) (old mid new : CountNotes) (vs ws : List Visit) → Adds plan old mid vs → Adds plan mid new ws
    → Adds plan old new (vs ++ ws)
Adds-append plan old mid new vs ws a b = let still : mid.planted ≡ old.planted = ap (λ (n : CountNotes). n.planted) a.same in record {
  same = b.same ∙ ap (λ (n : CountNotes). record n { pending = new.pending; added = new.added; adds = new.adds }) a.same;
  added = λ p f l. let first = a.added p f l in let second = b.added p f l in let joined = planted_count-append plan (old.planted p) p f vs ws in
      let here : planted_count plan mid p f ws ≡ planted_count plan old p f ws = ap (λ (g : ℕ → Bool). if g p then count_at (place_of plan.places p) f ws else 0) still in omega arith;
  adds = (let x = a.adds in let y = b.adds in let z = length-append vs ws in omega arith);
}

pub HasAdded-none : (cells : CountCells) (tables : TablesView) (pass : CountPass) → HasAdded cells tables pass [] pass
HasAdded-none cells tables pass = Adds-none (plan_in cells) (notes_of cells pass)

pub HasAdded-both : (cells : CountCells) (tables : TablesView) (old mid new : CountPass) (vs ws : List Visit)
    → HasAdded cells tables old vs mid → HasAdded cells tables mid ws new → HasAdded cells tables old (vs ++ ws) new
HasAdded-both cells tables old mid new vs ws a b =
    Adds-append (plan_in cells) (notes_of cells old) (notes_of cells mid) (notes_of cells new) vs ws a b

pub HasRoom-later : (cells : CountCells) (tables : TablesView) (pass : CountPass) (done shown : ℕ)
    → HasRoom cells tables pass done shown → HasRoom cells tables pass done (shown + 1)
HasRoom-later cells tables pass done shown room =
    record { area = room.area; places = room.places; task = room.task; adds = omega (arith, room.adds) }

pub HasRoom-next : (cells : CountCells) (tables : TablesView) (pass : CountPass) (done : ℕ) → HasRoom cells tables pass done 2
    → HasRoom cells tables pass (done + 1) 0
HasRoom-next cells tables pass done room =
    record { area = room.area; places = room.places; task = room.task; adds = omega (arith, room.adds) }
