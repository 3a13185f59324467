use Rattle.std.proofs.Common.{ℕ, ◌&&◌, ◌||◌, Bool, nat_eq, nat_lt, sym, ap, ◌∙◌, arith}
use Rattle.module_area.specs.Meaning.{window_at}
use Rattle.count_session.specs.Notes.{CountNotes, root_notes}
use Rattle.count_session.specs.Passes.{notes_of}
use Rattle.count_session.proofs.PlantLemmas.{none_planted, not_yet, more_planted, all_planted}
use Rattle.count_session.proofs.phase.plant_all.Goals as goal

pub loop-i-init : goal.loop-i-init
loop-i-init c = record {
  area = c.requires.area;
  same = c.requires.root ∙ ap (λ (f : ℕ → Bool). record root_notes { planted = f }) (sym (ap (λ (n : CountNotes). n.planted) c.requires.root));
  planted = λ p. ap (λ (n : CountNotes). n.planted p) c.requires.root ∙ sym (none_planted (nat_lt 0 (window_at c.args.plan.now p)) p);
}

pub plant_one-requires-clause-unplanted : goal.plant_one-requires-clause-unplanted
plant_one-requires-clause-unplanted c = c.loop-i.invariant.planted c.loop-i.i ∙ not_yet (nat_lt 0 (window_at c.args.plan.now c.loop-i.i)) c.loop-i.i

pub loop-i-preserved : goal.loop-i-preserved
loop-i-preserved c = let i = c.loop-i.i in let new = notes_of c.args.cells.now c.plant_one.new.root in record {
  area = c.plant_one.ensures.area;
  same = c.plant_one.ensures.same ∙ ap (λ (n : CountNotes). record n { planted = new.planted }) c.loop-i.invariant.same;
  planted = λ p. c.plant_one.ensures.planted p ∙ (ap (λ (b : Bool). b || (nat_eq p i && nat_lt 0 (window_at c.args.plan.now i))) (c.loop-i.invariant.planted p) ∙ more_planted (window_at c.args.plan.now) p i);
}

pub returns-clause-planted : goal.returns-clause-planted
returns-clause-planted c = λ p l. c.loop-i.invariant.planted p ∙ all_planted (nat_lt 0 (window_at c.args.plan.now p)) p c.loop-i.i (omega (arith, l, c.loop-i-test.false, c.places_len-i-end.ensures.value))
