use Rattle.std.proofs.Common.{◌≡◌, ℕ, ◌<◌, ◌∙◌, length, nat_eq, ap, if◌then◌else◌, arith}
use Rattle.annotator.specs.Meaning.{mark_byte}
use Rattle.cov_base.specs.Meaning.{FactSet, mark_of}
use Rattle.cov_base.specs.declared.marks.Mark.{Mark}
use Rattle.cov_base.specs.declared.marks.Mark.TheVariants.{Not, Done, Branched, Fell, Both}
use Rattle.module_area.specs.Meaning.{place_of}
use Rattle.module_area.specs.declared.places.Place.{Place}
use Rattle.report_text.proofs.PlaceFacts.{marked_at, sum_step}
use Rattle.report_text.proofs.trial.count_marks.Goals as goal

pub loop-n-preserved : goal.loop-n-preserved
loop-n-preserved g c =
    let n : ℕ = c.loop-n.n in
    let places = c.args.tables.now.places in
    let sets = g.R.FactSets.set_of c.args.sets.now 1 in
    let before = c.loop-n.invariant in
    let here : n < length places = omega (arith, c.loop-n-test.true, c.len-n-end.ensures.value) in
    let mark : c.mark_of-mark.result ≡ mark_of (place_of places n).kind (sets n) =
    c.mark_of-mark.ensures ∙ (ap (λ (p : Place). mark_of p.kind c.set-set.result) c.place.ensures.value ∙ ap (λ (s : FactSet). mark_of (place_of places n).kind s) c.set-set.ensures) in
    let same = λ (wanted : Mark). ap {B = ℕ} (λ (m : Mark). if nat_eq (mark_byte wanted) (mark_byte m) then 1 else 0) mark in
    record {
      not = sum_step (marked_at Not places sets) n (length places) _ _ _ here (c.count_same.ensures.value ∙ same Not) before.not;
      executed = sum_step (marked_at Done places sets) n (length places) _ _ _ here (c.count_same-in-loop-n.ensures.value ∙ same Done) before.executed;
      branched = sum_step (marked_at Branched places sets) n (length places) _ _ _ here (c.count_same-in-loop-n-2.ensures.value ∙ same Branched) before.branched;
      fell = sum_step (marked_at Fell places sets) n (length places) _ _ _ here (c.count_same-in-loop-n-3.ensures.value ∙ same Fell) before.fell;
      both = sum_step (marked_at Both places sets) n (length places) _ _ _ here (c.count_same-in-loop-n-4.ensures.value ∙ same Both) before.both;
      few_not = omega (arith, before.few_not, c.count_same.ensures.most);
      few_executed = omega (arith, before.few_executed, c.count_same-in-loop-n.ensures.most);
      few_branched = omega (arith, before.few_branched, c.count_same-in-loop-n-2.ensures.most);
      few_fell = omega (arith, before.few_fell, c.count_same-in-loop-n-3.ensures.most);
      few_both = omega (arith, before.few_both, c.count_same-in-loop-n-4.ensures.most);
    }
