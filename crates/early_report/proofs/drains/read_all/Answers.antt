use Rattle.std.proofs.Common.{◌≡◌, ℕ, ◌+◌, ◌<◌, true, List, [], ◌∷◌, ◌++◌, length, get_or, take, drop, refl, sym, ◌∙◌, ap, subst, arith}
use Rattle.std.proofs.Math.ListN.{set}
use mathlib.Core.Logic.{dite}
use native.Mathlib.Decide.{dec_le}
use Rattle.std.proofs.lemmas.List.{append_assoc, append-nil, drop_all, get_or-set_other, get_or-set_same, get_or_default, length-set, take_all, take_more_set}
use Rattle.cov_base.specs.Meaning.{FactSet}
use Rattle.cov_base.specs.declared.numbers.PlaceNo.{PlaceNo}
use Rattle.module_area.specs.Notes.{Notes, after_read, is_final}
use Rattle.early_report.specs.Drains.{Reads}
use Rattle.early_report.proofs.ReadLemmas.{Reads-next, read_known, read_keeps}
use Rattle.early_report.proofs.drains.read_all.Goals as goal

abbrev no_place : PlaceNo
no_place = record { 0 = 0 }

pub loop-i-preserved : goal.loop-i-preserved
loop-i-preserved g c =
    let plan = g.C.Cells.plan c.args.cells.now in
    let s : ℕ = c.args.s.0 in
    let i : ℕ = c.loop-i.i in
    let ps : List PlaceNo = c.args.places.now in
    let xs : List FactSet = c.loop-i.sets in
    let x : FactSet = c.read_set.result in
    let p : PlaceNo = get_or ps i no_place in
    let n : Notes = g.C.Cells.notes c.loop-i.pass in
    let m : Notes = g.C.Cells.notes c.read_set.new.pass in
    let notes : m ≡ after_read plan n s p.0 x = c.read_set.ensures.notes in
    let l : i < length ps = c.loop-i-test.true in
    let l' : i < length xs = let size = c.loop-i.invariant.size in omega (arith, l, size) in
    let is : is_final plan n s p.0 ≡ true = ap (λ (n : Notes). is_final plan n s p.0) c.loop-i.invariant.same ∙ c.requires.finals i no_place l in
    record {
      area = c.read_set.ensures.area;
      size = length-set xs i x ∙ c.loop-i.invariant.size;
      same = notes ∙ ap (λ (k : Notes). record k { settled = (after_read plan n s p.0 x).settled; found = x ∷ n.found }) c.loop-i.invariant.same ∙ ap (λ (k : Notes). record (g.C.Cells.notes c.args.pass.now) { settled = k.settled; found = k.found }) (sym notes);
      reads = λ new rest h.
          let next = Reads-next plan s n new ps rest i p x l (get_or_default ps i p no_place l) c.read_set.ensures.found (subst (λ (k : Notes). Reads plan s k new (drop (i + 1) ps) rest) notes h) in
          subst (Reads plan s (g.C.Cells.notes c.args.pass.now) new ps)
          (sym (ap (λ (ys : List FactSet). ys ++ rest) (take_more_set xs i x l') ∙ append_assoc (take i xs) (x ∷ []) rest))
          (c.loop-i.invariant.reads new (x ∷ rest) next);
      known = λ k q y lt. dite (dec_le (k + 1) i)
          (λ low. ap (λ (o : Notes). o.settled s (get_or ps k q).0 (get_or (set xs i x) k y)) notes
          ∙ ap (λ (z : FactSet). (after_read plan n s p.0 x).settled s (get_or ps k q).0 z) (get_or-set_other xs i k x y (λ e. absurd (omega (arith, low, e))))
          ∙ read_keeps plan n s p.0 s (get_or ps k q).0 x (get_or xs k y) (c.loop-i.invariant.known k q y (omega (arith, low))))
          (λ high. let same : k ≡ i = omega (arith, high, lt) in
          subst (λ j. m.settled s (get_or ps j q).0 (get_or (set xs i x) j y) ≡ true) (sym same)
          (ap (λ (o : Notes). o.settled s (get_or ps i q).0 (get_or (set xs i x) i y)) notes
          ∙ ((λ j. (after_read plan n s p.0 x).settled s (get_or_default ps i q no_place l j).0 (get_or-set_same xs i x y l' j))
          ∙ read_known plan n s p.0 x is)));
    }

pub returns-clause-reads : goal.returns-clause-reads
returns-clause-reads g c =
    let plan = g.C.Cells.plan c.args.cells.now in
    let n : Notes = g.C.Cells.notes c.loop-i.pass in
    let all = c.loop-i-test.false in
    let size = c.loop-i.invariant.size in
    let whole : take c.loop-i.i c.loop-i.sets ++ [] ≡ c.loop-i.sets = append-nil (take c.loop-i.i c.loop-i.sets) ∙ take_all c.loop-i.i c.loop-i.sets (omega (arith, all, size)) in
    let none : drop c.loop-i.i c.args.places.now ≡ [] = drop_all c.loop-i.i c.args.places.now (omega (arith, all)) in
    subst (Reads plan c.args.s.0 (g.C.Cells.notes c.args.pass.now) n c.args.places.now) whole
    (c.loop-i.invariant.reads n [] (subst (λ (ps : List PlaceNo). Reads plan c.args.s.0 n n ps []) (sym none) refl))
