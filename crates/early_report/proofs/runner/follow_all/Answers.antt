use Rattle.std.proofs.Common.{◌≡◌, ℕ, ◌<◌, Bool, true, false, ◌||◌, length, get_or, take, refl, sym, ◌∙◌, ap, subst, arith}
use Rattle.std.proofs.Math.Bool.{or-false}
use Rattle.std.specs.List.{list_any}
use Rattle.std.proofs.lemmas.List.{get_or-set_other, length-set}
use Rattle.module_area.specs.Notes.{Notes}
use Rattle.early_report.specs.DrainView.{DrainView}
use Rattle.early_report.specs.Followed.{IsReady, is_begun}
use Rattle.early_report.proofs.FollowLemmas.{ready_looking, one_gone, any_set}
use Rattle.early_report.proofs.LookLemmas.{looking_trans}
use Rattle.early_report.proofs.runner.follow_all.Goals as goal
use Rattle.early_report.proofs.runner.follow_all.Goals.{then-follow, else-follow}

pub follow-requires-clause-ready : goal.follow-requires-clause-ready
follow-requires-clause-ready g c =
    let i : ℕ = c.loop-i.i in
    let d : DrainView = c.index_mut.result.now in
    let same : d ≡ get_or c.args.drains.now.items i d = c.index_mut.ensures.value ∙ c.loop-i.invariant.rest i d (omega arith) in
    let l : i < length c.args.drains.now.items = let a = c.loop-i-test.true in let e = c.len-i-end.ensures in let f = c.loop-i.invariant.count in omega (arith, a, e, f) in
    subst (IsReady c.args.plan.now (g.C.Cells.notes c.loop-i.pass) c.args.closed) (sym same)
    (ready_looking c.args.plan.now (g.C.Cells.notes c.args.pass.now) (g.C.Cells.notes c.loop-i.pass) c.loop-i.invariant.looking c.args.closed (get_or c.args.drains.now.items i d) (c.requires.ready i d l))

or_true : (b : Bool) → (b || true) ≡ true
or_true true = refl
or_true false = refl

pub loop-i-preserved : goal.loop-i-preserved
loop-i-preserved g c =
    let i : ℕ = c.loop-i.i in
    let n : Notes = g.C.Cells.notes c.loop-i.pass in
    let m : Notes = g.C.Cells.notes c.follow.new.pass in
    let d : DrainView = c.index_mut.result.now in
    let e : DrainView = c.follow.new.drain in
    let same : d ≡ get_or c.args.drains.now.items i d = c.index_mut.ensures.value ∙ c.loop-i.invariant.rest i d (omega arith) in
    let l : i < length c.args.drains.now.items = let a = c.loop-i-test.true in let e = c.len-i-end.ensures in let f = c.loop-i.invariant.count in omega (arith, a, e, f) in
    let l' : i < length c.loop-i.drains.items = let f = c.loop-i.invariant.count in omega (arith, l, f) in
    record {
      area = c.follow.ensures.area;
      count = length-set c.loop-i.drains.items i e ∙ c.loop-i.invariant.count;
      looking = looking_trans (g.C.Cells.notes c.args.pass.now) n m c.loop-i.invariant.looking c.follow.ensures.looking;
      rest = λ k x lt. get_or-set_other c.loop-i.drains.items i k e x (λ z. absurd (omega (arith, lt, z))) ∙ c.loop-i.invariant.rest k x (omega (arith, lt));
      gone = one_gone c.args.plan.now n m c.args.closed c.args.done i c.args.drains.now.items c.loop-i.drains.items d e c.follow.ensures.looking l' (sym same) c.follow.ensures.went c.loop-i.invariant.gone l;
      waits =
          let one = any_set (λ (d : DrainView). is_begun d.stage) c.loop-i.drains.items i e l' in
          let before : Bool = list_any (λ (d : DrainView). is_begun d.stage) (take i c.loop-i.drains.items) in
          elim c.if-follow.branch [
            | then-follow w ↦ w.waits-is ∙ sym (one ∙ (ap (λ b. before || b) (sym c.follow.ensures.waits ∙ w.if-follow.true) ∙ or_true before))
            | else-follow w ↦ w.waits-is ∙ (c.loop-i.invariant.waits ∙ sym (one ∙ (ap (λ b. before || b) (sym c.follow.ensures.waits ∙ w.if-follow.false) ∙ or-false before)))
          ];
    }
