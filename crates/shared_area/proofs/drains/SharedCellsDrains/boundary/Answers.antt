use Rattle.std.proofs.Common.{◌≡◌, ◌+◌, ◌<◌, Bool, true, false, ℕ, if◌then◌else◌, ap, ◌∙◌, subst, arith}
use Rattle.module_area.specs.Rule.{last_tag}
use Rattle.module_area.specs.Parties.{role_task, bounding}
use Rattle.shared_area.specs.Passes.{HasWord}
use Rattle.shared_area.specs.Told.{notes_in}
use Rattle.shared_area.proofs.CallLemmas.{working_task, own_is, bound_at}
use Rattle.shared_area.proofs.NoteLemmas.{bound_notes}
use Rattle.shared_area.proofs.drains.SharedCellsDrains.boundary.Goals as goal

small : (ended : Bool) (k n : ℕ) → k ≡ (if ended then 1 else 2) → n < 4611686018427387904 → n + k < 18446744073709551616
small true k n e l = omega arith
small false k n e l = omega arith

pub fetch_add-requires : goal.fetch_add-requires
fetch_add-requires c = let me = c.args.self.now in let pass = c.args.pass.now in let its = working_task pass.seat.me.0 pass.tally c.requires.working in
    let own = subst (HasWord me.plan pass.word) its.1 c.requires.area.3 in
    let step = bound_at me pass.seat its.0 c.rise.result pass.word its.1 pass.live own.0 own.1
    (small c.args.ended c.rise.result (last_tag its.0 pass.seat.me.0.numbers) c.rise.ensures (subst (λ k. k < 4611686018427387904) (own_is pass.seat.me.0 pass.tally its.0 its.1) c.requires.room)) in
    (c.requires.area.0, step.0, step.1)

pub returns-clause-notes : goal.returns-clause-notes
returns-clause-notes c = let pass = c.args.pass.now in let v = pass.seat.me.0 in let told = c.fetch_add.ensures.2.0 in let its = working_task v pass.tally c.requires.working in let is_t = ap role_task its.1 in
    ap (λ z. notes_in z pass.tally) (told.after ∙ (λ i. bounding (is_t i) (c.fetch_add.result + c.rise.ensures i) v)) ∙ bound_notes its.0 c.fetch_add.result c.args.ended v pass.tally its.1 (told.own ∙ ap (λ u. last_tag u v.numbers) is_t)
