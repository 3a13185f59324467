use Rattle.std.proofs.Common.{◌≡◌, ◌+◌, ◌%◌, ◌^◌, ◌<◌, ◌≤◌, length, sym, ap, ◌∙◌, subst}
use Rattle.atomic_table.specs.Table.{Allows}
use Rattle.module_area.specs.Meaning.{PlanView}
use Rattle.count_session.specs.Rule.{IsCounting, adding, notes_in}
use Rattle.count_session.proofs.WordLemmas.{count_there, count_behind}
use Rattle.count_session.proofs.StepLemmas.{add_allowed}
use Rattle.count_session.proofs.NoteLemmas.{add_notes}
use Rattle.count_session.specs.Words.{word_count, count_word}
use Rattle.count_session.proofs.cells.CountCells.add.Goals as goal

pub fetch_add-requires : goal.fetch_add-requires
fetch_add-requires c = let me = c.args.self.now in let seat = c.args.pass.now.seat in let n = length me.plan.places in let i = c.count_word-at.result in
    let at : i ≡ count_word n c.args.place.0 c.args.fact = c.count_word-at.ensures in
    let within : i < word_count me.plan = subst (λ k. k < word_count me.plan) (sym at) (count_there n c.args.place.0 c.args.fact c.requires.place) in
    let behind : n ≤ i = subst (λ k. n ≤ k) (sym at) (count_behind n c.args.place.0 c.args.fact) in (
      c.requires.area.0,
      subst (λ k. i < k) (sym me.wide) within,
      subst (λ (q : PlanView). Allows (IsCounting q) me.table.shared.table_id.slots seat.id seat.me i (λ w. (w + 1) % 2 ^ 64) (λ w m. (m.0 ≡ adding i seat.me.0) × (m.1 ≡ seat.me.1))) (sym me.keyed)
          (add_allowed me.plan me.table.shared.table_id.slots seat.id i seat.me c.requires.task c.args.pass.now.live c.requires.room behind within),
    )

pub invariant_of-pass : goal.invariant_of-pass
invariant_of-pass c = record { live = ap (λ v. v.live) c.fetch_add.ensures.2.0 ∙ c.args.pass.now.live }

pub returns-clause-area : goal.returns-clause-area
returns-clause-area c = (c.fetch_add.ensures.0 ∙ c.requires.area.0, c.fetch_add.ensures.2.1 ∙ c.requires.area.1)

pub returns-clause-notes : goal.returns-clause-notes
returns-clause-notes c = let me = c.args.self.now in let v = c.args.pass.now.seat.me.0 in
    ap (notes_in me.plan) c.fetch_add.ensures.2.0 ∙ (ap (λ k. notes_in me.plan (adding k v)) c.count_word-at.ensures ∙ add_notes me.plan c.args.place.0 c.args.fact c.requires.kind v)
