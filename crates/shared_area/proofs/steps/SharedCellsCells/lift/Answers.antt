use Rattle.std.proofs.Common.{◌≡◌, ◌+◌, Bool, true, false, nat_eq, refl, ap, ◌∙◌, arith}
use mir.Val.{bool_byte}
use Rattle.module_area.specs.Rule.{lifting}
use Rattle.shared_area.specs.Told.{notes_in}
use Rattle.shared_area.specs.Words.{word_of}
use Rattle.shared_area.proofs.CallLemmas.{one_of, cell_there, lift_at, lifted_is, lift_live}
use Rattle.shared_area.proofs.NoteLemmas.{pair_there}
use Rattle.shared_area.proofs.StayLemmas.{same_within, same_task}
use Rattle.shared_area.proofs.steps.SharedCellsCells.lift.Goals as goal

byte-is : (b : Bool) → bool_byte b ≡ one_of b
byte-is true = refl
byte-is false = refl

pub compare_exchange-found-requires : goal.compare_exchange-found-requires
compare_exchange-found-requires c = let me = c.args.self.now in (
  c.requires.area.0,
  cell_there me c.args.place.0 c.requires.place,
  lift_at me c.args.pass.now.seat c.args.s.0 c.args.place.0 c.window_word-old.result c.window_word-new.result (let o = c.original.ensures.value in let b = c.original.type_inv in omega arith) c.args.pass.now.live c.requires.place c.requires.session
      (pair_there c.args.s.0 c.args.place.0 c.args.pass.now.seat.me.0.full c.requires.full) c.window_word-old.ensures (c.window_word-new.ensures ∙ ap (word_of c.args.s.0) c.original.ensures.value),
)

pub invariant_of-pass : goal.invariant_of-pass
invariant_of-pass c = let pass = c.args.pass.now in let did : Bool = nat_eq c.compare_exchange-found.result c.window_word-old.result in
    let h = lift_live c.args.s.0 c.args.place.0 _ _ (bool_byte did) did pass.seat.me.0 _ (lifted_is c.args.pass.now.seat.me.0 _ c.args.s.0 c.args.place.0 c.window_word-old.result c.compare_exchange-found.result c.requires.session c.window_word-old.ensures c.compare_exchange-found.ensures.2.0).after (byte-is did) record { live = pass.live; counted = pass.counted; given = pass.given } in
    record { live = h.live; counted = h.counted; given = h.given }

pub returns-clause-again : goal.returns-clause-again
returns-clause-again c = (lifted_is c.args.pass.now.seat.me.0 _ c.args.s.0 c.args.place.0 c.window_word-old.result c.compare_exchange-found.result c.requires.session c.window_word-old.ensures c.compare_exchange-found.ensures.2.0).again

pub returns-clause-area : goal.returns-clause-area
returns-clause-area c = let v = c.args.pass.now.seat.me.0 in let told = lifted_is v _ c.args.s.0 c.args.place.0 c.window_word-old.result c.compare_exchange-found.result c.requires.session c.window_word-old.ensures c.compare_exchange-found.ensures.2.0 in
    let after = lifting c.args.s.0 c.args.place.0 (nat_eq c.compare_exchange-found.result c.window_word-old.result) v in (
      c.compare_exchange-found.ensures.0 ∙ c.requires.area.0,
      c.compare_exchange-found.ensures.2.1 ∙ c.requires.area.1,
      same_within c.args.self.now.plan v _ after told.after refl c.requires.area.2,
      same_task c.args.self.now.plan c.args.pass.now.word v _ after told.after refl c.requires.area.3,
    )

pub returns-clause-notes : goal.returns-clause-notes
returns-clause-notes c = let pass = c.args.pass.now in let did : Bool = nat_eq c.compare_exchange-found.result c.window_word-old.result in
    ap (λ n. notes_in c.compare_exchange-found.new.seat.me.0 (record pass.tally { lifts = pass.tally.lifts + n })) (byte-is did)
    ∙ ap (λ v. notes_in v (record pass.tally { lifts = pass.tally.lifts + one_of did })) (lifted_is c.args.pass.now.seat.me.0 _ c.args.s.0 c.args.place.0 c.window_word-old.result c.compare_exchange-found.result c.requires.session c.window_word-old.ensures c.compare_exchange-found.ensures.2.0).after
