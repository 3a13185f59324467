use Rattle.std.proofs.Common.{refl, sym, ap, ◌∙◌}
use Rattle.job_text.specs.Taken.{grammar_of}
use Rattle.job_text.specs.Pieces.{IsEnded}
use Rattle.job_input.proofs.IncomingLemmas.{told_reading, come_more, keep_on, end_on}
use Rattle.job_input.proofs.incoming.Incoming.take.Goals as goal

pub returns-then-has_ended-clause-come : goal.returns-then-has_ended-clause-come
returns-then-has_ended-clause-come c = λ bytes h.
    let k = c.keep.ensures in
    keep_on bytes c.args.piece.now c.args.self.now c.keep.new.self c.keep.result h (sym c.has_ended.ensures ∙ c.if-has_ended.true) k.reader k.form k.some k.none k.rest

pub returns-in-Ok-Ended-clause-come : goal.returns-in-Ok-Ended-clause-come
returns-in-Ok-Ended-clause-come c = λ bytes h.
    let k = c.keep-in-Ok-Ended.ensures in
    let used = c.in-Ok-Ended.used in
    let fed = rw c.in-Ok-Ended.field-0-is at (c.in-Ok-Ended.ensures.taken h.fed h.is_fed) in
    let ended = rw c.in-Ok-Ended.field-0-is at c.in-Ok-Ended.ensures.ended in
    let grammar = c.in-Ok-Ended.ensures.grammar in
    let feeds : IsEnded (grammar_of c.args.self.now.reader) h.fed c.args.piece.now used = rw c.in-Ok-Ended.field-0-is at (c.in-Ok-Ended.ensures.fed h.fed h.is_fed) in
    end_on bytes c.args.piece.now used c.args.self.now c.keep-in-Ok-Ended.new.self c.keep-in-Ok-Ended.result h (sym c.has_ended.ensures ∙ c.if-has_ended.false)
    (rw k.reader fed) (ap grammar_of k.reader ∙ grammar) (rw k.reader ended) feeds k.form k.some k.none k.rest

pub returns-in-Ok-More-clause-come : goal.returns-in-Ok-More-clause-come
returns-in-Ok-More-clause-come c = λ bytes h.
    let fed = rw c.in-Ok-More.field-0-is at (c.in-Ok-More.ensures.taken h.fed h.is_fed) in
    let ended = rw c.in-Ok-More.field-0-is at c.in-Ok-More.ensures.ended in
    come_more bytes c.args.piece.now c.args.self.now _ h (sym c.has_ended.ensures ∙ c.if-has_ended.false) fed c.in-Ok-More.ensures.grammar ended refl refl refl

pub returns-in-Err-clause-come : goal.returns-in-Err-clause-come
returns-in-Err-clause-come c = λ bytes h.
    come_more bytes c.args.piece.now c.args.self.now _ h (sym c.has_ended.ensures ∙ c.if-has_ended.false) (c.in-Err.ensures.failed h.fed h.is_fed) c.in-Err.ensures.grammar
    (told_reading c.feed.new.self c.in-Err.field-0 c.in-Err.ensures.told) refl refl refl
