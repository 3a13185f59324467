use Rattle.std.proofs.Common.{◌++◌, ap, subst, sym, ◌∙◌, arith}
use Rattle.job_text.specs.Pieces.{used_of}
use Rattle.job_text.specs.Taken.{IsFed, stage_of, grammar_of, fed_size}
use Rattle.job_text.proofs.Readings.{told_more, fed_on}
use Rattle.job_text.proofs.reader.JobReader.feed.Goals as goal

pub invariant_of-self : goal.invariant_of-self
invariant_of-self c =
    let h = rw c.in-None.is at c.self.invariant.fed in
    let k = c.in-Ok.ensures.fed.taken c.self.invariant.bytes h in
    let size = ap fed_size (sym c.self.view_is ∙ ap (λ f. stage_of c.self.inside.pieces f) c.in-None.is) in
    rw c.in-None.is (record {
      bytes = c.self.invariant.bytes ++ used_of c.args.piece.now c.in-Ok.fed;
      fed = k;
      small = omega (arith, fed_on c.self.invariant.bytes c.args.piece.now c.self.inside.pieces c.feed.new.self c.in-Ok.fed h k, c.requires.room, size);
    })

pub invariant_of-self-in-Err : goal.invariant_of-self-in-Err
invariant_of-self-in-Err c =
    let h = rw c.in-None.is at c.self.invariant.fed in
    record { bytes = c.self.invariant.bytes ++ c.args.piece.now; fed = c.in-Err.ensures.fault c.self.invariant.bytes h; small = omega arith }

pub returns-in-Some-clause-fault : goal.returns-in-Some-clause-fault
returns-in-Some-clause-fault c = λ before h.
    let is = sym c.self.view_is ∙ ap (λ f. stage_of c.self.inside.pieces f) c.in-Some.is in
    rw (ap grammar_of is) (told_more before c.args.piece.now c.in-Some.fault (subst (IsFed before) is h))

pub returns-in-Some-clause-failed : goal.returns-in-Some-clause-failed
returns-in-Some-clause-failed c = λ before h.
    let is = sym c.self.view_is ∙ ap (λ f. stage_of c.self.inside.pieces f) c.in-Some.is in
    subst (IsFed (before ++ c.args.piece.now)) (sym is) (told_more before c.args.piece.now c.in-Some.fault (subst (IsFed before) is h))

pub returns-in-Ok-clause-size : goal.returns-in-Ok-clause-size
returns-in-Ok-clause-size c =
    let h = rw c.in-None.is at c.self.invariant.fed in
    let was = ap fed_size (sym c.self.view_is ∙ ap (λ f. stage_of c.self.inside.pieces f) c.in-None.is) in
    let now = ap (λ f. fed_size (stage_of c.feed.new.self f)) c.in-None.is in
    omega (arith, fed_on c.self.invariant.bytes c.args.piece.now c.self.inside.pieces c.feed.new.self c.in-Ok.fed h (c.in-Ok.ensures.fed.taken c.self.invariant.bytes h), was, now)
