use Rattle.std.proofs.Common.{◌≡◌, ℕ, ◌+◌, ◌-◌, ◌≤◌, List, [], ◌∷◌, ◌++◌, false, length, take, drop, suc, refl, ap, subst, sym, ◌∙◌, arith, append_assoc, append-nil, length-take, length-drop, nat_eq, position, None}
use Rattle.std.proofs.lemmas.Result.{err_from_is_err_and}
use Rattle.job_text.specs.Steps.{is_done, step}
use Rattle.job_text.specs.Pieces.{IsTold}
use Rattle.job_text.specs.Taken.{IsNext, IsFaultOf, HasTaken}
use Rattle.job_text.specs.declared.jobs.JobFault.{JobFault}
use Rattle.job_text.specs.Meaning.{Present}
use Rattle.job_text.specs.declared.pieces.Pieces.{Pieces}
use Rattle.job_text.proofs.EndedLines.{LfNext, lf_next, lf_none, used_all}
use Rattle.job_text.proofs.LineLemmas.{ended_line}
use Rattle.job_text.proofs.Readings.{taken_few, taken_on, line_taken, line_told, rest_taken, no_memory_told, is_open, is_ended}
use Rattle.job_text.proofs.pieces.Pieces.feed.Goals as goal

pub loop-size-init : goal.loop-size-init
loop-size-init c = record {
  inside = omega arith;
  taken = λ before h. subst (λ (x : List ℕ). HasTaken x c.args.self.now) (sym (append-nil {A = ℕ} before)) h;
  grammar = refl;
  reading = c.requires.reading;
}

pub ended_line-requires-clause-few : goal.ended_line-requires-clause-few
ended_line-requires-clause-few c =
    let t = c.loop-size.invariant.taken c.requires.taken.0 c.requires.taken.1 in
    let few = taken_few _ c.loop-size.self t in
    let on = taken_on c.requires.taken.0 (take c.loop-size.used c.args.piece.now) c.args.self.now c.loop-size.self c.requires.taken.1 t in
    omega (arith, few, on, length-take c.loop-size.used c.args.piece.now, c.requires.room)

pub ended_line-requires-clause-room : goal.ended_line-requires-clause-room
ended_line-requires-clause-room c =
    let t = c.loop-size.invariant.taken c.requires.taken.0 c.requires.taken.1 in
    let on = taken_on c.requires.taken.0 (take c.loop-size.used c.args.piece.now) c.args.self.now c.loop-size.self c.requires.taken.1 t in
    omega (
      arith,
      on,
      length-take c.loop-size.used c.args.piece.now,
      c.requires.room,
      c.loop-size.invariant.inside,
      length-take (c.loop-size.used + c.in-Some.size - c.loop-size.used) (drop c.loop-size.used c.args.piece.now),
      length-drop c.loop-size.used c.args.piece.now,
    )

told_at : (before piece : List ℕ) (used size : ℕ) (p : Pieces) (e : JobFault) → LfNext piece used size → HasTaken (before ++ take used piece) p → is_done p.taken.reader.part ≡ false →
    IsFaultOf (step Present p.taken.reader (ended_line (p.cut.items ++ take (used + size - used) (drop used piece)))) (p.taken.lines + 1) e → IsTold p.taken.grammar (before ++ piece) e
told_at before piece used size p e n t reading f =
    let same : used + size - used ≡ size = omega arith in
    let line : List ℕ = take size (drop used piece) in
    let rest : List ℕ = drop (suc size) (drop used piece) in
    let whole : (before ++ take used piece) ++ (line ++ 10 ∷ rest) ≡ before ++ piece = append_assoc before (take used piece) (line ++ 10 ∷ rest) ∙ ap (λ (x : List ℕ). before ++ x) (sym n.whole) in
    subst (λ (x : List ℕ). IsTold p.taken.grammar x e) whole (line_told (before ++ take used piece) line rest p e n.partial t reading (rw same at f))

pub returns-in_err-ended_line-clause-fed : goal.returns-in_err-ended_line-clause-fed
returns-in_err-ended_line-clause-fed c = let p = err_from_is_err_and c.from_residual.result c.from_residual.ensures.1 in rw p.1 tt

pub returns-in_err-ended_line-clause-fault : goal.returns-in_err-ended_line-clause-fault
returns-in_err-ended_line-clause-fault c = λ before h.
    let p = err_from_is_err_and c.from_residual.result c.from_residual.ensures.1 in
    let n = lf_next c.args.piece.now c.loop-size.used c.in-Some.size c.loop-size.invariant.inside (sym c.in-Some.ensures) in
    rw (p.1, p.2, ← c.loop-size.invariant.grammar) (told_at before c.args.piece.now c.loop-size.used c.in-Some.size c.loop-size.self _ n (c.loop-size.invariant.taken before h) c.loop-size.invariant.reading c.in_err-ended_line.ensures.fault)

pub overflow_add-used-in-Some-2 : goal.overflow_add-used-in-Some-2
overflow_add-used-in-Some-2 c =
    let n = lf_next c.args.piece.now c.loop-size.used c.in-Some.size c.loop-size.invariant.inside (sym c.in-Some.ensures) in
    omega (arith, n.inside, c.requires.room)

taken_at : (before piece : List ℕ) (used size : ℕ) (p q : Pieces) → LfNext piece used size → HasTaken (before ++ take used piece) p →
    IsNext p.taken q.taken (ended_line (p.cut.items ++ take (used + size - used) (drop used piece))) → q.cut.items ≡ [] → HasTaken (before ++ take (used + (size + 1)) piece) q
taken_at before piece used size p q n t next none =
    let same : used + size - used ≡ size = omega arith in
    let line : List ℕ = take size (drop used piece) in
    let whole : (before ++ take used piece) ++ (line ++ 10 ∷ []) ≡ before ++ take (used + (size + 1)) piece = append_assoc before (take used piece) (line ++ 10 ∷ []) ∙ ap (λ (x : List ℕ). before ++ x) (sym n.taken) in
    subst (λ (x : List ℕ). HasTaken x q) whole (line_taken (before ++ take used piece) line p q n.partial t (rw same at next) none)

pub returns-then-is_done-clause-fed : goal.returns-then-is_done-clause-fed
returns-then-is_done-clause-fed c =
    let n = lf_next c.args.piece.now c.loop-size.used c.in-Some.size c.loop-size.invariant.inside (sym c.in-Some.ensures) in
    let grammar = c.in_ok-ended_line.ensures.next.grammar ∙ c.loop-size.invariant.grammar in
    let done = sym c.is_done.ensures ∙ c.if-is_done.true in
    let inside : c.loop-size.used + (c.in-Some.size + 1) ≤ length c.args.piece.now = omega (arith, n.inside) in
    let taken : (before : List ℕ) → HasTaken before c.args.self.now → HasTaken (before ++ take (c.loop-size.used + (c.in-Some.size + 1)) c.args.piece.now) c.ended_line.new.self =
    λ before h. taken_at before c.args.piece.now c.loop-size.used c.in-Some.size c.loop-size.self c.ended_line.new.self n (c.loop-size.invariant.taken before h) c.in_ok-ended_line.ensures.next c.in_ok-ended_line.ensures.none in
    record {
      taken = taken;
      fed = λ before h. rw (← grammar) (is_ended before c.args.piece.now (c.loop-size.used + (c.in-Some.size + 1)) c.ended_line.new.self (omega arith) inside (taken before h) done);
      grammar = grammar;
      used = inside;
      ended = done;
    }

pub loop-size-preserved : goal.loop-size-preserved
loop-size-preserved c =
    let n = lf_next c.args.piece.now c.loop-size.used c.in-Some.size c.loop-size.invariant.inside (sym c.in-Some.ensures) in
    record {
      inside = omega (arith, n.inside);
      taken = λ before h. taken_at before c.args.piece.now c.loop-size.used c.in-Some.size c.loop-size.self c.ended_line.new.self n (c.loop-size.invariant.taken before h) c.in_ok-ended_line.ensures.next c.in_ok-ended_line.ensures.none;
      grammar = c.in_ok-ended_line.ensures.next.grammar ∙ c.loop-size.invariant.grammar;
      reading = sym c.is_done.ensures ∙ c.if-is_done.false;
    }

-- no LF is left

rest_at : (before piece : List ℕ) (used : ℕ) (p q : Pieces) → position (λ b. nat_eq b 10) (take (length piece - used) (drop used piece)) ≡ None → HasTaken (before ++ take used piece) p → is_done p.taken.reader.part ≡ false →
    q.taken ≡ p.taken → q.cut.items ≡ p.cut.items ++ take (length piece - used) (drop used piece) → HasTaken (before ++ piece) q
rest_at before piece used p q none t reading same cut =
    let still : is_done q.taken.reader.part ≡ false = rw same reading in
    subst (λ (x : List ℕ). HasTaken x q) (used_all before piece used) (rest_taken (before ++ take used piece) (take (length piece - used) (drop used piece)) p q (lf_none piece used none) t same cut still)

pub returns-in_err-extend_from_slice-clause-fed : goal.returns-in_err-extend_from_slice-clause-fed
returns-in_err-extend_from_slice-clause-fed c =
    let p = err_from_is_err_and c.from_residual-in_err-extend_from_slice.result c.from_residual-in_err-extend_from_slice.ensures.1 in
    rw p.1 tt

pub returns-in_err-extend_from_slice-clause-fault : goal.returns-in_err-extend_from_slice-clause-fault
returns-in_err-extend_from_slice-clause-fault c = λ before h.
    let p = err_from_is_err_and c.from_residual-in_err-extend_from_slice.result c.from_residual-in_err-extend_from_slice.ensures.1 in
    rw (p.1, p.2) (no_memory_told c.args.self.now.taken.grammar (before ++ c.args.piece.now))

pub returns-clause-fed : goal.returns-clause-fed
returns-clause-fed c =
    let q : Pieces = record { taken = c.loop-size.self.taken; cut = c.extend_from_slice.new.self } in
    let reading = c.loop-size.invariant.reading in
    let all : length c.args.piece.now ≤ length c.args.piece.now = omega arith in
    let taken : (before : List ℕ) → HasTaken before c.args.self.now → HasTaken (before ++ c.args.piece.now) q =
    λ before h. rest_at before c.args.piece.now c.loop-size.used c.loop-size.self q (sym c.in_default.ensures) (c.loop-size.invariant.taken before h) reading refl c.in_ok-extend_from_slice.ensures.items in
    record {
      taken = taken;
      fed = λ before h. rw (← c.loop-size.invariant.grammar) (is_open (before ++ c.args.piece.now) q (taken before h) reading);
      grammar = c.loop-size.invariant.grammar;
      used = all;
      ended = reading;
    }
