use Rattle.std.proofs.Common.{◌≡◌, ◌<◌, ℕ, Result, Ok, Err, IfOk, IfErr, List, [], length, arith}
use Rattle.std.proofs.lemmas.Bool.Decides.{nat_tests}
use Rattle.std.proofs.lemmas.List.{nil_from_length}
use Rattle.job_text.specs.Meaning.{lines_of}
use Rattle.job_text.specs.Refusals.{IsRefused}
use Rattle.job_text.specs.Taken.{IsNext, IsFaultAt, HasRun, HasTaken}
use Rattle.job_text.specs.declared.jobs.JobFault.{JobFault}
use Rattle.job_text.specs.declared.pieces.Pieces.{Pieces}
use Rattle.job_text.specs.declared.taken.Taken.{Taken}
use Rattle.job_text.proofs.LineLemmas.{open_line}
use Rattle.job_text.proofs.Readings.{taken_few, nothing_left, last_taken, last_refused}
use Rattle.job_text.proofs.pieces.Pieces.last_line.Goals as goal

pub returns-then-is_empty-clause-ran : goal.returns-then-is_empty-clause-ran
returns-then-is_empty-clause-ran c =
    let none : c.args.self.now.cut.items ≡ [] = nil_from_length c.args.self.now.cut.items (grind (arith, nat_tests, c.args.self.now.cut.ok, c.is_empty.ensures, c.if-is_empty.true)) in
    λ bytes h. nothing_left bytes c.args.self.now none h

pub line-requires-clause-few : goal.line-requires-clause-few
line-requires-clause-few c = omega (arith, taken_few c.requires.taken.0 c.args.self.now c.requires.taken.1, c.requires.room)

ran : {A E : Type 0} (bytes : List ℕ) (p : Pieces) (t : Taken) (a : Result A E) → 0 < length p.cut.items → HasTaken bytes p → IfOk a (λ u. IsNext p.taken t (open_line p.cut.items)) → IfOk a (λ u. HasRun bytes t)
ran bytes p t (Ok u) some h n = last_taken bytes p t some h n
ran bytes p t (Err e) some h n = tt

refused : {A : Type 0} (bytes : List ℕ) (p : Pieces) (a : Result A JobFault) → 0 < length p.cut.items → HasTaken bytes p → IfErr a (IsFaultAt p.taken (open_line p.cut.items)) → IfErr a (IsRefused p.taken.grammar (lines_of bytes))
refused bytes p (Ok u) some h f = tt
refused bytes p (Err e) some h f = last_refused bytes p e some h f

pub returns-clause-ran : goal.returns-clause-ran
returns-clause-ran c =
    let some : 0 < length c.args.self.now.cut.items = grind (arith, nat_tests, c.args.self.now.cut.ok, c.is_empty.ensures, c.if-is_empty.false) in
    λ bytes h. ran bytes c.args.self.now c.line.new.self c.line.result some h (rw c.deref.ensures.value at c.line.ensures.next)

pub returns-clause-fault : goal.returns-clause-fault
returns-clause-fault c =
    let some : 0 < length c.args.self.now.cut.items = grind (arith, nat_tests, c.args.self.now.cut.ok, c.is_empty.ensures, c.if-is_empty.false) in
    λ bytes h. refused bytes c.args.self.now c.line.result some h (rw c.deref.ensures.value at c.line.ensures.fault)
