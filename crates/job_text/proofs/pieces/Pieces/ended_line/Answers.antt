use Rattle.std.proofs.Common.{◌≡◌, Result, Ok, Err, IfOk, [], arith}
use Rattle.std.proofs.lemmas.Bool.Decides.{nat_tests}
use Rattle.std.proofs.lemmas.List.{nil_from_length}
use Rattle.job_text.proofs.pieces.Pieces.ended_line.Goals as goal

pub returns-then-is_empty-clause-next : goal.returns-then-is_empty-clause-next
returns-then-is_empty-clause-next c =
    let none : c.args.self.now.cut.items ≡ [] = nil_from_length c.args.self.now.cut.items (grind (arith, nat_tests, c.args.self.now.cut.ok, c.is_empty.ensures, c.if-is_empty.true)) in
    rw none c.line.ensures.next

always : {T E : Type 0} {P : Type 0} (r : Result T E) → P → IfOk r (λ u. P)
always (Ok u) p = p
always (Err e) p = tt

pub returns-then-is_empty-clause-none : goal.returns-then-is_empty-clause-none
returns-then-is_empty-clause-none c =
    let none : c.args.self.now.cut.items ≡ [] = nil_from_length c.args.self.now.cut.items (grind (arith, nat_tests, c.args.self.now.cut.ok, c.is_empty.ensures, c.if-is_empty.true)) in
    always c.line.result none

pub returns-then-is_empty-clause-fault : goal.returns-then-is_empty-clause-fault
returns-then-is_empty-clause-fault c =
    let none : c.args.self.now.cut.items ≡ [] = nil_from_length c.args.self.now.cut.items (grind (arith, nat_tests, c.args.self.now.cut.ok, c.is_empty.ensures, c.if-is_empty.true)) in
    rw none c.line.ensures.fault
