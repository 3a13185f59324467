-- Instructions that are neither EX nor SVC.
use Rattle.std.proofs.Common.{◌≡◌, ℕ, ◌/◌, ◌%◌, ◌==◌, Bool, true, false, if◌then◌else◌, Some, None, refl, ap, ◌∙◌}
use Rattle.std.proofs.lemmas.Bool.{eqb-true}
use Rattle.s370_decode.specs.Meaning.{op_in, op_of, operations}
use Rattle.s370_decode.specs.declared.op.Op.{Op}
use Rattle.s370_decode.specs.declared.op.Op.TheVariants.{EX, SVC}
use Rattle.s370_exec.specs.Effects.{is_plain}
use Rattle.s370_exec.specs.Meaning.{is_execute}
use Rattle.task_run.specs.Called.{call_at}

ex_is : op_in operations 68 ≡ EX
unfolding op_in operations
ex_is = refl

svc_is : op_in operations 10 ≡ SVC
unfolding op_in operations
svc_is = refl

no_execute : (h : ℕ) (op : Op) (b : Bool) → op ≡ op_of h → is_plain op ≡ true → is_execute h ≡ b → is_execute h ≡ false
no_execute h op true of plain is =
    let same : op ≡ EX = of ∙ (ap (op_in operations) (eqb-true (h / 256) 68 is) ∙ ex_is) in
    let e : is_plain op ≡ false = ap is_plain same in
    absurd cc
no_execute h op false of plain is = is

pub plain_execute : (h : ℕ) (op : Op) → op ≡ op_of h → is_plain op ≡ true → is_execute h ≡ false
plain_execute h op of plain = no_execute h op (is_execute h) of plain refl

no_call : (h : ℕ) (op : Op) (b : Bool) → op ≡ op_of h → is_plain op ≡ true → (h / 256 == 10) ≡ b → (if b then Some (h % 256) else None) ≡ None
no_call h op true of plain is =
    let same : op ≡ SVC = of ∙ (ap (op_in operations) (eqb-true (h / 256) 10 is) ∙ svc_is) in
    let e : is_plain op ≡ false = ap is_plain same in
    absurd cc
no_call h op false of plain is = refl

pub plain_call : (h : ℕ) (op : Op) → op ≡ op_of h → is_plain op ≡ true → call_at h ≡ None
plain_call h op of plain = no_call h op (h / 256 == 10) of plain refl
