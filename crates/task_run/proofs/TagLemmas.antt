-- The tag that a task's calls have given a place last, by the calls alone.
use Rattle.std.proofs.Common.{◌≡◌, ℕ, ◌==◌, Bool, true, false, if◌then◌else◌, Option, Some, None, List, [], ◌∷◌, refl, ◌∙◌, ap}
use Rattle.cov_base.specs.declared.numbers.SessNo.{SessNo}
use Rattle.module_area.specs.Meaning.{PlanView, ControlView, to_open, control_after}
use Rattle.module_area.specs.Notes.{Notes}
use Rattle.module_area.specs.Control.{after_open, after_end, after_call}
use Rattle.task_run.specs.Meaning.{tag_opened, tag_closed, tag_after, tag_by}
use Rattle.task_run.specs.Controlled.{notes_by}

open_last : (plan : PlanView) (p : ℕ) (n : Notes) (o : Option SessNo) → (after_open plan n o).last p ≡ tag_opened plan p (n.last p) o
open_last plan p n None = refl
open_last plan p n (Some s) = refl

end_last : (plan : PlanView) (p : ℕ) (n : Notes) (o : Option SessNo) → (after_end plan n o).last p ≡ tag_closed plan p (n.last p) o
end_last plan p n None = refl
end_last plan p n (Some s) = refl

by_call : (p : ℕ) (four five : Bool) (n a b : Notes) (x y : ℕ) → a.last p ≡ x → b.last p ≡ y → (if four then a else (if five then b else n)).last p ≡ (if four then x else (if five then y else n.last p))
by_call p true five n a b x y opened ended = opened
by_call p false true n a b x y opened ended = ended
by_call p false false n a b x y opened ended = refl

call_last : (plan : PlanView) (p : ℕ) (n : Notes) (c : ControlView) (call : Option ℕ) → (after_call plan n c call).last p ≡ tag_after plan p c (n.last p) call
call_last plan p n c None = refl
call_last plan p n c (Some k) = by_call p (k == 4) (k == 5) n (after_open plan n (to_open c)) (after_end plan n c.opened) _ _ (open_last plan p n (to_open c)) (end_last plan p n c.opened)

-- the last tag of a pass after the calls
pub tag_last : (plan : PlanView) (p : ℕ) (n : Notes) (c : ControlView) (calls : List (Option ℕ)) → (notes_by plan n c calls).last p ≡ tag_by plan p c (n.last p) calls
tag_last plan p n c [] = refl
tag_last plan p n c (k ∷ ks) = tag_last plan p (after_call plan n c k) (control_after c k) ks ∙ ap (λ (tag : ℕ). tag_by plan p (control_after c k) tag ks) (call_last plan p n c k)
