-- The root stays the first party.
use Rattle.std.proofs.Common.{◌≡◌, ℕ, zero, suc, List, [], ◌∷◌, ◌++◌, set, sym, refl, ap, ◌∙◌}
use mathlib.Core.Option.{some, some-injective, some-ne-none}
use lib.ListN.{get_elem?}
use Rattle.module_area.specs.declared.parties.View.{View}
use Rattle.module_area.specs.declared.parties.Role.{Role}
use Rattle.module_area.specs.declared.parties.Role.TheVariants.{Root, Task}
use Rattle.shared_area.specs.Rule.{IsRooted}

-- a party goes on in its role
pub rooted_set : (views : List View) (id : ℕ) (v w : View) → get_elem? views id ≡ some v → w.role ≡ v.role → IsRooted views → IsRooted (set views id w)
rooted_set [] id v w at same r = absurd (some-ne-none r.0 (sym r.1))
rooted_set (x ∷ xs) zero v w at same r =
    let first : x ≡ v = some-injective x v at in
    let root : x ≡ r.0 = some-injective x r.0 r.1 in
    (w, refl, same ∙ (ap (λ (u : View). u.role) (sym first ∙ root) ∙ r.2))
rooted_set (x ∷ xs) (suc n) v w at same r = (r.0, r.1, r.2)

-- another comes
pub rooted_more : (views : List View) (w : View) → IsRooted views → IsRooted (views ++ w ∷ [])
rooted_more [] w r = absurd (some-ne-none r.0 (sym r.1))
rooted_more (x ∷ xs) w r = (r.0, r.1, r.2)

no_task : (t : ℕ) (q : Role) → q ≡ Task t → q ≡ Root → ⊥
no_task t q task root = let e : Task t ≡ Root = sym task ∙ root in cc

-- a task's pass ends
pub rooted_other : (views : List View) (k t : ℕ) (o w : View) → get_elem? views k ≡ some o → o.role ≡ Task t → IsRooted views → IsRooted (set views k w)
rooted_other [] k t o w at bears r = absurd (some-ne-none r.0 (sym r.1))
rooted_other (x ∷ xs) zero t o w at bears r =
    let first : x ≡ o = some-injective x o at in
    let root : x ≡ r.0 = some-injective x r.0 r.1 in
    absurd (no_task t o.role bears (ap (λ (u : View). u.role) (sym first ∙ root) ∙ r.2))
rooted_other (x ∷ xs) (suc n) t o w at bears r = (r.0, r.1, r.2)
