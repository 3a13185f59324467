-- What a caller with a plan knows of the sets that an area ended with.
use Rattle.std.proofs.Common.{◌≡◌, ℕ, ◌*◌, ◌≤◌, [], length}
use Rattle.std.proofs.Math.Nat.{mul-le-mul_right}
use Rattle.cov_base.specs.Meaning.{is_full}
use Rattle.module_area.specs.Meaning.{PlanView, kind_at, window_at, FinalsView, set_at, full_pairs, full_places}
use Rattle.module_area.specs.Notes.{Notes}
use Rattle.module_area.specs.Ended.{HasSets}
use Rattle.module_area.proofs.CountLemmas.{pairs_by_place}
use Rattle.module_area.proofs.PlanLemmas.{over_whole}
use Rattle.module_area.proofs.StepLemmas.{full_some}

-- a session of the plan has all its sets
pub session_has_sets : (plan : PlanView) (notes : Notes) (finals : FinalsView) (s : ℕ) → HasSets plan notes finals → s ≤ plan.sessions → s * finals.places ≤ length finals.sets
session_has_sets plan notes finals s h within = rw (h.places, h.size) (mul-le-mul_right (length plan.places) within)

-- without controlled sessions the sessions and places whose set is full are the places whose whole session's is
pub pairs_are_places : (plan : PlanView) (notes : Notes) (finals : FinalsView) → plan.controlled ≡ [] → HasSets plan notes finals → full_pairs plan finals ≤ full_places plan finals
pairs_are_places plan notes finals none h = pairs_by_place (λ s p. is_full (kind_at plan p) (set_at finals s p)) (window_at plan) plan.sessions (length plan.places)
    (λ s p pos le lt full. let f = full_some (kind_at plan p) (set_at finals s p) full in over_whole plan s p none (h.over s p f.0 pos le lt f.1))
