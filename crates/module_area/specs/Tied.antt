-- How a pass stands to the control of its task.
use Rattle.std.specs.Prelude.{◌≡◌, ℕ, ◌+◌, ◌*◌, ◌^◌, ◌<◌, ◌≤◌, Bool, true, not, ◌&&◌, nat_eq, Option, Some, None, length, take, drop, All, AllPairs}
use Rattle.std.specs.List.{list_any}
use Rattle.cov_base.specs.declared.numbers.SessNo.{SessNo}
use Rattle.module_area.specs.Meaning.{PlanView, ControlledView, ControlView, places_under, has_session}
use Rattle.module_area.specs.Notes.{Notes, calls}

-- The controlled session is the pass's own: its task's, or for the root that of a task whose pass isn't out.
abbrev pub keeps_session_as : PlanView → Option ℕ → (ℕ → Bool) → ℕ → Bool
keeps_session_as plan (Some t) out s = list_any (λ (c : ControlledView). nat_eq c.session s && nat_eq c.by t) plan.controlled
keeps_session_as plan None out s = list_any (λ (c : ControlledView). nat_eq c.session s && not (out c.by)) plan.controlled

abbrev pub keeps_session : PlanView → Notes → ℕ → Bool
keeps_session plan n s = keeps_session_as plan n.bears n.out s

-- The pass keeps exactly the sessions of the control, which rise; the open one is before the next; it was planted last
-- at each of its places, and those not yet opened are later than what was planted or closed last at theirs.
pub record IsTied (plan : PlanView) (n : Notes) (c : ControlView) : Type 0 where
  pub keeps : (s : ℕ) → has_session c.sessions s ≡ keeps_session plan n s
  pub rising : AllPairs (λ s t. s.0 < t.0) c.sessions
  pub next : c.next ≤ length c.sessions
  pub opened : (s : SessNo) → c.opened ≡ Some s → has_session (take c.next c.sessions) s.0 ≡ true
  pub planted : (s : SessNo) → c.opened ≡ Some s → All (λ p. n.last p.0 + 1 ≡ 2 * s.0) (places_under plan s.0)
  pub later : All (λ s. All (λ p. n.last p.0 + 1 < 2 * s.0) (places_under plan s.0)) (drop c.next c.sessions)

-- What opening and closing a session ask: the pass is one of the area of this plan, with room for the calls of a session, and
-- is tied to the control.
pub record CanChange (is_pass : Type 0) (of_area own : PlanView) (n : Notes) (c : ControlView) : Type 0 where
  pub area : is_pass
  pub plan : of_area ≡ own
  pub room : calls n < 2 ^ 61 + 2 ^ 16
  pub tied : IsTied own n c
