-- What opening a session and closing one change in a pass.
use Rattle.std.specs.Prelude.{ℕ, ◌+◌, ◌-◌, ◌*◌, ◌==◌, if◌then◌else◌, Option, Some, None, List, length}
use Rattle.cov_base.specs.declared.numbers.PlaceNo.{PlaceNo}
use Rattle.cov_base.specs.declared.numbers.SessNo.{SessNo}
use Rattle.module_area.specs.Meaning.{PlanView, has_place, ControlView, places_under, to_open, gives}
use Rattle.module_area.specs.Notes.{Notes}

-- the pass once it planted, or closed, the session at all these places
abbrev pub after_plants : Notes → ℕ → List PlaceNo → Notes
after_plants n s places = record n {
  seen = λ q. if has_place places q then 2 * s - 1 else n.seen q;
  last = λ q. if has_place places q then 2 * s - 1 else n.last q;
  beats = gives (2 * s - 1) places n.beats;
  tally = record n.tally { plants = n.tally.plants + length places };
}

abbrev pub after_closes : Notes → ℕ → List PlaceNo → Notes
after_closes n s places = record n {
  seen = λ q. if has_place places q then 2 * s else n.seen q;
  last = λ q. if has_place places q then 2 * s else n.last q;
  beats = gives (2 * s) places n.beats;
  tally = record n.tally { closes = n.tally.closes + length places };
}

-- the pass once it opened, or closed, this session, if there is one
abbrev pub after_open : PlanView → Notes → Option SessNo → Notes
after_open plan n None = n
after_open plan n (Some s) = after_plants n s.0 (places_under plan s.0)

abbrev pub after_end : PlanView → Notes → Option SessNo → Notes
after_end plan n None = n
after_end plan n (Some s) = after_closes n s.0 (places_under plan s.0)

-- the pass after a supervisor call, if the instruction was one: SVC 4 opens, SVC 5 closes, and no other changes a session
abbrev pub after_call : PlanView → Notes → ControlView → Option ℕ → Notes
after_call plan n c None = n
after_call plan n c (Some k) = if k == 4 then after_open plan n (to_open c) else (if k == 5 then after_end plan n c.opened else n)
