-- What the root knows once places are planted.
use Rattle.std.specs.Prelude.{ℕ, ◌+◌, ◌-◌, ◌*◌, nat_eq, nat_lt, if◌then◌else◌, ◌&&◌, not, count_by, take}
use Rattle.module_area.specs.Meaning.{PlanView, window_at, window_beats}
use Rattle.module_area.specs.Notes.{Notes}

-- each of the first n places with a window was planted once, and nothing else was done
abbrev pub planted_notes : PlanView → Notes → ℕ → Notes
planted_notes plan notes n = record notes {
  seen = λ p. if nat_lt p n && not (nat_eq (window_at plan p) 0) then 2 * window_at plan p - 1 else notes.seen p;
  last = λ p. if nat_lt p n && not (nat_eq (window_at plan p) 0) then 2 * window_at plan p - 1 else notes.last p;
  beats = window_beats plan notes.beats n;
  tally = record notes.tally { plants = notes.tally.plants + count_by (λ w. not (nat_eq w 0)) (take n plan.windows) };
}
