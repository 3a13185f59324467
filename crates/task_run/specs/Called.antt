-- The supervisor calls of instructions.
use Rattle.std.specs.Prelude.{ℕ, ◌/◌, ◌%◌, if◌then◌else◌, ◌==◌, Option, Some, None}

-- the number of the call, by the first halfword of the instruction, where that is SVC, whose operation code is X'0A'
abbrev pub call_at : ℕ → Option ℕ
call_at h = if h / 256 == 10 then Some (h % 256) else None
