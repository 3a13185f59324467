-- The registers of decoded addresses.
use Rattle.std.specs.Prelude.{ℕ, ◌==◌, if◌then◌else◌}

-- the register that counts in an address where a field has r: 16, where there is none, for register 0
abbrev pub address_register : ℕ → ℕ
address_register r = if r == 0 then 16 else r
