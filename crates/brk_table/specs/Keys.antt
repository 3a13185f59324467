-- By which number an instruction is found where a task goes on.
use Rattle.std.specs.Prelude.{ℕ, ◌==◌, if◌then◌else◌}
use Rattle.cov_base.specs.declared.constants.TheConstants.{RETURN_ADDRESS}

-- its address; but 2^24, which is no address, where it stands at the return address, at which a task executes nothing
abbrev pub key_of : ℕ → ℕ
key_of at = if at == RETURN_ADDRESS then 16777216 else at
