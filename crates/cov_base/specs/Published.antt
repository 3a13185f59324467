-- The numbers that docs/JOB.md and docs/MACHINE.md publish. Contracts cite the constants, so that a wrong one would change what
-- they say: it is refused here.
use Rattle.std.specs.Prelude.{◌≡◌, refl}
use Rattle.cov_base.specs.declared.constants.TheConstants.{BREAKPOINT, INPUT_LIMIT, RETURN_ADDRESS}
use Rattle.cov_base.specs.declared.limits.TheConstants.{MODULE_LIMIT, SIZE_LIMIT, LINE_LIMIT, PLACE_LIMIT, PHASE_LIMIT, SESSION_LIMIT, TASK_LIMIT, PRIVATE_LIMIT, BUDGET_LIMIT, ROOM_LIMIT}

pub breakpoint_is : BREAKPOINT ≡ 2815
breakpoint_is = refl

pub return_is : RETURN_ADDRESS ≡ 16777214
return_is = refl

pub input_is : INPUT_LIMIT ≡ 16777216
input_is = refl

pub modules_are : MODULE_LIMIT ≡ 16
modules_are = refl

pub size_is : SIZE_LIMIT ≡ 262144
size_is = refl

pub line_is : LINE_LIMIT ≡ 150
line_is = refl

pub places_are : PLACE_LIMIT ≡ 65536
places_are = refl

pub phases_are : PHASE_LIMIT ≡ 16
phases_are = refl

pub sessions_are : SESSION_LIMIT ≡ 16
sessions_are = refl

pub tasks_are : TASK_LIMIT ≡ 64
tasks_are = refl

pub private_is : PRIVATE_LIMIT ≡ 1048576
private_is = refl

pub budget_is : BUDGET_LIMIT ≡ 50000000
budget_is = refl

pub room_is : ROOM_LIMIT ≡ 65536
room_is = refl
