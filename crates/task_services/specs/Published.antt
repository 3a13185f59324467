-- The number that docs/MACHINE.md publishes. Contracts cite the constant, so that a wrong one would change what they say: it is
-- refused here.
use Rattle.std.specs.Prelude.{◌≡◌, refl}
use Rattle.task_services.specs.declared.services.TheConstants.{SERVICE_RETURN}

pub service_return_is : SERVICE_RETURN ≡ 16777212
service_return_is = refl
