-- What services are behind the instructions of their task.
use Rattle.std.specs.Prelude.{◌≡◌, ℕ}
use Rattle.cov_base.specs.Meaning.{CpuView}
use Rattle.s370_state.specs.Meaning.{machine_of}
use Rattle.s370_state.specs.declared.space.Space as space
use Rattle.s370_state.specs.declared.endings.Next.{Next}
use Rattle.s370_state.specs.declared.endings.Next.TheVariants.{On}
use Rattle.task_run.specs.Hooks.{Way}
use Rattle.task_run.specs.Meaning.{Behind}
use Rattle.task_services.specs.Meaning.{Served, by_next, called, gone_back}
use Rattle.task_services.specs.declared.services.Services.{Services}

abbrev pub served : Services → Served
served h = record { services = h.services.now; caller = h.caller }

abbrev pub as_served : CpuView → Next → Services → Behind Served
as_served cpu next h = record { cpu = cpu; next = next; key = served h }

-- at a call of this number the machine stood so, and this is what has become of it
abbrev pub HasCalled : {P : Type 0} → space.Ghosts P → P → ℕ → Services → CpuView → Services → CpuView → Next → Type 0
HasCalled by s number old cpu new cpu' next =
    as_served cpu' next new ≡ called old.services.now (by.memory s) (machine_of cpu (by.bytes s)) number old.caller

abbrev pub HasGoneBack : Services → Services → CpuView → CpuView → Type 0
HasGoneBack old new cpu cpu' = as_served cpu' On new ≡ gone_back old.services.now cpu old.caller

-- the course depends on the services and the caller, and the pass stays
abbrev pub service_way : (O P : Type 0) → Way Services O P
service_way O P = record {
  Key = Served;
  key = served;
  after = by_next;
  IsSet = λ h o p c done. Unit {0};
  Aside = λ h o p c done q later. q ≡ p;
}
