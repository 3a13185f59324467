-- An operation whose tests have passed: by what its fields hold, or by code 7.
use Rattle.std.proofs.Common.{◌≡◌, Bool, true, Option, Some, None, List, ap, sym, ◌∙◌}
use Rattle.cov_base.specs.Meaning.{Machine, Memory}
use Rattle.s370_state.specs.Meaning.{Use, Outcome, on_data, perform, finish, use_tests}
use Rattle.s370_state.specs.declared.endings.Ending.TheVariants.{Abend}
use Rattle.s370_state.specs.declared.endings.Next.TheVariants.{Ended}
use Rattle.s370_state.proofs.Laws.{well_passes, good_data, bad_data}

pub good : {A : Type 0} (m : Memory) (s : Machine) (well : Bool) (us : List Use) (q : Option A) (f : A → Outcome) (x : A) →
    well ≡ true → use_tests m us ≡ None → Some x ≡ q → perform m s (record { well = well; uses = us; outcome = on_data q f }) ≡ finish s (f x)
good m s well us q f x w h e = well_passes m s well us (on_data q f) w h ∙ ap (finish s) (good_data q f x (sym e))

pub bad : {A : Type 0} (m : Memory) (s : Machine) (well : Bool) (us : List Use) (q : Option A) (f : A → Outcome) →
    well ≡ true → use_tests m us ≡ None → None ≡ q → perform m s (record { well = well; uses = us; outcome = on_data q f }) ≡ record { machine = s; next = Ended (Abend 7) }
bad m s well us q f w h e = well_passes m s well us (on_data q f) w h ∙ ap (finish s) (bad_data q f (sym e))
