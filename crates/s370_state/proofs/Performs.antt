-- The two ways of a row: a test ends it, or its outcome comes, by the data that was read.
use Rattle.std.proofs.Common.{◌≡◌, Bool, true, false, Option, Some, None, List, [], refl, ap}
use Rattle.cov_base.specs.Meaning.{Machine, Memory}
use Rattle.s370_state.specs.Meaning.{Use, Outcome, Program, on_data, perform, finish, tests, use_tests, all_reached, all_stored, touched, after_tests}
use Rattle.s370_state.specs.declared.endings.Ending.{Ending}
use Rattle.s370_state.specs.declared.endings.Ending.TheVariants.{Abend}
use Rattle.s370_state.specs.declared.endings.Next.TheVariants.{Ended}

-- no registers to be tested and no operand
pub at_once : (m : Memory) (s : Machine) (o : Outcome) → perform m s (record { well = true; uses = []; outcome = o }) ≡ finish s o
unfolding perform tests use_tests all_reached all_stored touched
at_once m s o = refl

pub passes : (m : Memory) (s : Machine) (us : List Use) (o : Outcome) → use_tests m us ≡ None → perform m s (record { well = true; uses = us; outcome = o }) ≡ finish s o
unfolding perform tests
passes m s us o h = ap (after_tests s o) h

pub refuses : (m : Memory) (s : Machine) (us : List Use) (o : Outcome) (e : Ending) → use_tests m us ≡ Some e → perform m s (record { well = true; uses = us; outcome = o }) ≡ record { machine = s; next = Ended e }
unfolding perform tests
refuses m s us o e h = ap (after_tests s o) h

-- registers, lengths or alignment are wrong
pub ill_formed : (m : Memory) (s : Machine) (well : Bool) (us : List Use) (o : Outcome) → well ≡ false → perform m s (record { well = well; uses = us; outcome = o }) ≡ record { machine = s; next = Ended (Abend 6) }
unfolding perform tests
ill_formed m s true us o h = let e : true ≡ false = h in absurd cc
ill_formed m s false us o h = refl

pub well_at_once : (m : Memory) (s : Machine) (well : Bool) (o : Outcome) → well ≡ true → perform m s (record { well = well; uses = []; outcome = o }) ≡ finish s o
unfolding perform tests use_tests all_reached all_stored touched
well_at_once m s true o h = refl
well_at_once m s false o h = let e : false ≡ true = h in absurd cc

pub well_passes : (m : Memory) (s : Machine) (well : Bool) (us : List Use) (o : Outcome) → well ≡ true → use_tests m us ≡ None → perform m s (record { well = well; uses = us; outcome = o }) ≡ finish s o
unfolding perform tests
well_passes m s true us o w h = ap (after_tests s o) h
well_passes m s false us o w h = let e : false ≡ true = w in absurd cc

pub well_refuses : (m : Memory) (s : Machine) (well : Bool) (us : List Use) (o : Outcome) (e : Ending) → well ≡ true → use_tests m us ≡ Some e → perform m s (record { well = well; uses = us; outcome = o }) ≡ record { machine = s; next = Ended e }
unfolding perform tests
well_refuses m s true us o e w h = ap (after_tests s o) h
well_refuses m s false us o e w h = let q : false ≡ true = w in absurd cc

pub good_data : {A : Type 0} (q : Option A) (f : A → Outcome) (x : A) → q ≡ Some x → on_data q f ≡ f x
unfolding on_data
good_data q f x h = ap (λ p. on_data p f) h

pub bad_data : {A : Type 0} (q : Option A) (f : A → Outcome) → q ≡ None → on_data q f ≡ Program 7
unfolding on_data
bad_data q f h = ap (λ p. on_data p f) h
