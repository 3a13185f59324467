-- What the calls of a space answer.
use Rattle.std.specs.Prelude.{ℕ, if◌then◌else◌, Option, Some, None, Result, Ok, Err, List}
use Rattle.cov_base.specs.Meaning.{Memory, can_reach, can_store, first_touch, half_at}
use Rattle.s370_state.specs.declared.endings.Ending.{Ending}
use Rattle.s370_state.specs.declared.endings.Ending.TheVariants.{Abend, Touched}
use Rattle.s370_state.specs.declared.space.Refused.{Refused}
use Rattle.s370_state.specs.declared.space.Refused.TheVariants.{Addressing, Protection, Touch}

abbrev pub reach_answer : Memory → ℕ → ℕ → Result (Unit {0}) Refused
reach_answer m a n = if can_reach m a n then Ok tt else Err Addressing

abbrev pub store_answer : Memory → ℕ → ℕ → Result (Unit {0}) Refused
store_answer m a n = if can_store m a n then Ok tt else Err Protection

abbrev pub touch_or_ok : Option ℕ → Result (Unit {0}) Refused
touch_or_ok None = Ok tt
touch_or_ok (Some a) = Err (Touch a)

abbrev pub touch_answer : Memory → ℕ → ℕ → Result (Unit {0}) Refused
touch_answer m a n = touch_or_ok (first_touch m a n)

abbrev pub first_answer : Memory → List ℕ → ℕ → Result ℕ Refused
first_answer m bytes a = if can_reach m a 2 then Ok (half_at m bytes a) else Err Addressing

abbrev pub half_answer : Memory → List ℕ → ℕ → Result ℕ Refused
half_answer m bytes a =
    if can_reach m a 2 then (if m.is_touch a then Err (Touch a) else Ok (half_at m bytes a)) else Err Addressing

abbrev pub ending_of : Refused → Ending
ending_of Addressing = Abend 5
ending_of Protection = Abend 4
ending_of (Touch a) = Touched a
