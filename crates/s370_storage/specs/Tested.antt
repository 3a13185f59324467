-- What holds of operands whose tests have passed.
use Rattle.std.specs.Prelude.{◌≡◌, ℕ, ◌+◌, ◌<◌, true}
use Rattle.cov_base.specs.Meaning.{Memory, can_reach, can_store}
use Rattle.s370_storage.specs.declared.long.Long.{Long}
use Rattle.s370_storage.specs.declared.packing.Fields.{Fields}

-- both fields have at most 16 bytes; all are accessible, and those of the results private
pub record AreOpen (m : Memory) (o : Fields) : Type 0 where
  pub to : o.to_last < 16
  pub from : o.from_last < 16
  pub reach : can_reach m o.to (o.to_last + 1) ≡ true
  pub store : can_store m o.to (o.to_last + 1) ≡ true
  pub source : can_reach m o.from (o.from_last + 1) ≡ true

-- two long operands in pairs that begin with these registers
pub record InPairs (r q : ℕ) (o : Long) : Type 0 where
  pub first_register : r < 15
  pub second_register : q < 15
  pub first_length : o.first_length < 16777216
  pub second_length : o.second_length < 16777216
