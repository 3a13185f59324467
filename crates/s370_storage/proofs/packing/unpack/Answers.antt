use Rattle.std.proofs.Common.{sym, refl}
use Rattle.s370_state.proofs.Laws.{passes, refuses}
use Rattle.s370_storage.proofs.packing.unpack.Goals as goal

pub returns-in-Err : goal.returns-in-Err
returns-in-Err g c = record { memory = refl; effect = sym (refuses _ _ _ _ _ (rw c.fields_of-o.ensures.fields at c.in-Err.ensures.tested.refused)) }

pub returns : goal.returns
returns g c = record {
  memory = c.unpack_bytes.ensures.memory;
  effect = rw (c.unpack_bytes.ensures.bytes, c.fields_of-o.ensures.fields) (sym (passes _ _ _ _ (rw c.fields_of-o.ensures.fields at c.in_default.ensures.tested.passed)));
}
