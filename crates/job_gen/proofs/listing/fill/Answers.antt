use Rattle.std.proofs.Common.{◌-◌, ◌≤◌, ◌++◌, ap, arith}
use Rattle.arrayvec.specs.ArrayVec.{array_vec_len}
use Rattle.std.proofs.lemmas.List.{take-replicate}
use Rattle.job_gen.proofs.listing.fill.Goals as goal

pub returns-clause-items : goal.returns-clause-items
returns-clause-items c =
    let few : c.args.columns - array_vec_len c.args.line.now ≤ 160 = omega arith in
    rw (c.add_text.ensures.items, c.len.ensures.value) (ap (λ xs. c.args.line.now.items ++ xs) (take-replicate _ 160 32 few))
