use Rattle.job_input.proofs.TableLemmas.{TablesBefore}
use Rattle.job_input.proofs.tables.tables_in_order.Given as goal

abbrev pub invariant-loop-m : goal.invariant-loop-m
invariant-loop-m l = TablesBefore l.job l.m l.room l.tables.items
