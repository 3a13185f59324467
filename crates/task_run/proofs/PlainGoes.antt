-- What an instruction that is neither EX nor SVC does behind its visit.
use Rattle.std.proofs.Common.{◌≡◌, ℕ, true, None, refl, ◌∙◌}
use Rattle.brk_table.specs.Meaning.{TablesView}
use Rattle.s370_decode.specs.Meaning.{first_half, op_of}
use Rattle.s370_decode.specs.declared.code.Code.{Code}
use Rattle.s370_decode.specs.declared.op.Op.{Op}
use Rattle.s370_exec.specs.Effects.{effect_of, executed, is_plain}
use Rattle.s370_state.specs.Meaning.{machine_of}
use Rattle.s370_state.specs.declared.endings.Next.{Next}
use Rattle.task_run.specs.Steps.{GoesOn, IsFetched, memory_at}
use Rattle.task_run.specs.declared.bench.Bench.{Bench}
use Rattle.task_run.specs.declared.observer.Observer as observer
use Rattle.task_run.proofs.FetchedLemmas.{step-other, call-other}
use Rattle.task_run.proofs.PlainLemmas.{plain_execute, plain_call}

pub plain_goes : {O P : Type 0} (by : observer.Ghosts O P) (o : O) (t : TablesView) (p : P) (b new : Bench) (done : ℕ) (c : Code) (op : Op) (next : Next) → IsFetched b c → op ≡ op_of (first_half c) → is_plain op ≡ true
    → memory_at new ≡ memory_at b → effect_of new.cpu new.space.bytes new.io next ≡ executed c None (memory_at b) (machine_of b.cpu b.space.bytes) b.io → by.Answers o p b.control None p new.control → GoesOn by o t p b done p new next
plain_goes by o t p b new done c op next fetched of plain memory made none =
    let other = plain_execute (first_half c) op of plain in
    record {
      memory = memory;
      does = λ first shown. rw
          (step-other b done c fetched (effect_of new.cpu new.space.bytes new.io next) other made, call-other b done c fetched other ∙ plain_call (first_half c) op of plain)
          (record {
            state = refl;
            next = refl;
            mid = p;
            made = shown;
            answered = none;
          });
    }
