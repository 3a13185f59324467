-- An instruction, and what a hook has done behind it.
use Rattle.std.proofs.Common.{◌≡◌, ℕ, ◌+◌, Option, List, sym, ◌∙◌, ap, subst}
use Rattle.cov_base.specs.Meaning.{Visit, State}
use Rattle.brk_table.specs.Meaning.{TablesView}
use Rattle.module_area.specs.Meaning.{ControlView}
use Rattle.s370_exec.specs.Meaning.{call_of, solo_step}
use Rattle.s370_exec.specs.Solo.{state_of}
use Rattle.s370_state.specs.declared.endings.Next.{Next}
use Rattle.task_run.specs.Meaning.{step_behind, turn_of, with_cpu}
use Rattle.task_run.specs.Hooks.{Way, DoesBehind}
use Rattle.task_run.specs.Runs.{Takes, stand}
use Rattle.task_run.specs.Steps.{StepsAs, memory_at, stands}
use Rattle.task_run.specs.declared.bench.Bench.{Bench}

-- from this stand an instruction was done, and what is done behind it
module _ {H O P : Type 0} {makes : O → TablesView → P → List Visit → P → Type 0} {answers : O → P → ControlView → Option ℕ → P → ControlView → Type 0} {way : Way H O P}
    {o : O} {t : TablesView} {done : ℕ} {h : H} {p : P} {old : Bench} {q : P} {mid : Bench} {next : Next} {g : H} {r : P} {new : Bench} {result : Next}
    (steps : StepsAs makes answers o t p old done q mid next) (does : DoesBehind way o h q mid (done + 1) next g r new result) where
  pub hooked_memory : memory_at new ≡ memory_at old
  hooked_memory = ap (λ (b : Bench). memory_at b) does.bench ∙ steps.memory

  pub hooked_turn : Takes makes answers way.Aside o t (done + 1) (turn_of (memory_at old) (stands old done)) (stand h p old) (stand g r new)
  hooked_turn = record {
    visited = steps.does.mid;
    made = steps.does.made;
    called = q;
    answered = subst (λ (c : ControlView). answers o steps.does.mid old.control (call_of (memory_at old) (stands old done)) q c) (sym (ap (λ (b : Bench). b.control) does.bench)) steps.does.answered;
    hooked = does.aside;
  }

  pub hooked_step : step_behind way.after (memory_at old) (way.key h) (stands old done) ≡ record { cpu = new.cpu; next = result; key = way.key g }
  hooked_step =
      (λ j. way.after (way.key h) (sym steps.memory j) (steps.does.state j).machine (steps.does.next j)) ∙ does.course

  pub hooked_state : with_cpu (solo_step (memory_at old) (stands old done)).state new.cpu ≡ stands new (done + 1)
  hooked_state =
      ap (λ (s : State). with_cpu s new.cpu) steps.does.state ∙ ap (λ (b : Bench). state_of new.cpu b.space.bytes b.io (done + 1)) (sym does.bench)
