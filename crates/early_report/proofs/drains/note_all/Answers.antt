use Rattle.std.proofs.Common.{◌≡◌, ℕ, ◌+◌, ◌<◌, List, [], ◌∷◌, ◌++◌, length, get_or, map, take, drop, refl, sym, ◌∙◌, ap, subst, arith}
use Rattle.std.proofs.lemmas.List.{append_assoc, append-nil, drop_all, length-map, take_all, take_more_set}
use Rattle.cov_base.specs.declared.numbers.TaskNo.{TaskNo}
use Rattle.module_area.specs.Notes.{Notes}
use Rattle.module_area.specs.Rule.{has_task}
use Rattle.early_report.specs.Drains.{Begins}
use Rattle.early_report.proofs.LookLemmas.{no_entry, same_task, tasks_stay, Begins-next, task_at}
use Rattle.early_report.proofs.drains.note_all.Goals as goal

pub note-number-requires-clause-task : goal.note-number-requires-clause-task
note-number-requires-clause-task g c =
    let i : ℕ = c.loop-i.i in
    let l : i < length c.args.entries.now = omega arith in
    let same = same_task c.loop-i.entries c.args.entries.now i c.loop-i.invariant.tasks (omega arith) l in
    ap (λ (t : TaskNo). has_task (g.C.Cells.plan c.args.cells.now).tasks t.0) same ∙ c.requires.tasks i no_entry l

pub loop-i-preserved : goal.loop-i-preserved
loop-i-preserved g c =
    let i : ℕ = c.loop-i.i in
    let l : i < length c.args.entries.now = omega arith in
    let l' : i < length c.loop-i.entries = omega arith in
    let t : TaskNo = (get_or c.loop-i.entries i no_entry).0 in
    let same = same_task c.loop-i.entries c.args.entries.now i c.loop-i.invariant.tasks l' l in
    record {
      area = c.note-number.ensures.area;
      tasks = tasks_stay c.loop-i.entries i c.note-number.result ∙ c.loop-i.invariant.tasks;
      begins = λ new rest h.
          let next = Begins-next (g.C.Cells.notes c.loop-i.pass) new (map (λ (e : TaskNo × ℕ). e.0) c.args.entries.now) rest i c.note-number.result t
          (let size = length-map c.args.entries.now (λ (e : TaskNo × ℕ). e.0) in omega (arith, size, l)) (task_at c.args.entries.now i t l ∙ sym same) c.note-number.ensures.word
          (subst (λ (n : Notes). Begins n new (drop (i + 1) (map (λ (e : TaskNo × ℕ). e.0) c.args.entries.now)) rest) c.note-number.ensures.notes h) in
          subst (Begins (g.C.Cells.notes c.args.pass.now) new (map (λ (e : TaskNo × ℕ). e.0) c.args.entries.now))
          (sym (ap (λ (es : List (TaskNo × ℕ)). es ++ rest) (take_more_set c.loop-i.entries i (t, c.note-number.result) l') ∙ append_assoc (take i c.loop-i.entries) ((t, c.note-number.result) ∷ []) rest))
          (c.loop-i.invariant.begins new ((t, c.note-number.result) ∷ rest) next);
    }

pub returns-clause-begins : goal.returns-clause-begins
returns-clause-begins g c =
    let n : Notes = g.C.Cells.notes c.loop-i.pass in
    let ts : List TaskNo = map (λ (e : TaskNo × ℕ). e.0) c.args.entries.now in
    let all = c.loop-i-test.false in
    let size = length-map c.args.entries.now (λ (e : TaskNo × ℕ). e.0) in
    let whole : take c.loop-i.i c.loop-i.entries ++ [] ≡ c.loop-i.entries = append-nil (take c.loop-i.i c.loop-i.entries) ∙ take_all c.loop-i.i c.loop-i.entries (omega arith) in
    let none : drop c.loop-i.i ts ≡ [] = drop_all c.loop-i.i ts (omega (arith, size, all)) in
    subst (Begins (g.C.Cells.notes c.args.pass.now) n ts) whole (c.loop-i.invariant.begins n [] (subst (λ (us : List TaskNo). Begins n n us []) (sym none) refl))
