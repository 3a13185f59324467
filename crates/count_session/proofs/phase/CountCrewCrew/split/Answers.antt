use Rattle.std.proofs.Common.{ℕ, ◌∷◌, [], List, sym, ◌∙◌, ap, subst, arith, length-append}
use Rattle.cov_base.specs.declared.numbers.TaskNo.{TaskNo}
use Rattle.job_run.specs.Crews.{PhaseView, phase_at, tasks_before}
use Rattle.job_run.proofs.Laws.{before_one, few_before}
use Rattle.count_session.specs.Notes.{CountNotes}
use Rattle.count_session.specs.Phases.{HasJoined}
use Rattle.count_session.proofs.phase.CountCrewCrew.split.Goals as goal

pub split-requires-clause-room : goal.split-requires-clause-room
split-requires-clause-room c =
    let me = c.args.self.now in
    omega (arith, c.requires.root.given, few_before (phase_at me.job.now me.phase) c.args.task.0 c.requires.task.exists, c.requires.task.exists, c.requires.fit.job.tasks)

pub returns-clause-root : goal.returns-clause-root
returns-clause-root c =
    let me = c.args.self.now in
    let p : PhaseView = phase_at me.job.now me.phase in
    let t : ℕ = c.args.task.0 in
    let r = c.requires.root in
    let is = c.split.ensures.notes in
    subst (λ (ts : List TaskNo). HasJoined me.cells.now me.job.now me.tables.now.places c.split.new.root ts []) (sym (before_one p t c.requires.task)) (record {
      area = c.split.ensures.area;
      is = ap (λ (n : CountNotes). n.root) is ∙ r.is;
      planted = λ q l. ap (λ (n : CountNotes). n.planted q) is ∙ r.planted q l;
      given = (let long = length-append (tasks_before p t) (record { 0 = t } ∷ []) in let one = ap (λ (n : CountNotes). n.given) is in let before = r.given in omega arith);
      passes = ap (λ (n : CountNotes). n.passes) is ∙ r.passes;
      added = λ q f l w. ap (λ (n : CountNotes). n.added q f) is ∙ r.added q f l w;
    })

pub returns-clause-fresh : goal.returns-clause-fresh
returns-clause-fresh c =
    let is = c.split.ensures.fresh in
    record {
      area = c.split.ensures.split;
      task = ap (λ (n : CountNotes). n.root) is;
      one = ap (λ (n : CountNotes). n.passes) is;
      planted = λ q l. ap (λ (n : CountNotes). n.planted q) is ∙ c.requires.root.planted q l;
      nothing = ap (λ (n : CountNotes). n.adds) is;
      added = λ q f. ap (λ (n : CountNotes). n.added q f) is;
    }
