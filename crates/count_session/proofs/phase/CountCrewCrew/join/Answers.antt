use Rattle.std.proofs.Common.{ℕ, ◌∷◌, [], List, sym, ◌∙◌, ap, subst, arith, length-append}
use Rattle.cov_base.specs.declared.numbers.TaskNo.{TaskNo}
use Rattle.module_area.specs.Meaning.{place_of}
use Rattle.job_run.specs.Crews.{PhaseView, all_tasks, phase_at, tasks_before}
use Rattle.job_run.proofs.Laws.{before_one}
use Rattle.count_session.specs.Notes.{CountNotes}
use Rattle.count_session.specs.Passes.{plan_in}
use Rattle.count_session.specs.Phases.{HasJoined}
use Rattle.count_session.proofs.PassLemmas.{count_more}
use Rattle.count_session.proofs.phase.CountCrewCrew.join.Goals as goal

pub returns-clause-root : goal.returns-clause-root
returns-clause-root c =
    let me = c.args.self.now in
    let p : PhaseView = phase_at me.job.now me.phase in
    let t : ℕ = c.args.task.0 in
    let r = c.requires.root in
    let is = c.join.ensures.notes in
    subst (λ (ts : List TaskNo). HasJoined me.cells.now me.job.now me.tables.now.places c.join.new.root (all_tasks p) ts) (sym (before_one p t c.requires.task)) (record {
      area = c.join.ensures.area;
      is = ap (λ (n : CountNotes). n.root) is ∙ r.is;
      planted = λ q l. ap (λ (n : CountNotes). n.planted q) is ∙ r.planted q l;
      given = ap (λ (n : CountNotes). n.given) is ∙ r.given;
      passes = (let long = length-append (tasks_before p t) (record { 0 = t } ∷ []) in let sum = ap (λ (n : CountNotes). n.passes) is in let before = r.passes in let one = c.requires.run.one in omega arith);
      added = λ q f l w.
          let sum = ap (λ (n : CountNotes). n.added q f) is in
          let before = r.added q f l w in
          let more = c.requires.run.added q f l w in
          let all = count_more me.job.now me.tables.now.places (place_of (plan_in me.cells.now).places q) f (tasks_before p t) t in
          omega (arith, sum, before, more, all);
    })
