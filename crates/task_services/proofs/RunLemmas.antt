-- A task that began as its card says, and has run to its end.
use Rattle.std.proofs.Common.{◌≡◌, ℕ, ◌<◌, List, [], ◌∷◌, length, refl, sym, ◌∙◌, ap, subst, arith}
use Rattle.cov_base.specs.Meaning.{State, Visit}
use Rattle.module_area.specs.Meaning.{PlanView}
use Rattle.module_area.specs.declared.places.Place.{Place}
use Rattle.task_run.specs.Meaning.{Tour, visits_of, Course, solo}
use Rattle.task_run.specs.Steps.{memory_at, stands}
use Rattle.task_run.specs.declared.bench.Bench.{Bench}
use Rattle.task_run.specs.declared.task.TaskEnd.{TaskEnd}
use Rattle.session_book.specs.Meaning.{JobView, task_of}
use Rattle.phase_plan.specs.Meaning.{first_state, of_task, plan_view, task_memory}
use Rattle.session_book.specs.declared.services.Service.{Service}
use Rattle.task_services.specs.Meaning.{course_of, with_services}
use Rattle.task_services.specs.Ends.{RanAlong}

-- a job's course, as a test for services finds it

pub course_without : (ss : List Service) → length ss ≡ 0 → course_of ss ≡ solo
course_without [] none = refl
course_without (s ∷ ss) none = absurd (omega (arith, none))

pub course_with : (ss : List Service) → 0 < length ss → course_of ss ≡ with_services ss
course_with [] some = absurd (omega (arith, some))
course_with (s ∷ ss) some = refl

-- the end is that of task t's run along the course, and the pass has made its visits
pub record RanOf {P : Type 0} (course : Course) (makes : P → List Visit → P → Type 0) (j : JobView) (places : List Place) (t : ℕ) (p : P) (end : TaskEnd) (q : P) : Type 0 where
  pub ending : (of_task course j places t).ending ≡ end.ending
  pub done : (of_task course j places t).state.done ≡ end.done
  pub address : (of_task course j places t).at ≡ end.at
  pub made : makes p (visits_of (of_task course j places t).turns) q

pub ran_of : {P : Type 0} {makes : P → List Visit → P → Type 0} {p : P} {budget : ℕ} {old : Bench} {end : TaskEnd} {new : Bench} {q : P} {given_to : List Service} (services : List Service) (j : JobView) (places : List Place) (t : ℕ) →
    RanAlong (course_of given_to) makes p budget old end new q → given_to ≡ services → memory_at old ≡ task_memory j places t → stands old 0 ≡ first_state (task_of j t) → budget ≡ (task_of j t).budget →
    RanOf (course_of services) makes j places t p end q
ran_of {P} {makes} {p} {budget} {old} {end} {new} {q} {given_to} services j places t ran same memory first most =
    let plan : PlanView = plan_view j places (task_of j t).phase in
    let its : course_of given_to plan (memory_at old) budget (stands old 0) ≡ of_task (course_of services) j places t = λ i. course_of (same i) plan (memory i) (most i) (first i) in
    record {
      ending = sym (ap (λ (r : Tour). r.ending) its) ∙ ran.ending plan;
      done = sym (ap (λ (r : Tour). r.state.done) its) ∙ ap (λ (s : State). s.done) (ran.state plan);
      address = sym (ap (λ (r : Tour). r.at) its) ∙ ran.address plan;
      made = subst (λ (r : Tour). makes p (visits_of r.turns) q) its (ran.made plan);
    }
