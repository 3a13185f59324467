-- What a job's phases come to.
use Rattle.std.proofs.Common.{◌≡◌, ℕ, ◌-◌, ◌<◌, ◌≤◌, Bool, true, false, ◌&&◌, nat_eq, if◌then◌else◌, List, [], length, get_or, refl, sym, ◌∙◌, ap, subst, arith, eq-eqb}
use Rattle.std.specs.List.{list_any}
use Rattle.std.proofs.lemmas.List.{get_or-map, length-map}
use Rattle.cov_base.specs.declared.facts.Fact.{Fact}
use Rattle.module_area.specs.Meaning.{place_of, window_at}
use Rattle.module_area.specs.declared.places.Place.{Place}
use Rattle.task_services.specs.Meaning.{course_of}
use Rattle.session_book.specs.Meaning.{JobView, session_of, no_session, observes}
use Rattle.phase_plan.specs.Meaning.{traces_from, plan_view}
use Rattle.session_book.specs.JobView.{IsJob}
use Rattle.session_book.specs.Sessions.{AreWhole}
use Rattle.job_run.specs.Meaning.{trace_by}
use Rattle.job_run.proofs.Laws.{window_at-session, phase_in, all_ended}
use Rattle.count_session.specs.Meaning.{count_of_all, session_count}
use Rattle.count_session.specs.Job.{IsCountedJob, count_of}
use Rattle.count_session.specs.Phases.{AreCounted}
use Rattle.count_session.specs.Slots.{CountSlot}
use Rattle.job_run.specs.Slots.{dones}
use Rattle.job_run.specs.Tasks.{AreRun, done_result, no_result, results_of}
use Rattle.count_session.specs.Tallied.{count_in}
use Rattle.count_session.specs.declared.counts.PlaceCount.{PlaceCount}

is_count : (j : JobView) (places : List Place) (counts : List (List PlaceCount)) → IsJob j → AreWhole j → AreCounted j places (length j.phases) counts → (s p : ℕ) (f : Fact) → 0 < s → s ≤ length j.sessions → p < length places →
    count_of (record { job = j; places = places; phases = counts }) s p f ≡ session_count j places s p f
is_count j places counts job whole a s p f some most l = by_module (list_any (nat_eq (place_of places p).«module») (session_of j s).modules) refl
  where
    by_module : (b : Bool) → list_any (nat_eq (place_of places p).«module») (session_of j s).modules ≡ b → count_of (record { job = j; places = places; phases = counts }) s p f ≡ session_count j places s p f
    by_module b e =
        let phase : ℕ = (session_of j s).phase in
        let seen : observes phase (place_of places p).«module» (session_of j s) ≡ b = ap (λ (q : Bool). q && list_any (nat_eq (place_of places p).«module») (session_of j s).modules) (eq-eqb phase phase refl) ∙ e in
        ap (λ (q : Bool). if q then count_in (get_or counts phase []) p f else 0) e
        ∙ (same_if b (count_in (get_or counts phase []) p f) (count_of_all (place_of places p) f (traces_from 0 j.tasks phase (trace_by (course_of j.services) j places)))
        (λ yes_b. let w : window_at (plan_view j places phase) p ≡ s = window_at-session j places s p job (whole (s - 1) no_session (omega (arith, some, most))) some most l (seen ∙ yes_b) in
        (a.1 phase [] (phase_in j s job some most)).each p f l (omega (arith, w, some)))
        ∙ sym (ap (λ (q : Bool). if q then count_of_all (place_of places p) f (traces_from 0 j.tasks phase (trace_by (course_of j.services) j places)) else 0) seen))
      where
        same_if : (b : Bool) (x y : ℕ) → (b ≡ true → x ≡ y) → (if b then x else 0) ≡ (if b then y else 0)
        same_if true x y h = h refl
        same_if false x y h = refl

pub counted_job : (j : JobView) (places : List Place) (slots : List CountSlot) (counts : List (List PlaceCount)) → IsJob j → AreWhole j → AreCounted j places (length j.phases) counts → AreRun (course_of j.services) j places (length j.phases) slots →
    IsCountedJob j places (dones slots) (record { job = j; places = places; phases = counts })
counted_job j places slots counts job whole a ended = record {
  count = length-map slots (λ (s : CountSlot). s.done) ∙ ended.count;
  are_results = λ t l. (all_ended (course_of j.services) j places slots t job ended l).0;
  filled = λ t l. (all_ended (course_of j.services) j places slots t job ended l).1;
  job = refl;
  size = refl;
  are_counts = λ s p f some most l. is_count j places counts job whole a s p f some most l;
}

-- the result of a slot's task
pub result_at : (slots : List CountSlot) (t : ℕ) (s : CountSlot) → t < length slots → s ≡ get_or slots t s → done_result s.done ≡ results_of (dones slots) t
result_at slots t s l e =
    let there : t < length (dones slots) = subst (λ (n : ℕ). t < n) (sym (length-map slots (λ (x : CountSlot). x.done))) l in
    sym (get_or-map done_result (dones slots) t s.done no_result there ∙ ap done_result (get_or-map (λ (x : CountSlot). x.done) slots t s s.done l ∙ ap (λ (x : CountSlot). x.done) (sym e)))
