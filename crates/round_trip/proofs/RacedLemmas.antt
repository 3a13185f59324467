-- A report that the bounds of its sets allow, and no race does.
use Rattle.std.proofs.Common.{◌≡◌, ◌≢◌, ◌⊎◌, inl, inr, ⊎_elim, ℕ, zero, suc, ◌+◌, ◌*◌, ◌<◌, ◌≤◌, Bool, true, false, ◌&&◌, nat_eq, if◌then◌else◌, Option, Some, None, List, [], ◌∷◌, length, get_or, map, refl, sym, ◌∙◌, ap, subst, arith, ne_eqb}
use Rattle.std.proofs.lemmas.Bool.{and_parts, or_cases, eqb-true}
use Rattle.std.proofs.lemmas.List.{get_or-map, length-map}
use Rattle.cov_base.specs.declared.facts.Fact.{Fact}
use Rattle.cov_base.specs.declared.facts.Fact.TheVariants.{Ran}
use Rattle.cov_base.specs.declared.numbers.TaskNo.{TaskNo}
use Rattle.cov_base.specs.Meaning.{FactSet, Visit, has_fact, no_facts, with_fact, union, fact_of}
use Rattle.cov_base.proofs.Laws.{has_fact-none}
use Rattle.module_area.specs.declared.cells.Cell.{Cell}
use Rattle.module_area.specs.declared.places.Place.{Place}
use Rattle.module_area.specs.declared.tallies.Tally.{Tally}
use Rattle.module_area.specs.declared.parties.Beat.{Beat}
use Rattle.module_area.specs.declared.parties.Beat.TheVariants.{Met}
use Rattle.module_area.specs.Meaning.{FinalsView, PlanView, Race, IsRace, part, first_control, has_task, kind_at, no_place, place_of, set_at}
use Rattle.task_run.specs.Meaning.{Course, Walk, at_places, beats_by, facts_under, is_under}
use Rattle.session_book.specs.Meaning.{JobView, ResultView, session_of}
use Rattle.phase_plan.specs.Meaning.{plan_view}
use Rattle.job_run.specs.Meaning.{AreEnded, AreFetches, IsExact, IsFetch, facts_met, no_finals, set_left, walk_by}
use Rattle.brk_table.specs.Meaning.{TablesView}
use Rattle.report_text.specs.Meaning.{report_of}
use Rattle.task_services.specs.Meaning.{course_of}
use Rattle.run_reports.specs.Meaning.{AreasChange, Reports}
use Rattle.round_trip.specs.Laws.{MayCross, NeverCrosses, crossing_plan, visited}
use Rattle.round_trip.proofs.RaceLemmas.{NoGives, OnlyGiver, no_race, only, two_sessions}

-- ---- from a fact of a set to the fetch of its visit

-- at these places, of cells with these tags
pub record IsMet (s p : ℕ) (x : ℕ × Cell) : Type 0 where
  pub there : x.0 ≡ p
  pub tag : x.1.tag + 1 ≡ 2 * s

under_parts : (s p : ℕ) (x : ℕ × Cell) (v : Visit) → is_under s p x v ≡ true → IsMet s p x
under_parts s p x v h =
    let met = and_parts (nat_eq x.0 p && nat_eq (x.1.tag + 1) (2 * s)) v.begun h in
    let both = and_parts (nat_eq x.0 p) (nat_eq (x.1.tag + 1) (2 * s)) met.0 in
    record { there = eqb-true x.0 p both.0; tag = eqb-true (x.1.tag + 1) (2 * s) both.1 }

one_met : (plan : PlanView) (s p : ℕ) (x : ℕ × Cell) (v : Visit) (xs : List (ℕ × Cell)) (vs : List Visit) (f : Fact) → has_fact (facts_under plan s p (x ∷ xs) (v ∷ vs)) f ≡ true →
    IsMet s p x ⊎ (has_fact (facts_under plan s p xs vs) f ≡ true)
one_met plan s p x v xs vs f = by_test (is_under s p x v) refl
  where
    by_test : (b : Bool) → is_under s p x v ≡ b → has_fact (if b then with_fact (facts_under plan s p xs vs) (fact_of (kind_at plan p) v.went) else facts_under plan s p xs vs) f ≡ true →
        IsMet s p x ⊎ (has_fact (facts_under plan s p xs vs) f ≡ true)
    by_test true e h = inl (under_parts s p x v e)
    by_test false e h = inr h

none_has : (f : Fact) → has_fact no_facts f ≡ true → ⊥
none_has f h = let z : false ≡ true = sym (has_fact-none f) ∙ h in absurd cc

three_met : (plan : PlanView) (s p : ℕ) (x y z : ℕ × Cell) (u v w : Visit) (f : Fact) → has_fact (facts_under plan s p (x ∷ y ∷ z ∷ []) (u ∷ v ∷ w ∷ [])) f ≡ true →
    IsMet s p x ⊎ (IsMet s p y ⊎ IsMet s p z)
three_met plan s p x y z u v w f h =
    ⊎_elim inl (λ i. inr (⊎_elim inl (λ j. inr (⊎_elim (λ m. m) (λ k. absurd (none_has f k)) (one_met plan s p z w [] [] f j))) (one_met plan s p y v (z ∷ []) (w ∷ []) f i)))
    (one_met plan s p x u (y ∷ z ∷ []) (v ∷ w ∷ []) f h)

-- ---- the example's area

no_fetches : (plan : PlanView) (t : ℕ) (calls : List (Option ℕ)) (xs : List (ℕ × Cell)) → AreFetches plan t calls xs [] → xs ≡ []
no_fetches plan t calls [] f = refl
no_fetches plan t calls (x ∷ xs) f = absurd f

none_under : (plan : PlanView) (s p : ℕ) (xs : List (ℕ × Cell)) → facts_under plan s p xs [] ≡ no_facts
none_under plan s p [] = refl
none_under plan s p (x ∷ xs) = refl

-- where the three places are
abbrev three : List ℕ
three = 1048576 ∷ 1048580 ∷ 1048582 ∷ []

there : (places : List Place) (p : ℕ) → map (λ (p : Place). p.at) places ≡ three → p < 3 → (place_of places p).at ≡ get_or three p 0
there places p at l =
    let count : length places ≡ 3 = sym (length-map places (λ (p : Place). p.at)) ∙ ap length at in
    sym (get_or-map (λ (p : Place). p.at) places p no_place 0 (omega (arith, l, count))) ∙ ap (λ ns. get_or ns p 0) at

-- the race of the example, by what task 1 has fetched
module _ (places : List Place) (race : Race) (at : map (λ (p : Place). p.at) places ≡ three) (is : IsRace race) (by_root : part 0 race ≡ []) (by_controller : part 1 race ≡ two_sessions)
    (by_others : (n : ℕ) → part (suc (suc (suc n))) race ≡ []) where
  abbrev beats_of : List (ℕ × Cell) → List Visit → List Beat
  beats_of xs vs = beats_by (crossing_plan places) (first_control (crossing_plan places) 1) 0 (None ∷ None ∷ None ∷ []) xs vs []

  three_beats : (x y z : ℕ × Cell) (u v w : Visit) → u.before ≡ 0 → v.before ≡ 1 → w.before ≡ 2 → beats_of (x ∷ y ∷ z ∷ []) (u ∷ v ∷ w ∷ []) ≡ Met z.0 z.1.tag ∷ Met y.0 y.1.tag ∷ Met x.0 x.1.tag ∷ []
  three_beats x y z u v w a b c = rw (a, b, c) refl

  giver : (x y z : ℕ × Cell) → part 2 race ≡ Met z.0 z.1.tag ∷ Met y.0 y.1.tag ∷ Met x.0 x.1.tag ∷ [] → OnlyGiver 1 race
  giver x y z by_two = only 1 race of_party
    where
      of_party : (j : ℕ) → j ≢ 1 → NoGives (part j race)
      of_party zero d = subst NoGives (sym by_root) tt
      of_party (suc zero) d = absurd (d refl)
      of_party (suc (suc zero)) d = subst NoGives (sym by_two) ((λ p tag. refl), ((λ p tag. refl), ((λ p tag. refl), tt)))
      of_party (suc (suc (suc n))) d = subst NoGives (sym (by_others n)) tt

  -- a fetch of this place was at a visit there
  elsewhere : (calls : List (Option ℕ)) (x : ℕ × Cell) (v : Visit) (s p a : ℕ) → p < 3 → v.at ≡ a → get_or three p 0 ≢ a → IsFetch (crossing_plan places) 1 calls x v → IsMet s p x → ⊥
  elsewhere calls x v s p a l is_at apart f m =
      apart (sym (there places p at l) ∙ (ap (λ q. (place_of places q).at) (sym m.there) ∙ (f.at ∙ is_at)))

  three_fetches : (calls : List (Option ℕ)) (x y z : ℕ × Cell) (u v w : Visit) → AreFetches (crossing_plan places) 1 calls (x ∷ y ∷ z ∷ []) (u ∷ v ∷ w ∷ []) →
      visited u ≡ (1048576, 0) → visited v ≡ (1048580, 1) → visited w ≡ (1048582, 2) → part 2 race ≡ beats_of (x ∷ y ∷ z ∷ []) (u ∷ v ∷ w ∷ []) →
      has_fact (facts_under (crossing_plan places) 1 1 (x ∷ y ∷ z ∷ []) (u ∷ v ∷ w ∷ [])) Ran ≡ true → has_fact (facts_under (crossing_plan places) 2 0 (x ∷ y ∷ z ∷ []) (u ∷ v ∷ w ∷ [])) Ran ≡ true → ⊥
  three_fetches calls x y z u v w f first second third by_two one two =
      let plan : PlanView = crossing_plan places in
      let beats = by_two ∙ three_beats x y z u v w (ap (λ (n : ℕ × ℕ). n.1) first) (ap (λ (n : ℕ × ℕ). n.1) second) (ap (λ (n : ℕ × ℕ). n.1) third) in
      let u_at : u.at ≡ 1048576 = ap (λ (n : ℕ × ℕ). n.0) first in
      let v_at : v.at ≡ 1048580 = ap (λ (n : ℕ × ℕ). n.0) second in
      let w_at : w.at ≡ 1048582 = ap (λ (n : ℕ × ℕ). n.0) third in
      let ar : IsMet 1 1 y =
      ⊎_elim (λ m. absurd (elsewhere calls x u 1 1 1048576 (omega arith) u_at (λ e. omega (arith, e)) f.0 m)) (λ o. ⊎_elim (λ m. m) (λ m. absurd (elsewhere calls z w 1 1 1048582 (omega arith) w_at (λ e. omega (arith, e)) f.1.1.0 m)) o)
      (three_met plan 1 1 x y z u v w Ran one) in
      let la : IsMet 2 0 x =
      ⊎_elim (λ m. m) (λ o. ⊎_elim (λ m. absurd (elsewhere calls y v 2 0 1048580 (omega arith) v_at (λ e. omega (arith, e)) f.1.0 m)) (λ m. absurd (elsewhere calls z w 2 0 1048582 (omega arith) w_at (λ e. omega (arith, e)) f.1.1.0 m)) o)
      (three_met plan 2 0 x y z u v w Ran two) in
      no_race z.0 z.1.tag race is (giver x y z beats) by_controller (subst (λ b. part 2 race ≡ Met z.0 z.1.tag ∷ b) (first_two ar.there la.there (omega (arith, ar.tag)) (omega (arith, la.tag))) beats)
    where
      first_two : y.0 ≡ 1 → x.0 ≡ 0 → y.1.tag ≡ 1 → x.1.tag ≡ 3 → Met y.0 y.1.tag ∷ Met x.0 x.1.tag ∷ [] ≡ Met 1 1 ∷ Met 0 3 ∷ []
      first_two a b c d = rw (a, b, c, d) refl

  of_fetches : (calls : List (Option ℕ)) (xs : List (ℕ × Cell)) (u v w : Visit) → AreFetches (crossing_plan places) 1 calls xs (u ∷ v ∷ w ∷ []) →
      visited u ≡ (1048576, 0) → visited v ≡ (1048580, 1) → visited w ≡ (1048582, 2) → part 2 race ≡ beats_of xs (u ∷ v ∷ w ∷ []) →
      has_fact (facts_under (crossing_plan places) 1 1 xs (u ∷ v ∷ w ∷ [])) Ran ≡ true → has_fact (facts_under (crossing_plan places) 2 0 xs (u ∷ v ∷ w ∷ [])) Ran ≡ true → ⊥
  of_fetches calls [] u v w f = absurd f
  of_fetches calls (x ∷ []) u v w f = absurd f.1
  of_fetches calls (x ∷ y ∷ []) u v w f = absurd f.1.1
  of_fetches calls (x ∷ y ∷ z ∷ []) u v w f = three_fetches calls x y z u v w f
  of_fetches calls (x ∷ y ∷ z ∷ o ∷ xs) u v w f = absurd f.1.1.1

  of_visits : (calls : List (Option ℕ)) (xs : List (ℕ × Cell)) (vs : List Visit) → AreFetches (crossing_plan places) 1 calls xs vs →
      map visited vs ≡ (1048576, 0) ∷ (1048580, 1) ∷ (1048582, 2) ∷ [] → part 2 race ≡ beats_of xs vs →
      has_fact (facts_under (crossing_plan places) 1 1 xs vs) Ran ≡ true → has_fact (facts_under (crossing_plan places) 2 0 xs vs) Ran ≡ true → ⊥
  of_visits calls xs [] f are = absurd cc
  of_visits calls xs (u ∷ []) f are = absurd cc
  of_visits calls xs (u ∷ v ∷ []) f are = absurd cc
  of_visits calls xs (u ∷ v ∷ w ∷ []) f are =
      let first : visited u ≡ (1048576, 0) = cc in
      let second : visited v ≡ (1048580, 1) = cc in
      let third : visited w ≡ (1048582, 2) = cc in
      of_fetches calls xs u v w f first second third
  of_visits calls xs (u ∷ v ∷ w ∷ o ∷ vs) f are = absurd cc

-- no exact area has these sets
not_exact : (places : List Place) (walks : ℕ → Walk) (f : FinalsView) → IsExact (crossing_plan places) walks f → map (λ (p : Place). p.at) places ≡ three → (walks 0).calls ≡ Some 4 ∷ Some 5 ∷ Some 4 ∷ Some 5 ∷ None ∷ [] →
    at_places places (walks 0).trace ≡ [] → (walks 1).calls ≡ None ∷ None ∷ None ∷ [] → map visited (at_places places (walks 1).trace) ≡ (1048576, 0) ∷ (1048580, 1) ∷ (1048582, 2) ∷ [] →
    has_fact (set_at f 1 1) Ran ≡ true → has_fact (set_at f 2 0) Ran ≡ true → ⊥
not_exact places walks f x at calls nowhere quiet executes one two =
    of_visits places x.race at x.is_race x.windows by_controller (λ n. x.others (suc (suc n)) (other n)) (walks 1).calls (x.fetches 1) (at_places places (walks 1).trace) (x.each 1 no_task (omega arith)) executes
    (subst (λ ks. part 2 x.race ≡ beats_by plan (first_control plan 1) 0 ks (x.fetches 1) (at_places places (walks 1).trace) []) quiet (x.parts 1 no_task (omega arith)))
    (shown 1 1 (omega arith) (omega arith) (omega arith) one) (shown 2 0 (omega arith) (omega arith) (omega arith) two)
  where
    plan : PlanView
    plan = crossing_plan places

    no_task : TaskNo
    no_task = record { 0 = 0 }

    count : length places ≡ 3
    count = sym (length-map places (λ (p : Place). p.at)) ∙ ap length at

    none : x.fetches 0 ≡ []
    none = no_fetches plan 0 (walks 0).calls (x.fetches 0) (subst (AreFetches plan 0 (walks 0).calls (x.fetches 0)) nowhere (x.each 0 no_task (omega arith)))

    by_controller : part 1 x.race ≡ two_sessions
    by_controller = rw (calls, nowhere, none) at (x.parts 0 no_task (omega arith))

    other : (n : ℕ) → has_task plan.tasks (suc (suc n)) ≡ false
    other n = rw (ne_eqb 0 (suc (suc n)) (λ e. omega (arith, e)), ne_eqb 1 (suc (suc n)) (λ e. omega (arith, e))) refl

    -- what the sets show task 1 has shown
    shown : (s p : ℕ) → 0 < s → s ≤ 2 → p < 3 → has_fact (set_at f s p) Ran ≡ true → has_fact (facts_under plan s p (x.fetches 1) (at_places places (walks 1).trace)) Ran ≡ true
    shown s p some few here has =
        let met : has_fact (facts_met plan walks x.fetches s p plan.tasks) Ran ≡ true = subst (λ g. has_fact g Ran ≡ true) (x.sets s p some few (omega (arith, here, count))) has in
        let mine : FactSet = facts_under plan s p (x.fetches 1) (at_places places (walks 1).trace) in
        let own : has_fact (facts_under plan s p (x.fetches 0) (at_places places (walks 0).trace)) Ran ≡ false = ap (λ vs. has_fact (facts_under plan s p (x.fetches 0) vs) Ran) nowhere ∙ ap (λ g. has_fact g Ran) (none_under plan s p (x.fetches 0)) in
        ⊎_elim (λ h. absurd (let z : false ≡ true = sym own ∙ h in cc)) (λ h. ⊎_elim (λ k. k) (λ k. absurd (none_has Ran k)) (or_cases (has_fact mine Ran) (has_fact no_facts Ran) h))
        (or_cases (has_fact (facts_under plan s p (x.fetches 0) (at_places places (walks 0).trace)) Ran) (has_fact (union mine no_facts) Ran) met)

-- ---- the report

-- the one area of a job with one phase
pub record IsOne (course : Course) (j : JobView) (places : List Place) (fs : List FinalsView) : Type 0 where
  pub finals : FinalsView
  pub are : fs ≡ finals ∷ []
  pub exact : IsExact (plan_view j places 0) (walk_by course j places) finals

one_area : (course : Course) (j : JobView) (places : List Place) (phases : List (List ℕ)) (fs : List FinalsView) (ts : List Tally) → length phases ≡ 1 → AreEnded course j places 0 phases fs ts → IsOne course j places fs
one_area course j places [] fs ts one e = absurd cc
one_area course j places (n ∷ m ∷ ns) fs ts one e = absurd (omega (arith, one))
one_area course j places (n ∷ []) [] ts one e = absurd e
one_area course j places (n ∷ []) (f ∷ fs) [] one e = absurd e
one_area course j places (n ∷ []) (f ∷ []) (t ∷ ts) one e = record { finals = f; are = refl; exact = e.0.exact }
one_area course j places (n ∷ []) (f ∷ g ∷ fs) (t ∷ ts) one e = absurd e.1

-- a session that has a fact there has it in that area
in_area : (f : FinalsView) (s p phase : ℕ) (g : Fact) → has_fact (set_at (get_or (f ∷ []) phase no_finals) s p) g ≡ true → has_fact (set_at f s p) g ≡ true
in_area f s p zero g h = h
in_area f s p (suc n) g h = absurd (none_has g h)

not_crossed : (course : Course) (j : JobView) (tables : TablesView) (a : AreasChange) (form : (ℕ → ResultView) → (ℕ → ℕ → FactSet) → List ℕ) (text : List ℕ) (x : Reports course j tables a form text) → MayCross course j tables.places →
    has_fact (x.sets 1 1) Ran ≡ true → has_fact (x.sets 2 0) Ran ≡ true → ⊥
not_crossed course j tables a form text x m one two =
    not_exact tables.places (walk_by course j tables.places) area.finals (subst (λ q. IsExact q (walk_by course j tables.places) area.finals) m.plan area.exact) m.at m.calls m.elsewhere m.quiet m.executes
    (left 1 1 (omega arith) (omega arith) (omega arith) one) (left 2 0 (omega arith) (omega arith) (omega arith) two)
  where
    area : IsOne course j tables.places x.ran.sets
    area = one_area course j tables.places j.phases x.ran.sets x.ran.tallies m.phases x.ran.ended

    count : length tables.places ≡ 3
    count = sym (length-map tables.places (λ (p : Place). p.at)) ∙ ap length m.at

    sessions : length j.sessions ≡ 2
    sessions = ap (λ (q : PlanView). q.sessions) m.plan

    left : (s p : ℕ) → 0 < s → s ≤ 2 → p < 3 → has_fact (x.sets s p) Ran ≡ true → has_fact (set_at area.finals s p) Ran ≡ true
    left s p some few here has =
        in_area area.finals s p (session_of j s).phase Ran
        (subst (λ g. has_fact g Ran ≡ true) (x.are_final s p some (omega (arith, few, sessions)) (omega (arith, here, count)) ∙ ap (λ fs. set_left j fs s p) area.are) has)

pub never_crosses : NeverCrosses
never_crosses g r a text x = not_crossed (course_of r.job.services) r.job r.tables a (report_of r.job r.tables) text x
