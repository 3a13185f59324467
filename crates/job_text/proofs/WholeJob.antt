-- A job that lines spell within the limits keeps the rules of jobs.
use Rattle.std.proofs.Common.{◌≡◌, ◌≢◌, ℕ, ◌+◌, ◌%◌, ◌<◌, ◌≤◌, Bool, true, false, not, ◌&&◌, ◌||◌, nat_eq, nat_le, Option, Some, None, List, [], ◌∷◌, ◌++◌, length, map, refl, ap, sym, ◌∙◌, arith, All, AllPairs, inl, inr, slice_set, get_or, option_and_then, subst, IfSome, eqb-true, eq-eqb, map-id, ltb-false, position}
use Rattle.job_text.proofs.WordLemmas.{none_is}
use Rattle.std.proofs.lemmas.Simd.{map-map}
use Rattle.std.proofs.lemmas.Bool.Decides.{nat_tests}
use Rattle.std.specs.Str.{bytes_eq}
use Rattle.std.specs.List.{list_any, list_all, position_or_len}
use Rattle.std.proofs.lemmas.Slice.Eq.{bytes_eq-Decides}
use Rattle.std.proofs.lemmas.List.{length-set, length-map, get_or-map, map-append, length_push}
use Rattle.std.proofs.lemmas.List.Elements.{All-cons, All-nil, All-map, All-push}
use Rattle.std.proofs.lemmas.List.Folds.{list_any_none}
use Rattle.std.proofs.lemmas.List.Quantifiers.{all_pairs_push, position-Some}
use Rattle.std.proofs.lemmas.List.Sums.{AllPass-from_list_all, fails_before_first}
use Rattle.std.proofs.lemmas.Bool.{and_parts, leb-true, or_parts, not-true, or_cases, eqb-false}
use Rattle.std.proofs.lemmas.Option.{cond_some}
use Rattle.cov_base.specs.Lists.{Differ}
use Rattle.cov_base.specs.Meaning.{ImageView}
use Rattle.module_area.specs.Images.{IsImage, AreClear}
use Rattle.module_area.specs.Meaning.{DataView}
use Rattle.cov_base.specs.declared.limits.TheConstants.{MODULE_LIMIT, SIZE_LIMIT, LINE_LIMIT, PHASE_LIMIT, SESSION_LIMIT, TASK_LIMIT, PRIVATE_LIMIT, BUDGET_LIMIT, ROOM_LIMIT}
use Rattle.session_book.specs.Meaning.{JobView, SessionView, TaskView, first_regs}
use Rattle.session_book.specs.JobView.{IsJob, IsSession, IsListing, IsTaskOf, HasController, AreParted}
use Rattle.session_book.specs.JobView as book
use Rattle.job_text.specs.Meaning.{SessionDraft, DraftView, Controllers, Present, is_controller, controller_named, is_met_by, is_met, are_met, bound_session, bound, LineView, CardView, Module, Session, Task, may_stand, RegView, set_regs, no_job, has_module, is_clear, with_phase, this_phase, is_same_controller, bars, image_index, is_free, put_index, indices_on, with_new_session, IsModule, IsTaskBlock, IsPhase, Spells, are_short, IsWithin, Lead, IsServiceCard, IsSessionCard, with_service}
use Rattle.session_book.specs.declared.services.Service.{Service}
use Rattle.job_text.specs.declared.grammar.Grammar.{Grammar}
use Rattle.job_text.specs.declared.limit.Limit.TheVariants as limit
use Rattle.job_text.specs.Steps.{State, start, is_done, run}
use Rattle.job_text.proofs.Guards.{guard_none}
use Rattle.job_text.proofs.Named.{service_added, session_added}
use Rattle.job_text.proofs.CardFacts.{Good, card_good}
use Rattle.job_text.proofs.Rests.{run_spells}
use Rattle.job_text.proofs.Shortest.{sofar}
use Rattle.job_text.proofs.Verdicts.{job_within}

-- lists with one more

pairs_push : {X : Type 0} (R : X → X → Type 0) (xs : List X) (y : X) → AllPairs R xs → All (λ x. R x y) xs → AllPairs R (xs ++ y ∷ [])
pairs_push R xs y h a = all_pairs_push R xs y h (λ k d l. a k d l)

none_of : {X : Type 0} (p : X → Bool) (xs : List X) → list_any p xs ≡ false → All (λ x. p x ≡ false) xs
none_of p [] e = All-nil (λ x. p x ≡ false)
none_of p (x ∷ xs) e = let q = or_parts (p x) (list_any p xs) e in All-cons (λ y. p y ≡ false) x xs q.0 (none_of p xs q.1)

-- names that differ, with one more

names_differ : {X : Type 0} (name : X → List ℕ) (xs : List X) (x : X) → Differ (map name xs) → All (λ y. bytes_eq (name y) (name x) ≡ false) xs → Differ (map name (xs ++ x ∷ []))
names_differ name xs x d h =
    let others : All (λ (n : List ℕ). n ≢ name x) (map name xs) = All-map (λ (n : List ℕ). n ≢ name x) name xs (λ k y l. unlike (name (get_or xs k y)) (name x) (h k y l)) in
    rw (map-append name xs (x ∷ [])) (pairs_push (λ a b. a ≢ b) (map name xs) (name x) d others)
  where
    unlike : (a b : List ℕ) → bytes_eq a b ≡ false → a ≢ b
    unlike a b e same = let is : bytes_eq a b ≡ true = (bytes_eq-Decides a b).1 same in absurd cc

-- everything but the limits
record IsTaskSoFar (phases : ℕ) (t : TaskView) : Type 0 where
  phase : t.phase < phases
  entry : t.entry < 16777216
  some : 1 ≤ t.budget
  regs : length t.regs ≡ 16
  cards : All (λ (c : DataView). c.offset + length c.bytes ≤ t.private) t.cards

record IsSessionSoFar (images phases : ℕ) (s : SessionDraft) : Type 0 where
  phase : s.phase < phases
  some : 1 ≤ length s.modules
  modules : All (λ m. m < images) s.modules
  differ : Differ s.modules

-- no module is in two sessions of one phase but in those of one controller
abbrev ArePartedSoFar : SessionDraft → SessionDraft → Type 0
ArePartedSoFar s t = s.phase ≡ t.phase → is_same_controller s.by t.by ≡ false → All (λ m. list_any (nat_eq m) t.modules ≡ false) s.modules

record SoFar (j : DraftView) : Type 0 where
  listings : length j.listings ≡ length j.images
  each : All IsImage j.images
  apart : AllPairs AreClear j.images
  are_sessions : All (IsSessionSoFar (length j.images) (length j.phases)) j.sessions
  parted : AllPairs ArePartedSoFar j.sessions
  are_tasks : All (IsTaskSoFar (length j.phases)) j.tasks
  module_names : Differ (map (λ (i : ImageView). i.name) j.images)
  phase_names : Differ j.phases
  session_names : Differ (map (λ (s : SessionDraft). s.name) j.sessions)
  task_names : Differ (map (λ (t : TaskView). t.name) j.tasks)

no_pairs : {X : Type 0} (R : X → X → Type 0) → AllPairs R []
no_pairs R = λ i j d l m. absurd (omega arith)

none_so_far : (cards : Grammar) → SoFar (no_job cards)
none_so_far cards = record {
  listings = refl;
  each = All-nil IsImage;
  apart = no_pairs AreClear;
  are_sessions = All-nil (IsSessionSoFar 0 0);
  parted = no_pairs ArePartedSoFar;
  are_tasks = All-nil (IsTaskSoFar 0);
  module_names = no_pairs (λ a b. a ≢ b);
  phase_names = no_pairs (λ a b. a ≢ b);
  session_names = no_pairs (λ a b. a ≢ b);
  task_names = no_pairs (λ a b. a ≢ b);
}

more_session : (a b c d : ℕ) (s : SessionDraft) → a ≤ c → b ≤ d → IsSessionSoFar a b s → IsSessionSoFar c d s
more_session a b c d s p q i = record { phase = omega (arith, i.phase); some = i.some; modules = λ k e l. omega (arith, i.modules k e l); differ = i.differ }

more_task : (a b : ℕ) (t : TaskView) → a ≤ b → IsTaskSoFar a t → IsTaskSoFar b t
more_task a b t p i = record { phase = omega (arith, i.phase); entry = i.entry; some = i.some; regs = i.regs; cards = i.cards }

-- modules

pub stands : (i : ImageView) → may_stand i.base (length i.bytes) ≡ true → IsImage i
stands i e =
    let size = length i.bytes in
    let p = and_parts (nat_eq (i.base % 8) 0 && nat_le 1048576 i.base && nat_eq (size % 2) 0 && nat_le 2 size) (nat_le (i.base + size) 16773120) e in
    let q = and_parts (nat_eq (i.base % 8) 0 && nat_le 1048576 i.base && nat_eq (size % 2) 0) (nat_le 2 size) p.0 in
    let r = and_parts (nat_eq (i.base % 8) 0 && nat_le 1048576 i.base) (nat_eq (size % 2) 0) q.0 in
    let s = and_parts (nat_eq (i.base % 8) 0) (nat_le 1048576 i.base) r.0 in
    record {
      doubleword = grind (arith, nat_tests, s.0);
      from = grind (arith, nat_tests, s.1);
      even = grind (arith, nat_tests, r.1);
      some = grind (arith, nat_tests, q.1);
      to = grind (arith, nat_tests, p.1);
    }

clear_of : (i x : ImageView) → (nat_le (x.base + length x.bytes) i.base || nat_le (i.base + length i.bytes) x.base) ≡ true → AreClear x i
clear_of i x e = elim (or_cases (nat_le (x.base + length x.bytes) i.base) (nat_le (i.base + length i.bytes) x.base) e) [
  | inl a ↦ inl (grind (arith, nat_tests, a))
  | inr b ↦ inr (grind (arith, nat_tests, b))
]

module_so_far : (block : List LineView) (j after : DraftView) → IsModule j block after → SoFar j → SoFar after
module_so_far block j after m s =
    let i : ImageView = m.image in
    let card : Good (Module i.name i.base (length i.bytes)) = card_good m.head.bytes (Module i.name i.base (length i.bytes)) m.card in
    let fit = and_parts (not (has_module j i.name)) (list_all (is_clear i.base (length i.bytes)) j.images) m.fit in
    let clear : All (λ x. is_clear i.base (length i.bytes) x ≡ true) j.images = AllPass-from_list_all (is_clear i.base (length i.bytes)) j.images fit.1 in
    let one : length (j.images ++ i ∷ []) ≡ length j.images + 1 = length_push j.images i in
    let two : length (j.listings ++ m.listed ∷ []) ≡ length j.listings + 1 = length_push j.listings m.listed in
    rw m.is_after (record {
      listings = omega (arith, one, two, s.listings);
      each = All-push IsImage j.images i s.each (stands i card.1);
      apart = pairs_push AreClear j.images i s.apart (λ k d l. clear_of i (get_or j.images k d) (clear k d l));
      are_sessions = λ k d l. more_session (length j.images) (length j.phases) (length (j.images ++ i ∷ [])) (length j.phases) (get_or j.sessions k d) (omega (arith, one)) (omega arith) (s.are_sessions k d l);
      parted = s.parted;
      are_tasks = s.are_tasks;
      module_names = names_differ (λ (x : ImageView). x.name) j.images i s.module_names (none_of (λ (x : ImageView). bytes_eq x.name i.name) j.images (not-true (has_module j i.name) fit.0));
      phase_names = s.phase_names;
      session_names = s.session_names;
      task_names = s.task_names;
    })

modules_so_far : (blocks : List (List LineView)) (j after : DraftView) → Lead IsModule j blocks after → SoFar j → SoFar after
modules_so_far [] j after are s = rw (← are) s
modules_so_far (block ∷ blocks) j after are s = modules_so_far blocks are.mid after are.follows (module_so_far block j are.mid are.is s)

-- services

service_so_far : (j after : DraftView) (v : Service) → with_service j v ≡ Some after → SoFar j → SoFar after
service_so_far j after v e s = rw (← service_added j after v e) (record {
  listings = s.listings;
  each = s.each;
  apart = s.apart;
  are_sessions = s.are_sessions;
  parted = s.parted;
  are_tasks = s.are_tasks;
  module_names = s.module_names;
  phase_names = s.phase_names;
  session_names = s.session_names;
  task_names = s.task_names;
})

services_so_far : (ls : List LineView) (j after : DraftView) → Lead IsServiceCard j ls after → SoFar j → SoFar after
services_so_far [] j after are s = rw (← are) s
services_so_far (l ∷ ls) j after are s = services_so_far ls are.mid after are.follows (service_so_far j are.mid are.is.service are.is.adds s)

-- phases

phase_so_far : (j after : DraftView) (name : List ℕ) → with_phase j name ≡ Some after → SoFar j → SoFar after
phase_so_far j after name e s =
    let g = guard_none (list_any (λ p. bytes_eq p name) j.phases) (record j { phases = j.phases ++ name ∷ [] }) after e in
    let one : length (j.phases ++ name ∷ []) ≡ length j.phases + 1 = length_push j.phases name in
    let names : Differ (map (λ x. x) (j.phases ++ name ∷ [])) = names_differ (λ x. x) j.phases name (rw (map-id j.phases) s.phase_names) (none_of (λ p. bytes_eq p name) j.phases g.0) in
    rw (← g.1) (record {
      listings = s.listings;
      each = s.each;
      apart = s.apart;
      are_sessions = λ k d l. more_session (length j.images) (length j.phases) (length j.images) (length (j.phases ++ name ∷ [])) (get_or j.sessions k d) (omega arith) (omega (arith, one)) (s.are_sessions k d l);
      parted = s.parted;
      are_tasks = λ k d l. more_task (length j.phases) (length (j.phases ++ name ∷ [])) (get_or j.tasks k d) (omega (arith, one)) (s.are_tasks k d l);
      module_names = s.module_names;
      phase_names = rw (map-id (j.phases ++ name ∷ [])) at names;
      session_names = s.session_names;
      task_names = s.task_names;
    })

phase_is : (j after : DraftView) (name : List ℕ) → with_phase j name ≡ Some after → 1 ≤ length after.phases
phase_is j after name e =
    let g = guard_none (list_any (λ p. bytes_eq p name) j.phases) (record j { phases = j.phases ++ name ∷ [] }) after e in
    rw (← g.1) (omega (arith, length_push j.phases name))

-- sessions

record AreUsed (j : DraftView) (by : Option (List ℕ)) (used : List ℕ) : Type 0 where
  exist : All (λ m. m < length j.images) used
  differ : Differ used
  free : All (λ m. list_any (bars (this_phase j) by m) j.sessions ≡ false) used

put_used : (j : DraftView) (by : Option (List ℕ)) (used : List ℕ) (m : ℕ) → m < length j.images → is_free j by used m ≡ true → AreUsed j by used → AreUsed j by (used ++ m ∷ [])
put_used j by used m h e u =
    let p = and_parts (not (list_any (nat_eq m) used)) (not (list_any (bars (this_phase j) by m) j.sessions)) e in
    let others : All (λ n. nat_eq m n ≡ false) used = none_of (nat_eq m) used (not-true _ p.0) in
    record {
      exist = All-push (λ n. n < length j.images) used m u.exist h;
      differ = pairs_push (λ a b. a ≢ b) used m u.differ (λ k d l e. eqb-false m (get_or used k d) (others k d l) (sym e));
      free = All-push (λ n. list_any (bars (this_phase j) by n) j.sessions ≡ false) used m u.free (not-true _ p.1);
    }

record Indices (j : DraftView) (by : Option (List ℕ)) (used ms : List ℕ) (count : ℕ) : Type 0 where
  are : AreUsed j by ms
  length : length ms ≡ length used + count

index_put : (j : DraftView) (by : Option (List ℕ)) (used next : List ℕ) (o : Option ℕ) (n : List ℕ) → image_index j n ≡ o → put_index j by used o ≡ Some next → AreUsed j by used → Indices j by used next 1
index_put j by used next (Some m) n is e u =
    let g = cond_some (is_free j by used m) (used ++ m ∷ []) next e in
    let h : m < length j.images = (position-Some (λ (i : ImageView). bytes_eq i.name n) j.images m (record { name = []; base = 0; bytes = [] }) is).0 in
    rw (← g.1) (record { are = put_used j by used m h g.0 u; length = length_push used m })
index_put j by used next None n is e u = absurd cc

no_indices : (j : DraftView) (by : Option (List ℕ)) (ns : List (List ℕ)) (ms : List ℕ) → indices_on j by None ns ≡ Some ms → ⊥
no_indices j by [] ms e = absurd cc
no_indices j by (n ∷ ns) ms e = absurd cc

are_indices : (j : DraftView) (by : Option (List ℕ)) (ns : List (List ℕ)) (used ms : List ℕ) → indices_on j by (Some used) ns ≡ Some ms → AreUsed j by used → Indices j by used ms (length ns)
are_indices j by [] used ms e u = let same : used ≡ ms = cc in rw (← same) (record { are = u; length = omega arith })
are_indices j by (n ∷ ns) used ms e u = by_index (put_index j by used (image_index j n)) refl e (λ next. are_indices j by ns next ms)
  where
    by_index : (o : Option (List ℕ)) → put_index j by used (image_index j n) ≡ o → indices_on j by o ns ≡ Some ms → ((next : List ℕ) → indices_on j by (Some next) ns ≡ Some ms → AreUsed j by next → Indices j by next ms (length ns)) →
        Indices j by used ms (length (n ∷ ns))
    by_index (Some next) f g more =
        let p : Indices j by used next 1 = index_put j by used next (image_index j n) n refl f u in
        let r : Indices j by next ms (length ns) = more next g p.are in
        record { are = r.are; length = omega (arith, p.length, r.length) }
    by_index None f g more = absurd (no_indices j by ns ms g)

and_false : (a b : Bool) → (a && b) ≡ false → a ≡ true → b ≡ false
and_false true b e h = e
and_false false b e h = absurd cc

parted_of : (phase : ℕ) (s t : SessionDraft) → t.phase ≡ phase → All (λ m. bars phase t.by m s ≡ false) t.modules → ArePartedSoFar s t
parted_of phase s t at free same other =
    let here : nat_eq s.phase phase ≡ true = rw (same, at) (grind (arith, nat_tests)) in
    let barred : (nat_eq s.phase phase && not (is_same_controller s.by t.by)) ≡ true = rw (here, other) refl in
    λ k d l. list_any_none (nat_eq (get_or s.modules k d)) t.modules
    (λ i e h. let off : list_any (nat_eq (get_or t.modules i e)) s.modules ≡ false = and_false (nat_eq s.phase phase && not (is_same_controller s.by t.by)) _ (free i e h) barred in
    let apart : nat_eq (get_or t.modules i e) (get_or s.modules k d) ≡ false = none_of (nat_eq (get_or t.modules i e)) s.modules off k d l in
    grind (arith, nat_tests, apart))

session_so_far : (j after : DraftView) (name : List ℕ) (by : Option (List ℕ)) (names : List (List ℕ)) → with_new_session j name by names ≡ Some after → 1 ≤ length names → 1 ≤ length j.phases → SoFar j → SoFar after
session_so_far j after name by names e some phases s =
    let m = session_added j after name by names e in
    let t : SessionDraft = record { name = name; phase = this_phase j; modules = m.modules; by = by } in
    let none : AreUsed j by [] = record { exist = All-nil (λ m. m < length j.images); differ = no_pairs (λ m n. m ≢ n); free = All-nil (λ m. list_any (bars (this_phase j) by m) j.sessions ≡ false) } in
    let r : Indices j by [] m.modules (length names) = are_indices j by names [] m.modules m.are none in
    let is : IsSessionSoFar (length j.images) (length j.phases) t = record { phase = omega (arith, phases); some = omega (arith, r.length, some); modules = r.are.exist; differ = r.are.differ } in
    rw (← m.is) (record {
      listings = s.listings;
      each = s.each;
      apart = s.apart;
      are_sessions = All-push (IsSessionSoFar (length j.images) (length j.phases)) j.sessions t s.are_sessions is;
      parted = pairs_push ArePartedSoFar j.sessions t s.parted (λ k d l. parted_of (this_phase j) (get_or j.sessions k d) t refl (λ i f h. none_of (bars (this_phase j) by (get_or m.modules i f)) j.sessions (r.are.free i f h) k d l));
      are_tasks = s.are_tasks;
      module_names = s.module_names;
      phase_names = s.phase_names;
      session_names = names_differ (λ (x : SessionDraft). x.name) j.sessions t s.session_names (none_of (λ x. bytes_eq x.name name) j.sessions m.new);
      task_names = s.task_names;
    })

-- as many phases
session_phases : (j after : DraftView) (name : List ℕ) (by : Option (List ℕ)) (names : List (List ℕ)) → with_new_session j name by names ≡ Some after → after.phases ≡ j.phases
session_phases j after name by names e = ap (λ (x : DraftView). x.phases) (sym (session_added j after name by names e).is)

record InPhase (j : DraftView) : Type 0 where
  so_far : SoFar j
  phase : 1 ≤ length j.phases

sessions_so_far : (ls : List LineView) (j after : DraftView) → Lead IsSessionCard j ls after → InPhase j → InPhase after
sessions_so_far [] j after are s = rw (← are) s
sessions_so_far (l ∷ ls) j after are s =
    let good : Good (Session are.is.name are.is.by are.is.names) = card_good l.bytes (Session are.is.name are.is.by are.is.names) are.is.card in
    let next : InPhase are.mid = record { so_far = session_so_far j are.mid are.is.name are.is.by are.is.names are.is.adds good.1 s.phase s.so_far; phase = rw (session_phases j are.mid are.is.name are.is.by are.is.names are.is.adds) s.phase } in
    sessions_so_far ls are.mid after are.follows next

-- tasks

pub regs_count : (regs : List ℕ) (rs : List RegView) → length (set_regs regs rs) ≡ length regs
regs_count regs [] = refl
regs_count regs (r ∷ rs) = regs_count (slice_set regs r.number r.value) rs ∙ length-set regs r.number r.value

task_so_far : (block : List LineView) (j after : DraftView) → IsTaskBlock j block after → InPhase j → InPhase after
task_so_far block j after m s =
    let said : CardView = Task m.task.name m.task.entry m.task.private m.task.budget m.task.room in
    let card : Good said = card_good m.head.bytes said m.card in
    let t : TaskView = record m.task { phase = this_phase j } in
    let is : IsTaskSoFar (length j.phases) t = record {
      phase = omega (arith, s.phase);
      entry = card.0;
      some = card.1;
      regs = ap (λ (rs : List ℕ). length rs) m.set ∙ regs_count (first_regs m.task.entry) m.regs;
      cards = m.inside;
    } in
    rw m.is_after (record {
      so_far = record {
        listings = s.so_far.listings;
        each = s.so_far.each;
        apart = s.so_far.apart;
        are_sessions = s.so_far.are_sessions;
        parted = s.so_far.parted;
        are_tasks = All-push (IsTaskSoFar (length j.phases)) j.tasks t s.so_far.are_tasks is;
        module_names = s.so_far.module_names;
        phase_names = s.so_far.phase_names;
        session_names = s.so_far.session_names;
        task_names = names_differ (λ (x : TaskView). x.name) j.tasks t s.so_far.task_names (none_of (λ x. bytes_eq x.name m.task.name) j.tasks m.new);
      };
      phase = s.phase;
    })

tasks_so_far : (blocks : List (List LineView)) (j after : DraftView) → Lead IsTaskBlock j blocks after → InPhase j → InPhase after
tasks_so_far [] j after are s = rw (← are) s
tasks_so_far (block ∷ blocks) j after are s = tasks_so_far blocks are.mid after are.follows (task_so_far block j are.mid are.is s)

phases_so_far : (ask : Controllers) (blocks : List (List LineView)) (j after : DraftView) → Lead (IsPhase ask) j blocks after → SoFar j → SoFar after
phases_so_far ask [] j after are s = rw (← are) s
phases_so_far ask (block ∷ blocks) j after are s =
    let p : IsPhase ask j block are.mid = are.is in
    let named : InPhase p.named = record { so_far = phase_so_far j p.named p.name p.adds s; phase = phase_is j p.named p.name p.adds } in
    let mid : InPhase p.mid = sessions_so_far p.sessions p.named p.mid p.are_sessions named in
    let end : InPhase are.mid = tasks_so_far p.tasks p.mid are.mid p.are_tasks mid in
    phases_so_far ask blocks are.mid after are.follows end.so_far

-- the limits

short_listing : (o : Option (List (List ℕ))) → are_short o ≡ true → IsListing o
short_listing (Some texts) e = λ k d l. leb-true (length (get_or texts k d)) LINE_LIMIT (AllPass-from_list_all (λ (t : List ℕ). nat_le (length t) LINE_LIMIT) texts e k d l)
short_listing None e = tt

-- the sessions as the job has them

is_session : (a b : ℕ) (tasks : List TaskView) (s : SessionDraft) → IsSessionSoFar a b s → IsSession a b (bound_session tasks s)
is_session a b tasks s i = record { phase = i.phase; some = i.some; modules = i.modules; differ = i.differ }

found_controller : (tasks : List TaskView) (phase : ℕ) (n : List ℕ) (o : Option ℕ) → controller_named tasks phase n ≡ o → IfSome o (IsTaskOf tasks phase)
found_controller tasks phase n None e = tt
found_controller tasks phase n (Some t) e = λ d.
    let p = position-Some (is_controller phase n) tasks t d e in
    (p.0, eqb-true _ _ (and_parts (bytes_eq (get_or tasks t d).name n) (nat_eq (get_or tasks t d).phase phase) p.1).1)

has_controller : (tasks : List TaskView) (phase : ℕ) (by : Option (List ℕ)) → IfSome (option_and_then (controller_named tasks phase) by) (IsTaskOf tasks phase)
has_controller tasks phase None = tt
has_controller tasks phase (Some n) = found_controller tasks phase n (controller_named tasks phase n) refl

-- where no element is the first that passes, none does
none_pass : {X : Type 0} (p : X → Bool) (xs : List X) → position p xs ≡ None → list_any p xs ≡ false
none_pass p xs e = list_any_none p xs (λ k d l. fails_before_first p xs k d (omega (arith, l, ltb-false (position_or_len p xs) (length xs) (none_is _ _ e))))

same_indices : (tasks : List TaskView) (p q : ℕ) (m n : List ℕ) (o : Option ℕ) → controller_named tasks p m ≡ o → list_any (is_controller p m) tasks ≡ true → p ≡ q → m ≡ n → book.is_same_controller (controller_named tasks p m) (controller_named tasks q n) ≡ true
same_indices tasks p q m n (Some t) e met same name = rw (← same, ← name, e) (eq-eqb t t refl)
same_indices tasks p q m n None e met same name = let none : list_any (is_controller p m) tasks ≡ false = none_pass (is_controller p m) tasks e in absurd cc

-- sessions whose controllers are there share a controller in the job where the cards name the same one
same_by : (tasks : List TaskView) (p q : ℕ) (a b : Option (List ℕ)) (r : Bool) → is_same_controller a b ≡ r → is_met_by tasks p a ≡ true → p ≡ q
    → book.is_same_controller (option_and_then (controller_named tasks p) a) (option_and_then (controller_named tasks q) b) ≡ false → is_same_controller a b ≡ false
same_by tasks p q a b false e met same off = e
same_by tasks p q (Some m) (Some n) true e met same off =
    let on : book.is_same_controller (controller_named tasks p m) (controller_named tasks q n) ≡ true = same_indices tasks p q m n (controller_named tasks p m) refl met same ((bytes_eq-Decides m n).0 e) in
    absurd cc
same_by tasks p q (Some m) None true e met same off = absurd cc
same_by tasks p q None b true e met same off = absurd cc

parted_in_job : (tasks : List TaskView) (s t : SessionDraft) → is_met tasks s ≡ true → ArePartedSoFar s t → AreParted (bound_session tasks s) (bound_session tasks t)
parted_in_job tasks s t met parted same other = parted same (same_by tasks s.phase t.phase s.by t.by (is_same_controller s.by t.by) refl met same other)

all_parted : (tasks : List TaskView) (ss : List SessionDraft) → All (λ s. is_met tasks s ≡ true) ss → AllPairs ArePartedSoFar ss → AllPairs AreParted (map (bound_session tasks) ss)
all_parted tasks ss met parted i j d l m =
    let few : length (map (bound_session tasks) ss) ≡ length ss = length-map ss (bound_session tasks) in
    let none : SessionDraft = record { name = []; phase = 0; modules = []; by = None } in
    rw (get_or-map (bound_session tasks) ss i none d (omega (arith, few, l, m)), get_or-map (bound_session tasks) ss j none d (omega (arith, few, m)))
    (parted_in_job tasks (get_or ss i none) (get_or ss j none) (met i none (omega (arith, few, l, m))) (parted i j none l (omega (arith, few, m))))

-- no controller is missing

modules_none : (blocks : List (List LineView)) (j after : DraftView) → Lead IsModule j blocks after → j.sessions ≡ [] → after.sessions ≡ []
modules_none [] j after are e = ap (λ (x : DraftView). x.sessions) (sym are) ∙ e
modules_none (block ∷ blocks) j after are e = modules_none blocks are.mid after are.follows (ap (λ (x : DraftView). x.sessions) are.is.is_after ∙ e)

services_none : (ls : List LineView) (j after : DraftView) → Lead IsServiceCard j ls after → j.sessions ≡ [] → after.sessions ≡ []
services_none [] j after are e = rw (← are) e
services_none (l ∷ ls) j after are e = services_none ls are.mid after are.follows (ap (λ (x : DraftView). x.sessions) (sym (service_added j are.mid are.is.service are.is.adds)) ∙ e)

phases_met : (blocks : List (List LineView)) (j after : DraftView) → Lead (IsPhase Present) j blocks after → are_met Present j ≡ true → are_met Present after ≡ true
phases_met [] j after are e = rw (← are) e
phases_met (block ∷ blocks) j after are e = phases_met blocks are.mid after are.follows are.is.met

all_met : {cards : Grammar} (ls : List LineView) (job : JobView) (p : Spells cards Present ls job) → All (λ s. is_met p.draft.tasks s ≡ true) p.draft.sessions
all_met {cards} ls job p =
    let none : p.served.sessions ≡ [] = services_none p.services p.mid p.served p.are_services (modules_none p.modules (no_job cards) p.mid p.are_modules refl) in
    AllPass-from_list_all (is_met p.draft.tasks) p.draft.sessions (phases_met p.phases p.served p.draft p.are_phases (rw none refl))

-- lines that spell a job within the limits spell one that keeps its rules
pub job_keeps : {cards : Grammar} (ls : List LineView) (job : JobView) → Spells cards Present ls job → IsWithin job → IsJob job
job_keeps {cards} ls job p within =
    let j : DraftView = p.draft in
    let served : SoFar p.served = services_so_far p.services p.mid p.served p.are_services (modules_so_far p.modules (no_job cards) p.mid p.are_modules (none_so_far cards)) in
    let s : SoFar j = phases_so_far Present p.phases p.served j p.are_phases served in
    let kept : IsWithin (bound j) = subst IsWithin p.is within in
    subst IsJob (sym p.is) (record {
      listings = s.listings;
      images = record { each = s.each; apart = s.apart };
      sizes = λ k d l. leb-true _ SIZE_LIMIT (AllPass-from_list_all _ j.images (kept limit.Size) k d l);
      modules = leb-true (length j.images) MODULE_LIMIT (kept limit.Modules);
      lines = λ k d l. short_listing (get_or j.listings k d) (AllPass-from_list_all are_short j.listings (kept limit.Line) k d l);
      phases = leb-true (length j.phases) PHASE_LIMIT (kept limit.Phases);
      sessions = leb-true (length (bound j).sessions) SESSION_LIMIT (kept limit.Sessions);
      tasks = leb-true (length j.tasks) TASK_LIMIT (kept limit.Tasks);
      are_sessions = All-map (IsSession (length j.images) (length j.phases)) (bound_session j.tasks) j.sessions (λ k d l. is_session _ _ j.tasks (get_or j.sessions k d) (s.are_sessions k d l));
      parted = all_parted j.tasks j.sessions (all_met ls job p) s.parted;
      controllers = All-map (HasController j.tasks) (bound_session j.tasks) j.sessions (λ k d l. has_controller j.tasks (get_or j.sessions k d).phase (get_or j.sessions k d).by);
      are_tasks = λ k d l.
          let t : IsTaskSoFar (length j.phases) (get_or j.tasks k d) = s.are_tasks k d l in
          record {
            phase = t.phase;
            entry = t.entry;
            private = leb-true _ PRIVATE_LIMIT (AllPass-from_list_all _ j.tasks (kept limit.Private) k d l);
            some = t.some;
            budget = leb-true _ BUDGET_LIMIT (AllPass-from_list_all _ j.tasks (kept limit.Budget) k d l);
            room = leb-true _ ROOM_LIMIT (AllPass-from_list_all _ j.tasks (kept limit.Room) k d l);
            regs = t.regs;
            cards = t.cards;
          };
      module_names = s.module_names;
      phase_names = s.phase_names;
      session_names = rw (map-map (λ (x : SessionView). x.name) (bound_session j.tasks) j.sessions) s.session_names;
      task_names = s.task_names;
    })

-- lines that run to the end within the limits have read such a job
pub read_keeps : (cards : Grammar) (ls : List LineView) (s : State) → run Present (start cards) ls ≡ Some s → is_done s.part ≡ true → IsWithin (sofar s) → IsJob (bound s.job)
read_keeps cards ls s r done within = job_keeps ls (bound s.job) (run_spells Present ls s r done) (job_within s done within)
