-- Lines that run begin a job: for each controller that is missing a task can still come.
use Rattle.std.proofs.Common.{◌≡◌, ◌⊎◌, ℕ, suc, Bool, true, false, nat_eq, Option, Some, None, IfSome, List, [], ◌∷◌, ◌++◌, length, get_or, All, refl, ap, subst, sym, ◌∙◌, arith, codes, option_and_then, inl, inr, ⊎_elim, eq-eqb}
use Rattle.std.proofs.lemmas.List.Elements.{All-cons, All-nil, All-append}
use Rattle.std.proofs.lemmas.List.Folds.{list_any-append}
use Rattle.std.proofs.lemmas.List.Sums.{AllPass-from_list_all}
use Rattle.std.proofs.lemmas.Slice.Eq.{bytes_eq-Decides}
use Rattle.std.specs.List.{list_any, list_all}
use Rattle.std.specs.Str.{bytes_eq}
use Rattle.std.proofs.lemmas.Option.{same_Some, cond_some}
use Rattle.std.proofs.lemmas.Bool.{and_from, and_parts, not-true, or_right}
use Rattle.hex.proofs.OnLiterals.{hex_on_literals}
use Rattle.cov_base.specs.Meaning.{is_name_byte, name_at, unpadded, words}
use Rattle.cov_base.proofs.Laws.{no_blank}
use Rattle.session_book.specs.Meaning.{TaskView}
use Rattle.job_text.specs.Meaning.{LineView, listing_text, SessionDraft, DraftView, Present, is_controller, is_met_by, is_met, are_met, CardView, Cover, Module, Text, Listing, Phase, Session, Task, Reg, Data, Input, End, card_at, card_of, with_module, with_phase, this_phase, may_have, with_new_session, has_task, with_task, JobBegins, Serve, with_service}
use Rattle.session_book.specs.declared.services.Service.{Service}
use Rattle.job_text.specs.declared.grammar.Grammar.{Grammar}
use Rattle.job_text.specs.TaskParts.{fresh_task, task_more}
use Rattle.job_text.specs.declared.limit.Limit.{Limit}
use Rattle.job_text.specs.declared.parts.Part.{Part}
use Rattle.job_text.specs.declared.parts.Part.TheVariants as part
use Rattle.job_text.specs.Steps.{State, state, start, is_start, is_sessions, is_done, closed_module, closed_service, closed_task, closed, no_bytes, module_over, session_over, phase_over, task_over, open_module, open_task, add_service, open_phase, add_session, take_text, take_listing, take_more, end, takes_raw, take_raw, take_card, step, run}
use Rattle.job_text.proofs.Guards.{guard_more, guard_none, map_some, then_some, choose}
use Rattle.job_text.proofs.CardFacts.{IsName, Good, card_good}
use Rattle.job_text.proofs.Named.{service_added, session_added}
use Rattle.job_text.proofs.Spelled.{run_append, card_step, task_raw, closed_of_task, closed_raw}
use Rattle.job_text.proofs.Rests.{run_spells}
use Rattle.job_text.proofs.Shortest.{sofar_at, Completes, completes_at}

-- The controller, where the session has one, is there, or no task has its name and the session's phase is open.
abbrev IsWanted : DraftView → ℕ → Option (List ℕ) → Type 0
IsWanted j phase None = Unit {0}
IsWanted j phase (Some n) = IsName n × ((list_any (is_controller phase n) j.tasks ≡ true) ⊎ ((has_task j n ≡ false) × (phase ≡ this_phase j)))

abbrev Wants : DraftView → Type 0
Wants j = All (λ (s : SessionDraft). IsWanted j s.phase s.by) j.sessions

-- a task more

still_met : (j : DraftView) (t : TaskView) (phase : ℕ) (n : List ℕ) → list_any (is_controller phase n) j.tasks ≡ true → list_any (is_controller phase n) (with_task j t).tasks ≡ true
still_met j t phase n e = list_any-append (is_controller phase n) j.tasks (record t { phase = this_phase j } ∷ []) ∙ (rw e refl)

now_met : (j : DraftView) (t : TaskView) (phase : ℕ) (n : List ℕ) → bytes_eq t.name n ≡ true → phase ≡ this_phase j → list_any (is_controller phase n) (with_task j t).tasks ≡ true
now_met j t phase n e here =
    list_any-append (is_controller phase n) j.tasks (record t { phase = this_phase j } ∷ []) ∙ or_right (list_any (is_controller phase n) j.tasks) _ (rw (e, eq-eqb (this_phase j) phase (sym here)) refl)

still_none : (j : DraftView) (t : TaskView) (n : List ℕ) → has_task j n ≡ false → bytes_eq t.name n ≡ false → has_task (with_task j t) n ≡ false
still_none j t n e f = list_any-append (λ (u : TaskView). bytes_eq u.name n) j.tasks (record t { phase = this_phase j } ∷ []) ∙ (rw (e, f) refl)

wanted_task : (j : DraftView) (t : TaskView) (phase : ℕ) (by : Option (List ℕ)) → IsWanted j phase by → IsWanted (with_task j t) phase by
wanted_task j t phase None w = tt
wanted_task j t phase (Some n) w = (w.0, ⊎_elim (λ e. inl (still_met j t phase n e)) (λ p. by_test (bytes_eq t.name n) refl p) w.1)
  where
    by_test : (q : Bool) → bytes_eq t.name n ≡ q → (has_task j n ≡ false) × (phase ≡ this_phase j) → (list_any (is_controller phase n) (with_task j t).tasks ≡ true) ⊎ ((has_task (with_task j t) n ≡ false) × (phase ≡ this_phase (with_task j t)))
    by_test true e p = inl (now_met j t phase n e p.1)
    by_test false e p = inr (still_none j t n p.0 e, p.1)

wants_task : (j : DraftView) (t : TaskView) → Wants j → Wants (with_task j t)
wants_task j t w = λ k d l. wanted_task j t (get_or j.sessions k d).phase (get_or j.sessions k d).by (w k d l)

-- a phase more, a session more

wanted_met : (j k : DraftView) (phase : ℕ) (by : Option (List ℕ)) → k.tasks ≡ j.tasks → is_met_by j.tasks phase by ≡ true → IsWanted j phase by → IsWanted k phase by
wanted_met j k phase None same e w = tt
wanted_met j k phase (Some n) same e w = (w.0, inl (rw same e))

wants_phase : (j k : DraftView) (name : List ℕ) → are_met Present j ≡ true → with_phase j name ≡ Some k → Wants j → Wants k
wants_phase j k name met e w =
    let after : DraftView = record j { phases = j.phases ++ name ∷ [] } in
    let g = guard_none (list_any (λ p. bytes_eq p name) j.phases) after k e in
    subst Wants g.1 (λ i d l. wanted_met j after (get_or j.sessions i d).phase (get_or j.sessions i d).by refl (AllPass-from_list_all (is_met j.tasks) j.sessions met i d l) (w i d l))

wanted_new : (j k : DraftView) (by : Option (List ℕ)) → k.tasks ≡ j.tasks → k.phases ≡ j.phases → may_have j by ≡ true → IfSome by IsName → IsWanted k (this_phase j) by
wanted_new j k None same here may good = tt
wanted_new j k (Some n) same here may good = (good, inr ((rw same (not-true (has_task j n) may)), (rw here refl)))

wants_session : (j k : DraftView) (name : List ℕ) (by : Option (List ℕ)) (names : List (List ℕ)) → IfSome by IsName → with_new_session j name by names ≡ Some k → Wants j → Wants k
wants_session j k name by names good e w =
    let a = session_added j k name by names e in
    let s : SessionDraft = record { name = name; phase = this_phase j; modules = a.modules; by = by } in
    let after : DraftView = record j { sessions = j.sessions ++ s ∷ [] } in
    subst Wants a.is (All-append (λ (x : SessionDraft). IsWanted after x.phase x.by) j.sessions (s ∷ []) w
    (All-cons (λ (x : SessionDraft). IsWanted after x.phase x.by) s [] (wanted_new j after by refl refl a.may good) (All-nil (λ (x : SessionDraft). IsWanted after x.phase x.by))))

-- each line

-- before the phases there is no session
abbrev Early : Part → DraftView → Type 0
Early part.Sessions j = Unit {0}
Early (part.Task t) j = Unit {0}
Early part.Done j = Unit {0}
Early p j = j.sessions ≡ []

record Waits (p : Part) (j : DraftView) : Type 0 where
  wants : Wants j
  early : Early p j

abbrev WaitsAt : State → Type 0
WaitsAt st = Waits st.part st.job

none_wanted : (j : DraftView) → j.sessions ≡ [] → Wants j
none_wanted j e = λ k d l. absurd (omega (arith, l, ap (λ (x : List SessionDraft). length x) e))

none_met : (j : DraftView) → j.sessions ≡ [] → are_met Present j ≡ true
none_met j e = rw e refl

sessions_of : (j k : DraftView) → j ≡ k → j.sessions ≡ [] → k.sessions ≡ []
sessions_of j k same e = ap (λ (x : DraftView). x.sessions) (sym same) ∙ e

module_early : (p : Part) (j k : DraftView) → closed_module p j ≡ Some k → Early p j → k.sessions ≡ []
module_early part.Modules j k e early = sessions_of j k (same_Some j k e) early
module_early (part.Texts i left) j k e early = sessions_of (with_module j i None) k (cond_some (nat_eq left 0) (with_module j i None) k e).1 early
module_early (part.Listed i left texts) j k e early = sessions_of (with_module j i (Some texts)) k (cond_some (nat_eq left 0) (with_module j i (Some texts)) k e).1 early
module_early p j k e early = absurd cc

service_sessions : (j k : DraftView) (v : Service) → with_service j v ≡ Some k → k.sessions ≡ j.sessions
service_sessions j k v e = ap (λ (x : DraftView). x.sessions) (sym (service_added j k v e))

service_early : (p : Part) (j k : DraftView) → closed_service p j ≡ Some k → Early p j → k.sessions ≡ []
service_early part.Services j k e early = sessions_of j k (same_Some j k e) early
service_early p j k e early = module_early p j k e early

task_wants : (p : Part) (j k : DraftView) → closed_task p j ≡ Some k → Wants j → Wants k
task_wants part.Sessions j k e w = subst Wants (same_Some j k e) w
task_wants (part.Task t) j k e w = subst Wants (same_Some (with_task j t.task) k e) (wants_task j t.task w)
task_wants p j k e w = absurd cc

closed_wants : (p : Part) (j k : DraftView) → closed Present p j ≡ Some k → Waits p j → Wants k × (are_met Present k ≡ true)
closed_wants part.Sessions j k e w = let g = cond_some (are_met Present j) j k e in (subst Wants g.1 w.wants, subst (λ (x : DraftView). are_met Present x ≡ true) g.1 g.0)
closed_wants (part.Task t) j k e w =
    let g = cond_some (are_met Present (with_task j t.task)) (with_task j t.task) k e in
    (subst Wants g.1 (wants_task j t.task w.wants), subst (λ (x : DraftView). are_met Present x ≡ true) g.1 g.0)
closed_wants part.Start j k e w = absurd cc
closed_wants part.Done j k e w = absurd cc
closed_wants p j k e w = let none = service_early p j k e w.early in (none_wanted k none, none_met k none)

raw_waits : (p : Part) (j : DraftView) (text : List ℕ) (s : State) → take_raw p j text ≡ Some s → Waits p j → WaitsAt s
raw_waits (part.Listed i left texts) j text s e w = subst WaitsAt (same_Some _ s e) (record { wants = w.wants; early = w.early })
raw_waits p j text s e w = absurd cc

text_waits : (p : Part) (j : DraftView) (bytes : List ℕ) (s : State) → take_text p j bytes ≡ Some s → Waits p j → WaitsAt s
text_waits (part.Texts i left) j bytes s e w = subst WaitsAt (cond_some _ _ s e).1 (record { wants = w.wants; early = w.early })
text_waits p j bytes s e w = absurd cc

listing_waits : (p : Part) (j : DraftView) (n : ℕ) (s : State) → take_listing p j n ≡ Some s → Waits p j → WaitsAt s
listing_waits (part.Texts i left) j n s e w = subst WaitsAt (cond_some _ _ s e).1 (record { wants = w.wants; early = w.early })
listing_waits p j n s e w = absurd cc

more_waits : (p : Part) (j : DraftView) (c : CardView) (s : State) → take_more p j c ≡ Some s → Waits p j → WaitsAt s
more_waits (part.Task t) j c s e w =
    let m = map_some (λ u. state (part.Task u) j None) (task_more t c) s e in
    subst WaitsAt m.gives (record { wants = w.wants; early = tt })
more_waits p j c s e w = absurd cc

cover_waits : (p : Part) (j : DraftView) → is_start p ≡ true → Waits p j → Waits part.Modules j
cover_waits part.Start j e w = record { wants = w.wants; early = w.early }
cover_waits p j e w = absurd cc

card_waits : (c : CardView) (st s : State) → Good c → take_card Present st c ≡ Some s → WaitsAt st → WaitsAt s
card_waits Cover st s good e w =
    let g = cond_some (is_start st.part) (state part.Modules st.job None) s e in
    subst WaitsAt g.1 (cover_waits st.part st.job g.0 w)
card_waits (Module name base size) st s good e w =
    let t = then_some (open_module name base size) (closed_module st.part st.job) s e in
    let g = cond_some _ (state (part.Texts (no_bytes name base) size) t.from (module_over t.from size)) s t.gives in
    let none = module_early st.part st.job t.from t.was w.early in
    subst WaitsAt g.1 (record { wants = none_wanted t.from none; early = none })
card_waits (Text bytes) st s good e w = text_waits st.part st.job bytes s e w
card_waits (Listing n) st s good e w = listing_waits st.part st.job n s e w
card_waits (Serve v) st s good e w =
    let t = then_some (add_service v) (closed_service st.part st.job) s e in
    let m = map_some (λ k. state part.Services k None) (with_service t.from v) s t.gives in
    let none = service_sessions t.from m.from v m.was ∙ service_early st.part st.job t.from t.was w.early in
    subst WaitsAt m.gives (record { wants = none_wanted m.from none; early = none })
card_waits (Phase name) st s good e w =
    let t = then_some (open_phase name) (closed Present st.part st.job) s e in
    let m = map_some (λ k. state part.Sessions k (phase_over t.from)) (with_phase t.from name) s t.gives in
    let c = closed_wants st.part st.job t.from t.was w in
    subst WaitsAt m.gives (record { wants = wants_phase t.from m.from name c.1 m.was c.0; early = tt })
card_waits (Session name by names) st s good e w =
    let g = guard_more (is_sessions st.part) (add_session st.job name by names) s e in
    let m = map_some (λ k. state part.Sessions k (session_over st.job)) (with_new_session st.job name by names) s g.1 in
    subst WaitsAt m.gives (record { wants = wants_session st.job m.from name by names good.0 m.was w.wants; early = tt })
card_waits (Task n e p b r) st s good took w =
    let t = then_some (open_task n e p b r) (closed_task st.part st.job) s took in
    let g = guard_none (has_task t.from n) (state (part.Task (fresh_task n e p b r)) t.from (task_over t.from p b r)) s t.gives in
    subst WaitsAt g.1 (record { wants = task_wants st.part st.job t.from t.was w.wants; early = tt })
card_waits End st s good e w =
    let m = map_some end (closed Present st.part st.job) s e in
    subst WaitsAt m.gives (record { wants = (closed_wants st.part st.job m.from m.was w).0; early = tt })
card_waits (Reg n v) st s good e w = more_waits st.part st.job (Reg n v) s e w
card_waits (Data c) st s good e w = more_waits st.part st.job (Data c) s e w
card_waits (Input bytes) st s good e w = more_waits st.part st.job (Input bytes) s e w

step_waits : (st s : State) (l : LineView) → step Present st l ≡ Some s → WaitsAt st → WaitsAt s
step_waits st s l e w = elim (choose (takes_raw st.part) (take_raw st.part st.job (listing_text l)) (option_and_then (take_card Present st) (card_at l.bytes)) (Some s) e) [
  | inl x ↦ raw_waits st.part st.job (listing_text l) s x.1 w
  | inr x ↦ (let t = then_some (take_card Present st) (card_at l.bytes) s x.1 in card_waits t.from st s (card_good l.bytes t.from t.was) t.gives w)
]

run_waits : (ls : List LineView) (st e : State) → run Present st ls ≡ Some e → WaitsAt st → WaitsAt e
run_waits [] st e r w = subst WaitsAt (same_Some st e r) w
run_waits (l ∷ ls) st e r w =
    let t = then_some (λ s. run Present s ls) (step Present st l) e r in
    run_waits ls t.from e t.gives (step_waits st t.from l t.was w)

-- the TASK card of a name

word_first : (w rest : List ℕ) → list_all is_name_byte w ≡ true → words (w ++ 32 ∷ rest) ≡ w ∷ words rest
word_first [] rest e = refl
word_first (b ∷ bs) rest e =
    let p = and_parts (is_name_byte b) (list_all is_name_byte bs) e in
    rw (no_blank b p.0, word_first bs rest p.1) refl

abbrev task_text : List ℕ → List ℕ
task_text n = codes "TASK " ++ (unpadded n ++ 32 ∷ codes "000000 0 1 0")

task_words : (n : List ℕ) → IsName n → words (task_text n) ≡ codes "TASK" ∷ unpadded n ∷ codes "000000" ∷ codes "0" ∷ codes "1" ∷ codes "0" ∷ []
task_words n is =
    let all = and_parts _ (list_all is_name_byte (unpadded n)) is.is in
    rw (word_first (unpadded n) (codes "000000 0 1 0") all.1) refl

task_card_is : (w n : List ℕ) → name_at w ≡ Some n → card_of (codes "TASK" ∷ w ∷ codes "000000" ∷ codes "0" ∷ codes "1" ∷ codes "0" ∷ []) ≡ Some (Task n 0 0 1 0)
unfolding hex_on_literals
task_card_is w n e = rw e refl

task_line : (n : List ℕ) → IsName n → card_at (task_text n) ≡ Some (Task n 0 0 1 0)
task_line n is =
    let name : name_at (unpadded n) ≡ Some n = rw (is.is, is.filled) refl in
    rw (task_words n is) (task_card_is (unpadded n) n name)

-- a task for each controller that is missing

abbrev ended : List ℕ → LineView
ended bytes = record { bytes = bytes; ended = true }

record Meets (st : State) (k : DraftView) (xs : List SessionDraft) : Type 0 where
  lines : List LineView
  end : State
  job : DraftView
  runs : run Present st lines ≡ Some end
  at : closed_task end.part end.job ≡ Some job
  sessions : job.sessions ≡ k.sessions
  wanted : (phase : ℕ) (by : Option (List ℕ)) → IsWanted k phase by → IsWanted job phase by
  all : list_all (is_met job.tasks) xs ≡ true

met_more : (j : DraftView) (t : TaskView) (phase : ℕ) (by : Option (List ℕ)) → is_met_by j.tasks phase by ≡ true → is_met_by (with_task j t).tasks phase by ≡ true
met_more j t phase None e = refl
met_more j t phase (Some n) e = still_met j t phase n e

all_more : (j : DraftView) (t : TaskView) (xs : List SessionDraft) → list_all (is_met j.tasks) xs ≡ true → list_all (is_met (with_task j t).tasks) xs ≡ true
all_more j t [] e = refl
all_more j t (x ∷ xs) e =
    let p = and_parts (is_met j.tasks x) (list_all (is_met j.tasks) xs) e in
    rw (met_more j t x.phase x.by p.0, all_more j t xs p.1) refl

meet_named : (st : State) (k : DraftView) (x : SessionDraft) (xs : List SessionDraft) (n : List ℕ) (r : Meets st k xs) → x.by ≡ Some n → IsName n → has_task r.job n ≡ false → x.phase ≡ this_phase r.job → Meets st k (x ∷ xs)
meet_named st k x xs n r by is none here =
    let t : TaskView = (fresh_task n 0 0 1 0).task in
    let next : State = state (part.Task (fresh_task n 0 0 1 0)) r.job (task_over r.job 0 1 0) in
    let took : take_card Present r.end (Task n 0 0 1 0) ≡ Some next = rw (r.at, none) refl in
    let one : step Present r.end (ended (task_text n)) ≡ Some next = card_step Present r.end next (ended (task_text n)) (Task n 0 0 1 0) (task_raw r.end.part r.end.job r.job r.at) (task_line n is) took in
    let own : bytes_eq t.name n ≡ true = (bytes_eq-Decides n n).1 refl in
    let met : is_met_by (with_task r.job t).tasks x.phase x.by ≡ true = rw by (now_met r.job t x.phase n own here) in
    record {
      lines = r.lines ++ ended (task_text n) ∷ [];
      end = next;
      job = with_task r.job t;
      runs = run_append Present st r.lines (ended (task_text n) ∷ []) ∙ (rw (r.runs, one) refl);
      at = refl;
      sessions = r.sessions;
      wanted = λ phase b w. wanted_task r.job t phase b (r.wanted phase b w);
      all = rw (met, all_more r.job t xs r.all) refl;
    }

met_as : (tasks : List TaskView) (x : SessionDraft) (n : List ℕ) → x.by ≡ Some n → list_any (is_controller x.phase n) tasks ≡ true → is_met tasks x ≡ true
met_as tasks x n by e = rw by e

meet_one : (st : State) (k : DraftView) (x : SessionDraft) (xs : List SessionDraft) (r : Meets st k xs) (b : Option (List ℕ)) → x.by ≡ b → IsWanted r.job x.phase b → Meets st k (x ∷ xs)
meet_one st k x xs r None by w = record { lines = r.lines; end = r.end; job = r.job; runs = r.runs; at = r.at; sessions = r.sessions; wanted = r.wanted; all = rw (by, r.all) refl }
meet_one st k x xs r (Some n) by w = ⊎_elim
    (λ e. record { lines = r.lines; end = r.end; job = r.job; runs = r.runs; at = r.at; sessions = r.sessions; wanted = r.wanted; all = and_from (is_met r.job.tasks x) (list_all (is_met r.job.tasks) xs) (met_as r.job.tasks x n by e) r.all })
    (λ p. meet_named st k x xs n r by w.0 p.0 p.1) w.1

meets : (st : State) (k : DraftView) (xs : List SessionDraft) → closed_task st.part st.job ≡ Some k → All (λ (s : SessionDraft). IsWanted k s.phase s.by) xs → Meets st k xs
meets st k [] at w = record { lines = []; end = st; job = k; runs = refl; at = at; sessions = refl; wanted = λ phase b x. x; all = refl }
meets st k (x ∷ xs) at w =
    let r = meets st k xs at (λ i d l. w (suc i) d (omega (arith, l))) in
    meet_one st k x xs r x.by refl (r.wanted x.phase x.by (w 0 x (omega arith)))

-- each state can be brought to the end

record Ending (st : State) : Type 0 where
  lines : List LineView
  end : State
  runs : run Present st lines ≡ Some end
  done : is_done end.part ≡ true

ending_of : (st : State) → Completes Present st → Ending st
ending_of st c = record { lines = c.lines; end = c.end; runs = c.runs; done = c.done }

ends_met : (st : State) (k : DraftView) → closed_task st.part st.job ≡ Some k → Wants k → Ending st
ends_met st k at w =
    let m = meets st k k.sessions at w in
    let met : are_met Present m.job ≡ true = rw m.sessions m.all in
    let closes : closed Present m.end.part m.end.job ≡ Some m.job = closed_of_task Present m.end.part m.end.job m.job m.at met in
    let took : take_card Present m.end End ≡ Some (end m.job) = rw closes refl in
    let one : step Present m.end (ended (codes "ENDJOB")) ≡ Some (end m.job) = card_step Present m.end (end m.job) (ended (codes "ENDJOB")) End (closed_raw Present m.end.part m.end.job m.job closes) refl took in
    record { lines = m.lines ++ ended (codes "ENDJOB") ∷ []; end = end m.job; runs = run_append Present st m.lines (ended (codes "ENDJOB") ∷ []) ∙ (rw (m.runs, one) refl); done = refl }

present_ends : (p : Part) (j : DraftView) (over : Option Limit) → Waits p j → Ending (state p j over)
present_ends part.Sessions j over w = ends_met (state part.Sessions j over) j refl w.wants
present_ends (part.Task t) j over w = ends_met (state (part.Task t) j over) (with_task j t.task) refl (wants_task j t.task w.wants)
present_ends part.Done j over w = record { lines = []; end = state part.Done j over; runs = refl; done = refl }
present_ends p j over w = ending_of (state p j over) (completes_at Present p j over (none_met (sofar_at p j) w.early))

ends : (cards : Grammar) (lines : List LineView) (st : State) → run Present (start cards) lines ≡ Some st → Ending st
ends cards lines st e = present_ends st.part st.job st.over (run_waits lines (start cards) st e (record { wants = none_wanted (start cards).job refl; early = refl }))

-- lines that run begin a job
pub run_begins : {cards : Grammar} (lines : List LineView) (st : State) → run Present (start cards) lines ≡ Some st → JobBegins cards lines
run_begins {cards} lines st e =
    let c = ends cards lines st e in
    let r : run Present (start cards) (lines ++ c.lines) ≡ Some c.end = run_append Present (start cards) lines c.lines ∙ (rw e c.runs) in
    record { rest = c.lines; job = _; spells = run_spells Present (lines ++ c.lines) c.end r c.done }
