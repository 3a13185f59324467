-- Lines that spell a job run to its end.
use Rattle.std.proofs.Common.{◌≡◌, ℕ, ◌-◌, ◌<◌, ◌≤◌, zero, true, false, nat_eq, nat_le, Option, Some, None, List, [], ◌∷◌, ◌++◌, length, map, take, refl, ap, option_map, option_and_then, sym, ◌∙◌, arith, append_assoc, append-nil, length-append, ◌+◌, suc, inl, inr}
use Rattle.std.proofs.lemmas.Bool.{cases_order}
use Rattle.std.proofs.lemmas.Bool.Decides.{nat_tests}
use Rattle.std.proofs.lemmas.Option.{same_Some, cond_some}
use Rattle.std.specs.List.{concat}
use Rattle.cov_base.specs.Meaning.{ImageView}
use Rattle.session_book.specs.Meaning.{JobView, TaskView}
use Rattle.job_text.specs.Meaning.{DraftView, Controllers, are_met, bound, Present, LineView, listing_text, CardView, Cover, Module, Text, Listing, Phase, Session, Task, Reg, Data, Input, End, IsCard, card_at, no_job, with_module, with_task, joined, AreCards, IsListed, IsModule, IsTaskBlock, IsPhase, Spells, JobBegins, Lead, IsServiceCard, IsSessionCard, Serve}
use Rattle.job_text.specs.declared.grammar.Grammar.{Grammar}
use Rattle.job_text.specs.TaskParts.{fresh_task, task_more}
use Rattle.job_text.specs.declared.task.TaskPart.{TaskPart}
use Rattle.job_text.specs.declared.limit.Limit.{Limit}
use Rattle.job_text.specs.declared.parts.Part.{Part}
use Rattle.job_text.specs.declared.parts.Part.TheVariants as part
use Rattle.job_text.specs.Steps.{State, state, start, is_done, closed_module, closed_service, closed_task, closed, no_bytes, with_bytes, module_over, line_over, phase_over, session_over, task_over, end, takes_raw, take_card, step, run}
use Rattle.job_text.proofs.Guards.{then_some}
use Rattle.job_text.proofs.TaskCards.{cards_first, rise_from, more_step, more_run, cards_run}

-- the state runs over the lines to one for which the fact holds
pub record Reaches (ask : Controllers) (st : State) (ls : List LineView) (P : State → Type 0) : Type 0 where
  pub end : State
  pub runs : run ask st ls ≡ Some end
  pub holds : P end

pub run_append : (ask : Controllers) (st : State) (a b : List LineView) → run ask st (a ++ b) ≡ option_and_then (λ s. run ask s b) (run ask st a)
run_append ask st [] b = refl
run_append ask st (l ∷ ls) b = elim (step ask st l) as (λ o. option_and_then (λ s. run ask s (ls ++ b)) o ≡ option_and_then (λ s. run ask s b) (option_and_then (λ s. run ask s ls) o)) [
  | Some s ↦ run_append ask s ls b
  | None ↦ refl
]

reach_on : (ask : Controllers) (st : State) (a b : List LineView) (P Q : State → Type 0) → Reaches ask st a P → ((s : State) → P s → Reaches ask s b Q) → Reaches ask st (a ++ b) Q
reach_on ask st a b P Q r more =
    let next = more r.end r.holds in
    record { end = next.end; runs = rw (run_append ask st a b, r.runs) next.runs; holds = next.holds }

-- one line first
reach_first : (ask : Controllers) (st s : State) (l : LineView) (ls : List LineView) (Q : State → Type 0) → step ask st l ≡ Some s → Reaches ask s ls Q → Reaches ask st (l ∷ ls) Q
reach_first ask st s l ls Q e r = record { end = r.end; runs = rw e r.runs; holds = r.holds }

-- a card's step
pub card_step : (ask : Controllers) (st s : State) (l : LineView) (c : CardView) → takes_raw st.part ≡ false → IsCard l c → take_card ask st c ≡ Some s → step ask st l ≡ Some s
card_step ask st s l c raw card e = rw (raw, card) e

pub service_of_module : (p : Part) (j k : DraftView) → closed_module p j ≡ Some k → closed_service p j ≡ Some k
service_of_module part.Services j k e = absurd cc
service_of_module p j k e = e

pub closed_of_service : (ask : Controllers) (p : Part) (j k : DraftView) → closed_service p j ≡ Some k → closed ask p j ≡ Some k
closed_of_service ask part.Sessions j k e = absurd cc
closed_of_service ask (part.Task t) j k e = absurd cc
closed_of_service ask p j k e = e

pub closed_of_module : (ask : Controllers) (p : Part) (j k : DraftView) → closed_module p j ≡ Some k → closed ask p j ≡ Some k
closed_of_module ask p j k e = closed_of_service ask p j k (service_of_module p j k e)

pub closed_of_task : (ask : Controllers) (p : Part) (j k : DraftView) → closed_task p j ≡ Some k → are_met ask k ≡ true → closed ask p j ≡ Some k
closed_of_task ask part.Sessions j k e met = let same : j ≡ k = same_Some j k e in rw (same, met) refl
closed_of_task ask (part.Task t) j k e met = let same : with_task j t.task ≡ k = same_Some (with_task j t.task) k e in rw (same, met) refl
closed_of_task ask p j k e met = absurd cc

-- where a task may come, no line of a listing comes
pub task_raw : (p : Part) (j k : DraftView) → closed_task p j ≡ Some k → takes_raw p ≡ false
task_raw (part.Listed i left lines) j k e = absurd cc
task_raw p j k e = refl

-- where something may end, no line of a listing comes
pub closed_raw : (ask : Controllers) (p : Part) (j k : DraftView) → closed ask p j ≡ Some k → takes_raw p ≡ false
closed_raw ask (part.Listed i left lines) j k e = let g = cond_some (nat_eq left 0) (with_module j i (Some lines)) k e in rw g.0 refl
closed_raw ask p j k e = refl

-- the part and the job
pub record Is (p : Part) (j : DraftView) (st : State) : Type 0 where
  pub at : st.part ≡ p
  pub is : st.job ≡ j

is_here : (p : Part) (j : DraftView) (over : Option Limit) → Is p j (state p j over)
is_here p j over = record { at = refl; is = refl }

run_texts : (ask : Controllers) (ls : List LineView) (parts : List (List ℕ)) (i : ImageView) (j : DraftView) (over : Option Limit) → AreCards Text parts ls →
    Reaches ask (state (part.Texts i (length (concat parts))) j over) ls (Is (part.Texts (with_bytes i (concat parts)) 0) j)
run_texts ask [] [] i j over are = rw (append-nil {A = ℕ}) (record { end = state (part.Texts i 0) j over; runs = refl; holds = is_here (part.Texts i 0) j over })
run_texts ask [] (b ∷ bs) i j over are = absurd cc
run_texts ask (l ∷ ls) [] i j over are = absurd cc
run_texts ask (l ∷ ls) (b ∷ bs) i j over are =
    let c = cards_first Text b bs l ls are in
    let size : length (b ++ concat bs) ≡ length b + length (concat bs) = length-append b (concat bs) in
    let fit : nat_le (length b) (length (b ++ concat bs)) ≡ true = grind (arith, nat_tests, size) in
    let left : length (b ++ concat bs) - length b ≡ length (concat bs) = omega (arith, size) in
    let now : State = state (part.Texts i (length (concat (b ∷ bs)))) j over in
    let next : State = state (part.Texts (with_bytes i b) (length (concat bs))) j None in
    let e : take_card ask now (Text b) ≡ Some next = rw (fit, left) refl in
    let more : Reaches ask next ls (Is (part.Texts (with_bytes (with_bytes i b) (concat bs)) 0) j) = run_texts ask ls bs (with_bytes i b) j None c.1 in
    reach_first ask now next l ls _ (card_step ask now next l (Text b) refl c.0 e) (rw (← append_assoc i.bytes b (concat bs)) more)

run_filled : (ask : Controllers) (ls : List LineView) (parts : List (List ℕ)) (bytes : List ℕ) (i : ImageView) (j : DraftView) (over : Option Limit) → AreCards Text parts ls → bytes ≡ concat parts →
    Reaches ask (state (part.Texts i (length bytes)) j over) ls (Is (part.Texts (with_bytes i bytes) 0) j)
run_filled ask ls parts bytes i j over are e = rw e (run_texts ask ls parts i j over are)

run_raw : (ask : Controllers) (ls : List LineView) (texts : List (List ℕ)) (i : ImageView) (j : DraftView) (over : Option Limit) →
    Reaches ask (state (part.Listed i (length ls) texts) j over) ls (Is (part.Listed i 0 (texts ++ map listing_text ls)) j)
run_raw ask [] texts i j over = rw (append-nil {A = List ℕ}) (record { end = state (part.Listed i 0 texts) j over; runs = refl; holds = is_here (part.Listed i 0 texts) j over })
run_raw ask (l ∷ ls) texts i j over =
    let less : suc (length ls) - 1 ≡ length ls = omega arith in
    let some : nat_eq (suc (length ls)) 0 ≡ false = grind (arith, nat_tests) in
    let text : List ℕ = listing_text l in
    let now : State = state (part.Listed i (length (l ∷ ls)) texts) j over in
    let next : State = state (part.Listed i (length ls) (texts ++ text ∷ [])) j (line_over text) in
    let e : step ask now l ≡ Some next = rw (some, less) refl in
    let more : Reaches ask next ls (Is (part.Listed i 0 ((texts ++ text ∷ []) ++ map listing_text ls)) j) = run_raw ask ls (texts ++ text ∷ []) i j (line_over text) in
    reach_first ask now next l ls _ e (rw (← append_assoc texts (text ∷ []) (map listing_text ls)) more)

-- a module may come behind this job
abbrev pub AtModules : DraftView → State → Type 0
AtModules j st = closed_module st.part st.job ≡ Some j

-- a service may come
abbrev pub AtServices : DraftView → State → Type 0
AtServices j st = closed_service st.part st.job ≡ Some j

-- a phase or the end may come
abbrev pub AtPhases : Controllers → DraftView → State → Type 0
AtPhases ask j st = closed ask st.part st.job ≡ Some j

-- a task may come
abbrev pub AtTasks : DraftView → State → Type 0
AtTasks j st = closed_task st.part st.job ≡ Some j

run_listed : (ask : Controllers) (ls : List LineView) (listed : Option (List (List ℕ))) (i : ImageView) (j : DraftView) (st : State) → IsListed ls listed → Is (part.Texts i 0) j st → Reaches ask st ls (AtModules (with_module j i listed))
run_listed ask ls None i j st is a = rw is (record { end = st; runs = refl; holds = rw (a.at, a.is) refl })
run_listed ask [] (Some texts) i j st is a = absurd is
run_listed ask (l ∷ ls) (Some texts) i j st is a =
    let next : State = state (part.Listed i (length ls) []) j None in
    let e : take_card ask st (Listing (length ls)) ≡ Some next = rw (a.at, a.is) refl in
    let raw : takes_raw st.part ≡ false = rw a.at refl in
    let r : Reaches ask next ls (Is (part.Listed i 0 (map listing_text ls)) j) = run_raw ask ls [] i j None in
    let holds : AtModules (with_module j i (Some texts)) r.end = rw (r.holds.at, r.holds.is, is.1) refl in
    reach_first ask st next l ls _ (card_step ask st next l (Listing (length ls)) raw is.0 e) (record { end = r.end; runs = r.runs; holds = holds })

run_module : (ask : Controllers) (block : List LineView) (j after : DraftView) (st : State) → IsModule j block after → AtModules j st → Reaches ask st block (AtModules after)
run_module ask block j after st m a =
    let size : ℕ = length m.image.bytes in
    let next : State = state (part.Texts (no_bytes m.image.name m.image.base) size) j (module_over j size) in
    let e : take_card ask st (Module m.image.name m.image.base size) ≡ Some next = rw (a, m.fit) refl in
    let raw : takes_raw st.part ≡ false = closed_raw ask st.part st.job j (closed_of_module ask st.part st.job j a) in
    let texts : Reaches ask next m.texts (Is (part.Texts m.image 0) j) = run_filled ask m.texts m.parts m.image.bytes (no_bytes m.image.name m.image.base) j (module_over j size) m.are_texts m.filled in
    rw (m.whole, m.is_after) (reach_first ask st next m.head (m.texts ++ m.listing) _ (card_step ask st next m.head _ raw m.card e)
    (reach_on ask next m.texts m.listing _ _ texts (λ s is. run_listed ask m.listing m.listed m.image j s m.is_listed is)))

run_modules : (ask : Controllers) (blocks : List (List LineView)) (j after : DraftView) (st : State) → Lead IsModule j blocks after → AtModules j st → Reaches ask st (joined blocks) (AtModules after)
run_modules ask [] j after st are a = rw (← are) (record { end = st; runs = refl; holds = a })
run_modules ask (block ∷ blocks) j after st are a =
    reach_on ask st block (joined blocks) _ _ (run_module ask block j are.mid st are.is a) (λ s b. run_modules ask blocks are.mid after s are.follows b)

run_service : (ask : Controllers) (l : LineView) (j after : DraftView) (st : State) → IsServiceCard j l after → AtServices j st → step ask st l ≡ Some (state part.Services after None)
run_service ask l j after st m a =
    let e : take_card ask st (Serve m.service) ≡ Some (state part.Services after None) = rw (a, m.adds) refl in
    card_step ask st _ l _ (closed_raw ask st.part st.job j (closed_of_service ask st.part st.job j a)) m.card e

run_services : (ask : Controllers) (ls : List LineView) (j after : DraftView) (st : State) → Lead IsServiceCard j ls after → AtServices j st → Reaches ask st ls (AtServices after)
run_services ask [] j after st are a = rw (← are) (record { end = st; runs = refl; holds = a })
run_services ask (l ∷ ls) j after st are a =
    let next : State = state part.Services are.mid None in
    reach_first ask st next l ls _ (run_service ask l j are.mid st are.is a) (run_services ask ls are.mid after next are.follows refl)

run_sessions : (ask : Controllers) (ls : List LineView) (j after : DraftView) (st : State) → Lead IsSessionCard j ls after → Is part.Sessions j st → Reaches ask st ls (Is part.Sessions after)
run_sessions ask [] j after st are a = rw (← are) (record { end = st; runs = refl; holds = a })
run_sessions ask (l ∷ ls) j after st are a =
    let next : State = state part.Sessions are.mid (session_over j) in
    let e : take_card ask st (Session are.is.name are.is.by are.is.names) ≡ Some next = rw (a.at, a.is, are.is.adds) refl in
    let raw : takes_raw st.part ≡ false = rw a.at refl in
    reach_first ask st next l ls _ (card_step ask st next l _ raw are.is.card e) (run_sessions ask ls are.mid after next are.follows (is_here part.Sessions are.mid (session_over j)))

-- further cards of a task
run_more : (ask : Controllers) (ls : List LineView) (t u : TaskPart) (j : DraftView) (over : Option Limit) → more_run t ls ≡ Some u → Reaches ask (state (part.Task t) j over) ls (Is (part.Task u) j)
run_more ask [] t u j over e = let same : t ≡ u = same_Some t u e in rw (← same) (record { end = state (part.Task t) j over; runs = refl; holds = is_here (part.Task t) j over })
run_more ask (l ∷ ls) t u j over e =
    let f = then_some (λ q. more_run q ls) (more_step t l) u e in
    let g = then_some (task_more t) (card_at l.bytes) f.from f.was in
    let now : State = state (part.Task t) j over in
    let next : State = state (part.Task f.from) j None in
    reach_first ask now next l ls _ (card_step ask now next l g.from refl g.was (more_taken ask g.from t f.from j over g.gives)) (run_more ask ls f.from u j None f.gives)
  where
    more_taken : (ask : Controllers) (c : CardView) (t u : TaskPart) (j : DraftView) (over : Option Limit) → task_more t c ≡ Some u → take_card ask (state (part.Task t) j over) c ≡ Some (state (part.Task u) j None)
    more_taken ask Cover t u j over e = absurd cc
    more_taken ask (Module n b s) t u j over e = absurd cc
    more_taken ask (Text bytes) t u j over e = absurd cc
    more_taken ask (Listing n) t u j over e = absurd cc
    more_taken ask (Serve s) t u j over e = absurd cc
    more_taken ask (Phase n) t u j over e = absurd cc
    more_taken ask (Session n by ns) t u j over e = absurd cc
    more_taken ask (Task n e p b r) t u j over f = absurd cc
    more_taken ask End t u j over e = absurd cc
    more_taken ask c t u j over e = ap (option_map (λ x. state (part.Task x) j None)) e

run_task : (ask : Controllers) (block : List LineView) (j after : DraftView) (st : State) → IsTaskBlock j block after → AtTasks j st → Reaches ask st block (AtTasks after)
run_task ask block j after st m a =
    let t : TaskView = m.task in
    let first : TaskPart = fresh_task t.name t.entry t.private t.budget t.room in
    let over : Option Limit = task_over j t.private t.budget t.room in
    let next : State = state (part.Task first) j over in
    let e : take_card ask st (Task t.name t.entry t.private t.budget t.room) ≡ Some next = rw (a, m.new) refl in
    let raw : takes_raw st.part ≡ false = task_raw st.part st.job j a in
    let r = cards_run m.regs t.cards m.inputs m.reg_lines m.data_lines m.input_lines first.task 0 m.are_regs (rise_from 0 m.regs (λ k d l. omega arith) m.rise) m.are_data m.inside m.are_inputs in
    let more = run_more ask (m.reg_lines ++ (m.data_lines ++ m.input_lines)) first _ j over r.runs in
    let holds : AtTasks after more.end = rw (more.holds.at, more.holds.is, m.is_after, m.set, m.filled) refl in
    rw m.whole (reach_first ask st next m.head _ _ (card_step ask st next m.head _ raw m.card e) (record { end = more.end; runs = more.runs; holds = holds }))

run_tasks : (ask : Controllers) (blocks : List (List LineView)) (j after : DraftView) (st : State) → Lead IsTaskBlock j blocks after → AtTasks j st → Reaches ask st (joined blocks) (AtTasks after)
run_tasks ask [] j after st are a = rw (← are) (record { end = st; runs = refl; holds = a })
run_tasks ask (block ∷ blocks) j after st are a =
    reach_on ask st block (joined blocks) _ _ (run_task ask block j are.mid st are.is a) (λ s b. run_tasks ask blocks are.mid after s are.follows b)

run_phase : (ask : Controllers) (block : List LineView) (j after : DraftView) (st : State) → IsPhase ask j block after → AtPhases ask j st → Reaches ask st block (AtPhases ask after)
run_phase ask block j after st m a =
    let next : State = state part.Sessions m.named (phase_over j) in
    let e : take_card ask st (Phase m.name) ≡ Some next = rw (a, m.adds) refl in
    let raw : takes_raw st.part ≡ false = closed_raw ask st.part st.job j a in
    rw m.whole (reach_first ask st next m.head (m.sessions ++ joined m.tasks) _ (card_step ask st next m.head _ raw m.card e)
    (reach_on ask next m.sessions (joined m.tasks) _ _ (run_sessions ask m.sessions m.named m.mid next m.are_sessions (is_here part.Sessions m.named (phase_over j)))
    (λ s b. let in_tasks : AtTasks m.mid s = rw (b.at, b.is) refl in
    let r : Reaches ask s (joined m.tasks) (AtTasks after) = run_tasks ask m.tasks m.mid after s m.are_tasks in_tasks in
    record { end = r.end; runs = r.runs; holds = closed_of_task ask r.end.part r.end.job after r.holds m.met })))

run_phases : (ask : Controllers) (blocks : List (List LineView)) (j after : DraftView) (st : State) → Lead (IsPhase ask) j blocks after → AtPhases ask j st → Reaches ask st (joined blocks) (AtPhases ask after)
run_phases ask [] j after st are a = rw (← are) (record { end = st; runs = refl; holds = a })
run_phases ask (block ∷ blocks) j after st are a =
    reach_on ask st block (joined blocks) _ _ (run_phase ask block j are.mid st are.is a) (λ s b. run_phases ask blocks are.mid after s are.follows b)

run_end : (ask : Controllers) (l : LineView) (j : DraftView) (st : State) → IsCard l End → AtPhases ask j st → Reaches ask st (l ∷ []) (Is part.Done j)
run_end ask l j st card a =
    let e : take_card ask st End ≡ Some (end j) = rw a refl in
    reach_first ask st (end j) l [] _ (card_step ask st (end j) l _ (closed_raw ask st.part st.job j a) card e) (record { end = end j; runs = refl; holds = is_here part.Done j None })

-- the job was read
pub record Ends (job : JobView) (st : State) : Type 0 where
  pub at : st.part ≡ part.Done
  pub is : bound st.job ≡ job

-- lines that spell a job run to its end
pub run_spelled : {cards : Grammar} (ask : Controllers) (lines : List LineView) (job : JobView) → Spells cards ask lines job → Reaches ask (start cards) lines (Ends job)
run_spelled {cards} ask lines job s =
    let next : State = state part.Modules (no_job cards) None in
    let r : Reaches ask (start cards) lines (Is part.Done s.draft) = rw s.whole (reach_first ask (start cards) next s.first _ _ (card_step ask (start cards) next s.first _ refl s.cover refl)
    (reach_on ask next (joined s.modules) (s.services ++ (joined s.phases ++ s.last ∷ [])) _ _ (run_modules ask s.modules (no_job cards) s.mid next s.are_modules refl)
    (λ t a. reach_on ask t s.services (joined s.phases ++ s.last ∷ []) _ _ (run_services ask s.services s.mid s.served t s.are_services (service_of_module t.part t.job s.mid a))
    (λ u b. reach_on ask u (joined s.phases) (s.last ∷ []) _ _ (run_phases ask s.phases s.served s.draft u s.are_phases (closed_of_service ask u.part u.job s.served b))
    (λ v c. run_end ask s.last s.draft v s.ends c))))) in
    record { end = r.end; runs = r.runs; holds = record { at = r.holds.at; is = ap bound r.holds.is ∙ sym s.is } }

-- lines that begin a job run
pub run_begun : {cards : Grammar} (lines : List LineView) → JobBegins cards lines → Reaches Present (start cards) lines (λ s. Unit {0})
run_begun {cards} lines b =
    let r = run_spelled Present (lines ++ b.rest) b.job b.spells in
    let t = then_some (λ s. run Present s b.rest) (run Present (start cards) lines) r.end (sym (run_append Present (start cards) lines b.rest) ∙ r.runs) in
    record { end = t.from; runs = t.was; holds = tt }

-- a job that was read stands still

done_card : (ask : Controllers) (c : CardView) (j : DraftView) (over : Option Limit) → take_card ask (state part.Done j over) c ≡ None
done_card ask Cover j over = refl
done_card ask (Module n b s) j over = refl
done_card ask (Text bytes) j over = refl
done_card ask (Listing n) j over = refl
done_card ask (Serve s) j over = refl
done_card ask (Phase n) j over = refl
done_card ask (Session n by ns) j over = refl
done_card ask (Task n e p b r) j over = refl
done_card ask (Reg n v) j over = refl
done_card ask (Data c) j over = refl
done_card ask (Input bytes) j over = refl
done_card ask End j over = refl

done_at : (ask : Controllers) (o : Option CardView) (j : DraftView) (over : Option Limit) → option_and_then (take_card ask (state part.Done j over)) o ≡ None
done_at ask None j over = refl
done_at ask (Some c) j over = done_card ask c j over

pub done_step : (ask : Controllers) (p : Part) (j : DraftView) (over : Option Limit) (l : LineView) → is_done p ≡ true → step ask (state p j over) l ≡ None
done_step ask part.Done j over l e = done_at ask (card_at l.bytes) j over
done_step ask p j over l e = absurd cc

done_run : (ask : Controllers) (st : State) (ls : List LineView) (e : State) → is_done st.part ≡ true → run ask st ls ≡ Some e → ls ≡ []
done_run ask st [] e d r = refl
done_run ask st (l ∷ ls) e d r =
    let stop : step ask st l ≡ None = done_step ask st.part st.job st.over l d in
    let no : None ≡ Some e = sym (ap (λ (o : Option State). option_and_then (λ s. run ask s ls) o) stop) ∙ r in
    absurd cc

-- lines that spell a job begin no longer lines that spell one
no_longer : (cards : Grammar) (ask : Controllers) (a b : List LineView) (s t : State) → run ask (start cards) a ≡ Some s → is_done s.part ≡ true → run ask (start cards) (a ++ b) ≡ Some t → b ≡ []
no_longer cards ask a b s t r d q = done_run ask s b t d ((rw (run_append ask (start cards) a b, r) at q))

record Longer (ls : List LineView) (k n : ℕ) : Type 0 where
  line : LineView
  more : List LineView
  taken : take n ls ≡ take k ls ++ line ∷ more

longer : (ls : List LineView) (k n : ℕ) → k < n → n ≤ length ls → Longer ls k n
longer [] k zero h m = absurd (omega arith)
longer [] k (suc n) h m = absurd (omega arith)
longer (x ∷ xs) k zero h m = absurd (omega arith)
longer (x ∷ xs) zero (suc n) h m = record { line = x; more = take n xs; taken = refl }
longer (x ∷ xs) (suc k) (suc n) h m =
    let r : Longer xs k n = longer xs k n (omega arith) (omega arith) in
    record { line = r.line; more = r.more; taken = ap (λ (y : List LineView). x ∷ y) r.taken }

pub not_later : (cards : Grammar) (ask : Controllers) (ls : List LineView) (k n : ℕ) (s t : State) → k < n → n ≤ length ls → run ask (start cards) (take k ls) ≡ Some s → is_done s.part ≡ true → run ask (start cards) (take n ls) ≡ Some t → ⊥
not_later cards ask ls k n s t h m r d q =
    let x : Longer ls k n = longer ls k n h m in
    let none : x.line ∷ x.more ≡ [] = no_longer cards ask (take k ls) (x.line ∷ x.more) s t r d (rw x.taken at q) in
    absurd cc

-- the job that was read is the only one that some first lines spell
pub alone : {cards : Grammar} (ask : Controllers) (ls : List LineView) (k n : ℕ) (s : State) (job : JobView) → k ≤ length ls → run ask (start cards) (take k ls) ≡ Some s → is_done s.part ≡ true → n ≤ length ls → Spells cards ask (take n ls) job → (bound s.job ≡ job) × (k ≡ n)
alone {cards} ask ls k n s job within r d h p =
    let x : Reaches ask (start cards) (take n ls) (Ends job) = run_spelled ask (take n ls) job p in
    let done : is_done x.end.part ≡ true = ap is_done x.holds.at in
    let same : k ≡ n = elim (cases_order k n) [
      | inl e ↦ e
      | inr y ↦ (elim y [ inl l ↦ absurd (not_later cards ask ls k n s x.end l h r d x.runs) | inr l ↦ absurd (not_later cards ask ls n k x.end s l within x.runs done r) ])
    ] in
    let t : run ask (start cards) (take n ls) ≡ Some s = (rw same at r) in
    let end : s ≡ x.end = same_Some s x.end (sym t ∙ x.runs) in
    (ap (λ (y : State). bound y.job) end ∙ x.holds.is, same)

-- no lines that spell a job begin others that spell one
pub one_first : {cards : Grammar} (ask : Controllers) (ls : List LineView) (m n : ℕ) (j k : JobView) → m ≤ length ls → n ≤ length ls → Spells cards ask (take m ls) j → Spells cards ask (take n ls) k → (m ≡ n) × (j ≡ k)
one_first {cards} ask ls m n j k h i p q =
    let x : Reaches ask (start cards) (take m ls) (Ends j) = run_spelled ask (take m ls) j p in
    let a = alone ask ls m n x.end k h x.runs (ap is_done x.holds.at) i q in
    (a.1, sym x.holds.is ∙ a.0)
