-- Lines that run to the end spell the job that was read.
use Rattle.std.proofs.Common.{◌≡◌, ℕ, ◌-◌, ◌<◌, ◌≤◌, true, false, nat_eq, nat_le, cond, Option, Some, None, List, [], ◌∷◌, ◌++◌, length, map, refl, ap, subst, option_and_then, sym, arith, append_assoc, append-nil, length-append, inl, inr, eqb-true}
use Rattle.std.proofs.lemmas.Bool.Decides.{nat_tests}
use Rattle.std.proofs.lemmas.Option.{same_Some, cond_some}
use Rattle.std.specs.List.{concat}
use Rattle.cov_base.specs.Meaning.{ImageView}
use Rattle.session_book.specs.Meaning.{TaskView}
use Rattle.job_text.specs.Meaning.{DraftView, Controllers, are_met, bound, LineView, listing_text, CardView, Cover, Module, Text, Listing, Phase, Session, Task, Reg, Data, Input, End, IsCard, card_at, no_job, fits, with_module, with_phase, with_new_session, has_task, with_task, joined, AreCards, IsListed, Spells, Lead, IsModule, IsServiceCard, IsSessionCard, IsTaskBlock, IsPhase, Serve, with_service}
use Rattle.session_book.specs.declared.services.Service.{Service}
use Rattle.job_text.specs.declared.grammar.Grammar.{Grammar}
use Rattle.job_text.specs.TaskParts.{fresh_view, fresh_task, task_more}
use Rattle.job_text.specs.declared.parts.Part.{Part}
use Rattle.job_text.specs.declared.parts.Part.TheVariants as part
use Rattle.job_text.specs.Steps.{State, state, start, is_start, is_sessions, is_done, closed_module, closed_service, closed_task, met_of, closed, no_bytes, with_bytes, module_over, line_over, phase_over, session_over, task_over, open_module, open_task, add_service, open_phase, add_session, take_text, take_listing, take_more, end, takes_raw, take_raw, take_card, step, run}
use Rattle.job_text.proofs.Guards.{guard_more, map_some, then_some, choose, guard_none}
use Rattle.job_text.proofs.TaskCards.{cards_more, rise_pairs, with_regs, with_cards, with_inputs, AtInputs, AtData, AtRegs, AtPart, stage_ends, more_back}

-- what may still come, behind each line

pub record RestEnd (ask : Controllers) (j : DraftView) (ls : List LineView) (d : DraftView) : Type 0 where
  pub blocks : List (List LineView)
  pub last : LineView
  pub whole : ls ≡ joined blocks ++ last ∷ []
  pub are : Lead (IsPhase ask) j blocks d
  pub ends : IsCard last End

pub record RestTasks (ask : Controllers) (j : DraftView) (ls : List LineView) (d : DraftView) : Type 0 where
  pub blocks : List (List LineView)
  pub rest : List LineView
  pub mid : DraftView
  pub whole : ls ≡ joined blocks ++ rest
  pub are : Lead IsTaskBlock j blocks mid
  pub met : are_met ask mid ≡ true
  pub after : RestEnd ask mid rest d

pub record RestSessions (ask : Controllers) (j : DraftView) (ls : List LineView) (d : DraftView) : Type 0 where
  pub sessions : List LineView
  pub rest : List LineView
  pub mid : DraftView
  pub whole : ls ≡ sessions ++ rest
  pub are : Lead IsSessionCard j sessions mid
  pub after : RestTasks ask mid rest d

pub record RestServices (ask : Controllers) (j : DraftView) (ls : List LineView) (d : DraftView) : Type 0 where
  pub services : List LineView
  pub rest : List LineView
  pub mid : DraftView
  pub whole : ls ≡ services ++ rest
  pub are : Lead IsServiceCard j services mid
  pub after : RestEnd ask mid rest d

pub record RestModules (ask : Controllers) (j : DraftView) (ls : List LineView) (d : DraftView) : Type 0 where
  pub blocks : List (List LineView)
  pub rest : List LineView
  pub mid : DraftView
  pub whole : ls ≡ joined blocks ++ rest
  pub are : Lead IsModule j blocks mid
  pub after : RestServices ask mid rest d

pub record RestListed (ask : Controllers) (i : ImageView) (left : ℕ) (texts : List (List ℕ)) (j : DraftView) (ls : List LineView) (d : DraftView) : Type 0 where
  pub lines : List LineView
  pub rest : List LineView
  pub whole : ls ≡ lines ++ rest
  pub size : length lines ≡ left
  pub after : RestModules ask (with_module j i (Some (texts ++ map listing_text lines))) rest d

pub record RestTexts (ask : Controllers) (i : ImageView) (left : ℕ) (j : DraftView) (ls : List LineView) (d : DraftView) : Type 0 where
  pub texts : List LineView
  pub listing : List LineView
  pub rest : List LineView
  pub parts : List (List ℕ)
  pub listed : Option (List (List ℕ))
  pub whole : ls ≡ texts ++ (listing ++ rest)
  pub are : AreCards Text parts texts
  pub size : length (concat parts) ≡ left
  pub is : IsListed listing listed
  pub after : RestModules ask (with_module j (with_bytes i (concat parts)) listed) rest d

-- behind a task of the job
abbrev pub Behind : Controllers → DraftView → DraftView → TaskView → List LineView → Type 0
Behind ask j d t ls = RestTasks ask (with_task j t) ls d

pub record RestAll (ask : Controllers) (j : DraftView) (ls : List LineView) (d : DraftView) : Type 0 where
  pub first : LineView
  pub rest : List LineView
  pub whole : ls ≡ first ∷ rest
  pub cover : IsCard first Cover
  pub after : RestModules ask j rest d

abbrev pub Rest : Controllers → Part → DraftView → List LineView → DraftView → Type 0
Rest ask part.Start j ls d = RestAll ask j ls d
Rest ask part.Modules j ls d = RestModules ask j ls d
Rest ask (part.Texts i left) j ls d = RestTexts ask i left j ls d
Rest ask (part.Listed i left texts) j ls d = RestListed ask i left texts j ls d
Rest ask part.Services j ls d = RestServices ask j ls d
Rest ask part.Sessions j ls d = RestSessions ask j ls d
Rest ask (part.Task t) j ls d = AtPart t (Behind ask j d) ls
Rest ask part.Done j ls d = (ls ≡ []) × (d ≡ j)

abbrev RestOf : Controllers → State → List LineView → DraftView → Type 0
RestOf ask st ls d = Rest ask st.part st.job ls d

was : (ask : Controllers) (ls : List LineView) (d : DraftView) (x s : State) → x ≡ s → RestOf ask s ls d → RestOf ask x ls d
was ask ls d x s e r = subst (λ (t : State). RestOf ask t ls d) (sym e) r

no_tasks : (ask : Controllers) (j : DraftView) (ls : List LineView) (d : DraftView) → are_met ask j ≡ true → RestEnd ask j ls d → RestTasks ask j ls d
no_tasks ask j ls d met r = record { blocks = []; rest = ls; mid = j; whole = refl; are = refl; met = met; after = r }

no_sessions : (ask : Controllers) (j : DraftView) (ls : List LineView) (d : DraftView) → RestTasks ask j ls d → RestSessions ask j ls d
no_sessions ask j ls d r = record { sessions = []; rest = ls; mid = j; whole = refl; are = refl; after = r }

no_services : (ask : Controllers) (j : DraftView) (ls : List LineView) (d : DraftView) → RestEnd ask j ls d → RestServices ask j ls d
no_services ask j ls d r = record { services = []; rest = ls; mid = j; whole = refl; are = refl; after = r }

no_modules : (ask : Controllers) (j : DraftView) (ls : List LineView) (d : DraftView) → RestServices ask j ls d → RestModules ask j ls d
no_modules ask j ls d r = record { blocks = []; rest = ls; mid = j; whole = refl; are = refl; after = r }

-- what may come behind the closed job may come here

same_job : (ask : Controllers) (j k : DraftView) (ls : List LineView) (d : DraftView) → Some j ≡ Some k → RestModules ask k ls d → RestModules ask j ls d
same_job ask j k ls d e r = let same : j ≡ k = same_Some j k e in rw same r

texts_whole : (ask : Controllers) (i : ImageView) (left : ℕ) (j k : DraftView) (ls : List LineView) (d : DraftView) → cond (nat_eq left 0) (Some (with_module j i None)) None ≡ Some k → RestModules ask k ls d → RestTexts ask i left j ls d
texts_whole ask i left j k ls d e r =
    let g = cond_some (nat_eq left 0) (with_module j i None) k e in
    record {
      texts = [];
      listing = [];
      rest = ls;
      parts = [];
      listed = None;
      whole = refl;
      are = refl;
      size = sym (eqb-true left 0 g.0);
      is = refl;
      after = rw (append-nil {A = ℕ}, g.1) r;
    }

listed_whole : (ask : Controllers) (i : ImageView) (left : ℕ) (texts : List (List ℕ)) (j k : DraftView) (ls : List LineView) (d : DraftView) → cond (nat_eq left 0) (Some (with_module j i (Some texts))) None ≡ Some k →
    RestModules ask k ls d → RestListed ask i left texts j ls d
listed_whole ask i left texts j k ls d e r =
    let g = cond_some (nat_eq left 0) (with_module j i (Some texts)) k e in
    record { lines = []; rest = ls; whole = refl; size = sym (eqb-true left 0 g.0); after = rw (append-nil {A = List ℕ}, g.1) r }

module_closes : (ask : Controllers) (p : Part) (j k : DraftView) (ls : List LineView) (d : DraftView) → closed_module p j ≡ Some k → RestModules ask k ls d → Rest ask p j ls d
module_closes ask part.Modules j k ls d e r = same_job ask j k ls d e r
module_closes ask (part.Texts i left) j k ls d e r = texts_whole ask i left j k ls d e r
module_closes ask (part.Listed i left texts) j k ls d e r = listed_whole ask i left texts j k ls d e r
module_closes ask p j k ls d e r = absurd cc

service_closes : (ask : Controllers) (p : Part) (j k : DraftView) (ls : List LineView) (d : DraftView) → closed_service p j ≡ Some k → RestServices ask k ls d → Rest ask p j ls d
service_closes ask part.Services j k ls d e r = let same : j ≡ k = same_Some j k e in rw same r
service_closes ask p j k ls d e r = module_closes ask p j k ls d e (no_modules ask k ls d r)

task_closes : (ask : Controllers) (p : Part) (j k : DraftView) (ls : List LineView) (d : DraftView) → closed_task p j ≡ Some k → RestTasks ask k ls d → Rest ask p j ls d
task_closes ask part.Sessions j k ls d e r = let same : j ≡ k = same_Some j k e in rw same (no_sessions ask k ls d r)
task_closes ask (part.Task t) j k ls d e r = let same : with_task j t.task ≡ k = same_Some _ k e in stage_ends t.stage t.task (Behind ask j d) ls (rw same r)
task_closes ask p j k ls d e r = absurd cc

met_closed : (ask : Controllers) (j k : DraftView) → met_of ask j ≡ Some k → (are_met ask k ≡ true) × (j ≡ k)
met_closed ask j k e = let g = cond_some (are_met ask j) j k e in (subst (λ (x : DraftView). are_met ask x ≡ true) g.1 g.0, g.1)

closes : (ask : Controllers) (p : Part) (j k : DraftView) (ls : List LineView) (d : DraftView) → closed ask p j ≡ Some k → RestEnd ask k ls d → Rest ask p j ls d
closes ask part.Sessions j k ls d e r = let g = met_closed ask j k e in task_closes ask part.Sessions j k ls d (ap (λ (x : DraftView). Some x) g.1) (no_tasks ask k ls d g.0 r)
closes ask (part.Task t) j k ls d e r = let g = met_closed ask (with_task j t.task) k e in task_closes ask (part.Task t) j k ls d (ap (λ (x : DraftView). Some x) g.1) (no_tasks ask k ls d g.0 r)
closes ask p j k ls d e r = service_closes ask p j k ls d e (no_services ask k ls d r)

-- a line first

raw_back : (ask : Controllers) (p : Part) (j : DraftView) (l : LineView) (ls : List LineView) (d : DraftView) (s : State) → takes_raw p ≡ true → take_raw p j (listing_text l) ≡ Some s → RestOf ask s ls d → Rest ask p j (l ∷ ls) d
raw_back ask (part.Listed i left texts) j l ls d s raw e r =
    let text : List ℕ = listing_text l in
    let some : 0 < left = grind (arith, nat_tests) in
    let a : RestListed ask i (left - 1) (texts ++ text ∷ []) j ls d = was ask ls d (state (part.Listed i (left - 1) (texts ++ text ∷ [])) j (line_over text)) s (same_Some _ s e) r in
    record {
      lines = l ∷ a.lines;
      rest = a.rest;
      whole = ap (λ (x : List LineView). l ∷ x) a.whole;
      size = omega (arith, a.size);
      after = rw (← append_assoc texts (text ∷ []) (map listing_text a.lines)) a.after;
    }
raw_back ask p j l ls d s raw e r = absurd cc

text_back : (ask : Controllers) (p : Part) (j : DraftView) (bytes : List ℕ) (l : LineView) (ls : List LineView) (d : DraftView) (s : State) → IsCard l (Text bytes) → take_text p j bytes ≡ Some s → RestOf ask s ls d → Rest ask p j (l ∷ ls) d
text_back ask (part.Texts i left) j bytes l ls d s card e r =
    let next : State = state (part.Texts (with_bytes i bytes) (left - length bytes)) j None in
    let g = cond_some (nat_le (length bytes) left) next s e in
    let a : RestTexts ask (with_bytes i bytes) (left - length bytes) j ls d = was ask ls d next s g.1 r in
    let fit : length bytes ≤ left = grind (arith, nat_tests, g.0) in
    record {
      texts = l ∷ a.texts;
      listing = a.listing;
      rest = a.rest;
      parts = bytes ∷ a.parts;
      listed = a.listed;
      whole = ap (λ (x : List LineView). l ∷ x) a.whole;
      are = cards_more Text bytes a.parts l a.texts card a.are;
      size = omega (arith, a.size, length-append bytes (concat a.parts));
      is = a.is;
      after = rw (← append_assoc i.bytes bytes (concat a.parts)) a.after;
    }
text_back ask p j bytes l ls d s card e r = absurd cc

listing_back : (ask : Controllers) (p : Part) (j : DraftView) (n : ℕ) (l : LineView) (ls : List LineView) (d : DraftView) (s : State) → IsCard l (Listing n) → take_listing p j n ≡ Some s → RestOf ask s ls d → Rest ask p j (l ∷ ls) d
listing_back ask (part.Texts i left) j n l ls d s card e r =
    let next : State = state (part.Listed i n []) j None in
    let g = cond_some (nat_eq left 0) next s e in
    let a : RestListed ask i n [] j ls d = was ask ls d next s g.1 r in
    record {
      texts = [];
      listing = l ∷ a.lines;
      rest = a.rest;
      parts = [];
      listed = Some (map listing_text a.lines);
      whole = ap (λ (x : List LineView). l ∷ x) a.whole;
      are = refl;
      size = sym (eqb-true left 0 g.0);
      is = (rw a.size card, refl);
      after = rw (append-nil {A = ℕ}) a.after;
    }
listing_back ask p j n l ls d s card e r = absurd cc

module_first : (ask : Controllers) (j : DraftView) (l : LineView) (ls : List LineView) (d : DraftView) (name : List ℕ) (base size : ℕ) → IsCard l (Module name base size) → fits j name base size ≡ true →
    RestTexts ask (no_bytes name base) size j ls d → RestModules ask j (l ∷ ls) d
module_first ask j l ls d name base size card fit r = record {
  blocks = (l ∷ (r.texts ++ r.listing)) ∷ r.after.blocks;
  rest = r.after.rest;
  mid = r.after.mid;
  whole = rw (r.whole, r.after.whole) (simp append_assoc);
  are = record {
    mid = with_module j (with_bytes (no_bytes name base) (concat r.parts)) r.listed;
    is = record {
      head = l;
      texts = r.texts;
      listing = r.listing;
      whole = refl;
      image = with_bytes (no_bytes name base) (concat r.parts);
      parts = r.parts;
      listed = r.listed;
      card = rw r.size card;
      fit = rw r.size fit;
      are_texts = r.are;
      filled = refl;
      is_listed = r.is;
      is_after = refl;
    };
    follows = r.after.are;
  };
  after = r.after.after;
}

module_back : (ask : Controllers) (st s : State) (name : List ℕ) (base size : ℕ) (l : LineView) (ls : List LineView) (d : DraftView) → IsCard l (Module name base size) → take_card ask st (Module name base size) ≡ Some s → RestOf ask s ls d → RestOf ask st (l ∷ ls) d
module_back ask st s name base size l ls d card e r =
    let t = then_some (open_module name base size) (closed_module st.part st.job) s e in
    let next : State = state (part.Texts (no_bytes name base) size) t.from (module_over t.from size) in
    let g = cond_some (fits t.from name base size) next s t.gives in
    module_closes ask st.part st.job t.from (l ∷ ls) d t.was (module_first ask t.from l ls d name base size card g.0 (was ask ls d next s g.1 r))

service_first : (ask : Controllers) (j next : DraftView) (v : Service) (l : LineView) (ls : List LineView) (d : DraftView) → IsCard l (Serve v) → with_service j v ≡ Some next → RestServices ask next ls d → RestServices ask j (l ∷ ls) d
service_first ask j next v l ls d card adds r = record {
  services = l ∷ r.services;
  rest = r.rest;
  mid = r.mid;
  whole = ap (λ (x : List LineView). l ∷ x) r.whole;
  are = record { mid = next; is = record { service = v; card = card; adds = adds }; follows = r.are };
  after = r.after;
}

service_back : (ask : Controllers) (st s : State) (v : Service) (l : LineView) (ls : List LineView) (d : DraftView) → IsCard l (Serve v) → take_card ask st (Serve v) ≡ Some s → RestOf ask s ls d → RestOf ask st (l ∷ ls) d
service_back ask st s v l ls d card e r =
    let t = then_some (add_service v) (closed_service st.part st.job) s e in
    let m = map_some (λ k. state part.Services k None) (with_service t.from v) s t.gives in
    service_closes ask st.part st.job t.from (l ∷ ls) d t.was (service_first ask t.from m.from v l ls d card m.was (was ask ls d (state part.Services m.from None) s m.gives r))

phase_first : (ask : Controllers) (j named : DraftView) (l : LineView) (ls : List LineView) (d : DraftView) (name : List ℕ) → IsCard l (Phase name) → with_phase j name ≡ Some named → RestSessions ask named ls d → RestEnd ask j (l ∷ ls) d
phase_first ask j named l ls d name card adds r =
    let t : RestTasks ask r.mid r.rest d = r.after in
    let p : RestEnd ask t.mid t.rest d = t.after in
    record {
      blocks = (l ∷ (r.sessions ++ joined t.blocks)) ∷ p.blocks;
      last = p.last;
      whole = rw (r.whole, t.whole, p.whole) (simp append_assoc);
      are = record {
        mid = t.mid;
        is = record {
          head = l;
          sessions = r.sessions;
          tasks = t.blocks;
          whole = refl;
          name = name;
          named = named;
          mid = r.mid;
          card = card;
          adds = adds;
          are_sessions = r.are;
          are_tasks = t.are;
          met = t.met;
        };
        follows = p.are;
      };
      ends = p.ends;
    }

phase_back : (ask : Controllers) (st s : State) (name : List ℕ) (l : LineView) (ls : List LineView) (d : DraftView) → IsCard l (Phase name) → take_card ask st (Phase name) ≡ Some s → RestOf ask s ls d → RestOf ask st (l ∷ ls) d
phase_back ask st s name l ls d card e r =
    let t = then_some (open_phase name) (closed ask st.part st.job) s e in
    let m = map_some (λ k. state part.Sessions k (phase_over t.from)) (with_phase t.from name) s t.gives in
    closes ask st.part st.job t.from (l ∷ ls) d t.was (phase_first ask t.from m.from l ls d name card m.was (was ask ls d (state part.Sessions m.from (phase_over t.from)) s m.gives r))

session_back : (ask : Controllers) (p : Part) (j : DraftView) (s : State) (name : List ℕ) (by : Option (List ℕ)) (names : List (List ℕ)) (l : LineView) (ls : List LineView) (d : DraftView) → IsCard l (Session name by names) → is_sessions p ≡ true → add_session j name by names ≡ Some s → RestOf ask s ls d → Rest ask p j (l ∷ ls) d
session_back ask part.Sessions j s name by names l ls d card is e r =
    let m = map_some (λ k. state part.Sessions k (session_over j)) (with_new_session j name by names) s e in
    let a : RestSessions ask m.from ls d = was ask ls d (state part.Sessions m.from (session_over j)) s m.gives r in
    record {
      sessions = l ∷ a.sessions;
      rest = a.rest;
      mid = a.mid;
      whole = ap (λ (x : List LineView). l ∷ x) a.whole;
      are = record { mid = m.from; is = record { name = name; by = by; names = names; card = card; adds = m.was }; follows = a.are };
      after = a.after;
    }
session_back ask p j s name by names l ls d card is e r = absurd cc

task_first : (ask : Controllers) (j : DraftView) (name : List ℕ) (entry private budget room : ℕ) (l : LineView) (ls : List LineView) (d : DraftView) → IsCard l (Task name entry private budget room) → has_task j name ≡ false →
    AtPart (fresh_task name entry private budget room) (Behind ask j d) ls → RestTasks ask j (l ∷ ls) d
task_first ask j name entry private budget room l ls d card new r =
    let first : TaskView = fresh_view name entry private budget room in
    let a : AtRegs 0 first (Behind ask j d) ls = r in
    let filled : TaskView = with_regs first a.regs in
    let c : AtData filled (Behind ask j d) a.rest = a.then in
    let b : AtInputs (with_cards filled c.cards) (Behind ask j d) c.rest = c.then in
    let task : TaskView = with_inputs (with_cards filled c.cards) b.inputs in
    let z : RestTasks ask (with_task j task) b.rest d = b.then in
    record {
      blocks = (l ∷ (a.lines ++ (c.lines ++ b.lines))) ∷ z.blocks;
      rest = z.rest;
      mid = z.mid;
      whole = rw (a.whole, c.whole, b.whole, z.whole) (simp append_assoc);
      are = record {
        mid = with_task j task;
        is = record {
          head = l;
          reg_lines = a.lines;
          data_lines = c.lines;
          input_lines = b.lines;
          whole = refl;
          task = task;
          regs = a.regs;
          inputs = b.inputs;
          card = card;
          new = new;
          are_regs = a.are;
          rise = rise_pairs 0 a.regs a.rise;
          set = refl;
          are_data = c.are;
          inside = c.inside;
          are_inputs = b.are;
          filled = refl;
          is_after = refl;
        };
        follows = z.are;
      };
      met = z.met;
      after = z.after;
    }

task_back : (ask : Controllers) (st s : State) (n : List ℕ) (e p b r : ℕ) (l : LineView) (ls : List LineView) (d : DraftView) → IsCard l (Task n e p b r) → take_card ask st (Task n e p b r) ≡ Some s → RestOf ask s ls d → RestOf ask st (l ∷ ls) d
task_back ask st s n e p b r l ls d card took rest =
    let t = then_some (open_task n e p b r) (closed_task st.part st.job) s took in
    let next : State = state (part.Task (fresh_task n e p b r)) t.from (task_over t.from p b r) in
    let g = guard_none (has_task t.from n) next s t.gives in
    task_closes ask st.part st.job t.from (l ∷ ls) d t.was (task_first ask t.from n e p b r l ls d card g.0 (was ask ls d next s g.1 rest))

more_first : (ask : Controllers) (p : Part) (j : DraftView) (s : State) (c : CardView) (l : LineView) (ls : List LineView) (d : DraftView) → IsCard l c → take_more p j c ≡ Some s → RestOf ask s ls d → Rest ask p j (l ∷ ls) d
more_first ask (part.Task t) j s c l ls d card e r =
    let m = map_some (λ u. state (part.Task u) j None) (task_more t c) s e in
    more_back c t m.from (Behind ask j d) l ls card m.was (was ask ls d (state (part.Task m.from) j None) s m.gives r)
more_first ask p j s c l ls d card e r = absurd cc

cover_back : (ask : Controllers) (p : Part) (j : DraftView) (l : LineView) (ls : List LineView) (d : DraftView) → is_start p ≡ true → IsCard l Cover → RestModules ask j ls d → Rest ask p j (l ∷ ls) d
cover_back ask part.Start j l ls d e card r = record { first = l; rest = ls; whole = refl; cover = card; after = r }
cover_back ask p j l ls d e card r = absurd cc

end_back : (ask : Controllers) (st s : State) (l : LineView) (ls : List LineView) (d : DraftView) → IsCard l End → take_card ask st End ≡ Some s → RestOf ask s ls d → RestOf ask st (l ∷ ls) d
end_back ask st s l ls d card e r =
    let m = map_some end (closed ask st.part st.job) s e in
    let done : (ls ≡ []) × (d ≡ m.from) = was ask ls d (end m.from) s m.gives r in
    closes ask st.part st.job m.from (l ∷ ls) d m.was (record { blocks = []; last = l; whole = ap (λ (x : List LineView). l ∷ x) done.0; are = sym done.1; ends = card })

card_back : (ask : Controllers) (c : CardView) (st s : State) (l : LineView) (ls : List LineView) (d : DraftView) → IsCard l c → take_card ask st c ≡ Some s → RestOf ask s ls d → RestOf ask st (l ∷ ls) d
card_back ask Cover st s l ls d card e r =
    let g = cond_some (is_start st.part) (state part.Modules st.job None) s e in
    cover_back ask st.part st.job l ls d g.0 card (was ask ls d (state part.Modules st.job None) s g.1 r)
card_back ask (Module n b size) st s l ls d card e r = module_back ask st s n b size l ls d card e r
card_back ask (Text bytes) st s l ls d card e r = text_back ask st.part st.job bytes l ls d s card e r
card_back ask (Listing n) st s l ls d card e r = listing_back ask st.part st.job n l ls d s card e r
card_back ask (Serve v) st s l ls d card e r = service_back ask st s v l ls d card e r
card_back ask (Phase n) st s l ls d card e r = phase_back ask st s n l ls d card e r
card_back ask (Session n by ns) st s l ls d card e r =
    let g = guard_more (is_sessions st.part) (add_session st.job n by ns) s e in
    session_back ask st.part st.job s n by ns l ls d card g.0 g.1 r
card_back ask (Task n e p b k) st s l ls d card took r = task_back ask st s n e p b k l ls d card took r
card_back ask End st s l ls d card e r = end_back ask st s l ls d card e r
card_back ask (Reg n v) st s l ls d card e r = more_first ask st.part st.job s (Reg n v) l ls d card e r
card_back ask (Data c) st s l ls d card e r = more_first ask st.part st.job s (Data c) l ls d card e r
card_back ask (Input bytes) st s l ls d card e r = more_first ask st.part st.job s (Input bytes) l ls d card e r

step_back : (ask : Controllers) (st s : State) (l : LineView) (ls : List LineView) (d : DraftView) → step ask st l ≡ Some s → RestOf ask s ls d → RestOf ask st (l ∷ ls) d
step_back ask st s l ls d e r = elim (choose (takes_raw st.part) (take_raw st.part st.job (listing_text l)) (option_and_then (take_card ask st) (card_at l.bytes)) (Some s) e) [
  | inl w ↦ raw_back ask st.part st.job l ls d s w.0 w.1 r
  | inr w ↦ (let t = then_some (take_card ask st) (card_at l.bytes) s w.1 in card_back ask t.from st s l ls d t.was t.gives r)
]

done_rest : (ask : Controllers) (p : Part) (j : DraftView) → is_done p ≡ true → Rest ask p j [] j
done_rest ask part.Done j e = (refl, refl)
done_rest ask p j e = absurd cc

rest_of : (ask : Controllers) (ls : List LineView) (st e : State) → run ask st ls ≡ Some e → is_done e.part ≡ true → RestOf ask st ls e.job
rest_of ask [] st e r done = was ask [] e.job st e (same_Some st e r) (done_rest ask e.part e.job done)
rest_of ask (l ∷ ls) st e r done =
    let t = then_some (λ s. run ask s ls) (step ask st l) e r in
    step_back ask st t.from l ls e.job t.was (rest_of ask ls t.from e t.gives done)

spells_of : {cards : Grammar} (ask : Controllers) (ls : List LineView) (d : DraftView) → RestAll ask (no_job cards) ls d → Spells cards ask ls (bound d)
spells_of {cards} ask ls d a =
    let m : RestModules ask (no_job cards) a.rest d = a.after in
    let v : RestServices ask m.mid m.rest d = m.after in
    let p : RestEnd ask v.mid v.rest d = v.after in
    record {
      first = a.first;
      modules = m.blocks;
      services = v.services;
      phases = p.blocks;
      last = p.last;
      whole = rw (a.whole, m.whole, v.whole, p.whole) refl;
      mid = m.mid;
      served = v.mid;
      draft = d;
      cover = a.cover;
      are_modules = m.are;
      are_services = v.are;
      are_phases = p.are;
      ends = p.ends;
      is = refl;
    }

-- lines that run to the end spell the job that was read
pub run_spells : {cards : Grammar} (ask : Controllers) (ls : List LineView) (e : State) → run ask (start cards) ls ≡ Some e → is_done e.part ≡ true → Spells cards ask ls (bound e.job)
run_spells {cards} ask ls e r done = spells_of ask ls e.job (rest_of ask ls (start cards) e r done)
