-- What runs or spells a job does so, too, where controllers may be missing.
use Rattle.std.proofs.Common.{◌≡◌, ℕ, true, false, Option, Some, List, [], ◌∷◌, ◌++◌, refl, ap, option_map, option_and_then, inl, inr}
use Rattle.std.specs.List.{list_any}
use Rattle.std.specs.Str.{bytes_eq}
use Rattle.std.proofs.lemmas.Option.{cond_some}
use Rattle.session_book.specs.Meaning.{JobView}
use Rattle.job_text.specs.Meaning.{LineView, listing_text, DraftView, Controllers, Named, are_met, CardView, Phase, End, card_at, with_task, indices_on, put_session, may_have, with_new_session, IsPhase, Spells, Lead, with_service}
use Rattle.session_book.specs.declared.services.Service.{Service}
use Rattle.job_text.specs.declared.grammar.Grammar.{Grammar}
use Rattle.job_text.specs.declared.parts.Part.{Part}
use Rattle.job_text.specs.declared.parts.Part.TheVariants as part
use Rattle.job_text.specs.Steps.{State, closed, open_phase, end, takes_raw, take_raw, take_card, step, run}
use Rattle.job_text.proofs.Guards.{guard_more, guard_then, map_some, then_some, choose}

-- a session that was added
pub record Added (j after : DraftView) (name : List ℕ) (by : Option (List ℕ)) (names : List (List ℕ)) : Type 0 where
  pub new : list_any (λ x. bytes_eq x.name name) j.sessions ≡ false
  pub may : may_have j by ≡ true
  pub modules : List ℕ
  pub are : indices_on j by (Some []) names ≡ Some modules
  pub is : put_session j name by modules ≡ after

pub session_added : (j after : DraftView) (name : List ℕ) (by : Option (List ℕ)) (names : List (List ℕ)) → with_new_session j name by names ≡ Some after → Added j after name by names
session_added j after name by names e =
    let g = guard_then _ _ after e in
    let h = guard_more (may_have j by) (option_map (put_session j name by) (indices_on j by (Some []) names)) after g.1 in
    let m = map_some (put_session j name by) (indices_on j by (Some []) names) after h.1 in
    record { new = g.0; may = h.0; modules = m.from; are = m.was; is = m.gives }

-- a service that was added
pub service_added : (j after : DraftView) (s : Service) → with_service j s ≡ Some after → record j { services = j.services ++ s ∷ [] } ≡ after
service_added j after s e = (cond_some _ _ after e).1

named_phases : (ask : Controllers) (blocks : List (List LineView)) (j after : DraftView) → Lead (IsPhase ask) j blocks after → Lead (IsPhase Named) j blocks after
named_phases ask [] j after are = are
named_phases ask (block ∷ blocks) j after are =
    let p : IsPhase ask j block are.mid = are.is in
    record {
      mid = are.mid;
      is = record { head = p.head; sessions = p.sessions; tasks = p.tasks; whole = p.whole; name = p.name; named = p.named; mid = p.mid; card = p.card; adds = p.adds; are_sessions = p.are_sessions; are_tasks = p.are_tasks; met = refl };
      follows = named_phases ask blocks are.mid after are.follows;
    }

pub named_spells : {cards : Grammar} (ask : Controllers) (ls : List LineView) (job : JobView) → Spells cards ask ls job → Spells cards Named ls job
named_spells ask ls job s = record {
  first = s.first;
  modules = s.modules;
  services = s.services;
  phases = s.phases;
  last = s.last;
  whole = s.whole;
  mid = s.mid;
  served = s.served;
  draft = s.draft;
  cover = s.cover;
  are_modules = s.are_modules;
  are_services = s.are_services;
  are_phases = named_phases ask s.phases s.served s.draft s.are_phases;
  ends = s.ends;
  is = s.is;
}

named_closed : (ask : Controllers) (p : Part) (j k : DraftView) → closed ask p j ≡ Some k → closed Named p j ≡ Some k
named_closed ask part.Sessions j k e = ap (λ (x : DraftView). Some x) (cond_some (are_met ask j) j k e).1
named_closed ask (part.Task t) j k e = ap (λ (x : DraftView). Some x) (cond_some (are_met ask (with_task j t.task)) (with_task j t.task) k e).1
named_closed ask p j k e = e

named_card : (ask : Controllers) (x : CardView) (st s : State) → take_card ask st x ≡ Some s → take_card Named st x ≡ Some s
named_card ask (Phase name) st s e =
    let t = then_some (open_phase name) (closed ask st.part st.job) s e in
    rw (named_closed ask st.part st.job t.from t.was) t.gives
named_card ask End st s e =
    let m = map_some end (closed ask st.part st.job) s e in
    rw (named_closed ask st.part st.job m.from m.was) (ap (λ (x : State). Some x) m.gives)
named_card ask x st s e = e

named_step : (ask : Controllers) (st s : State) (l : LineView) → step ask st l ≡ Some s → step Named st l ≡ Some s
named_step ask st s l e = elim (choose (takes_raw st.part) (take_raw st.part st.job (listing_text l)) (option_and_then (take_card ask st) (card_at l.bytes)) (Some s) e) [
  | inl w ↦ rw w.0 w.1
  | inr w ↦ (let t = then_some (take_card ask st) (card_at l.bytes) s w.1 in rw (w.0, t.was) (named_card ask t.from st s t.gives))
]

pub named_run : (ask : Controllers) (ls : List LineView) (st e : State) → run ask st ls ≡ Some e → run Named st ls ≡ Some e
named_run ask [] st e r = r
named_run ask (l ∷ ls) st e r =
    let t = then_some (λ s. run ask s ls) (step ask st l) e r in
    rw (named_step ask st t.from l t.was) (named_run ask ls t.from e t.gives)
