-- Each state can be brought to the end, where controllers may be missing, by lines that add no more than what was announced.
use Rattle.std.proofs.Common.{◌≡◌, ℕ, ◌-◌, zero, suc, true, false, nat_eq, nat_le, cond, Option, Some, None, List, [], ◌∷◌, ◌++◌, replicate, refl, ap, subst, sym, ◌∙◌, arith, append_assoc, append-nil, codes, eqb-true}
use Rattle.std.proofs.lemmas.Bool.Decides.{nat_tests}
use Rattle.std.proofs.lemmas.Option.{same_Some, cond_some}
use Rattle.hex.proofs.OnLiterals.{hex_on_literals}
use Rattle.cov_base.specs.Meaning.{ImageView}
use Rattle.session_book.specs.Meaning.{JobView}
use Rattle.job_text.specs.Meaning.{DraftView, Controllers, Named, are_met, bound, LineView, Cover, Text, End, card_at, with_module, with_task, Spells}
use Rattle.job_text.specs.declared.grammar.Grammar.{Grammar}
use Rattle.job_text.specs.declared.limit.Limit.{Limit}
use Rattle.job_text.specs.declared.parts.Part.{Part}
use Rattle.job_text.specs.declared.parts.Part.TheVariants as part
use Rattle.job_text.specs.Steps.{State, state, start, is_done, closed_module, closed_service, closed_task, closed, with_bytes, end, takes_raw, take_card, step, run}
use Rattle.job_text.proofs.Named.{named_run}
use Rattle.job_text.proofs.Spelled.{run_append, card_step, closed_raw}
use Rattle.job_text.proofs.Rests.{run_spells}

-- what these lines make
abbrev pub sofar_at : Part → DraftView → DraftView
sofar_at (part.Texts i left) j = with_module j (with_bytes i (replicate left 0)) None
sofar_at (part.Listed i left texts) j = with_module j i (Some (texts ++ replicate left []))
sofar_at (part.Task t) j = with_task j t.task
sofar_at p j = j

abbrev pub draft_sofar : State → DraftView
draft_sofar st = sofar_at st.part st.job

-- the job of it
abbrev pub sofar : State → JobView
sofar st = bound (draft_sofar st)

texts_sofar : (i : ImageView) (left : ℕ) (j k : DraftView) → cond (nat_eq left 0) (Some (with_module j i None)) None ≡ Some k → k ≡ with_module j (with_bytes i (replicate left 0)) None
texts_sofar i left j k e =
    let g = cond_some (nat_eq left 0) (with_module j i None) k e in
    let none : left ≡ 0 = eqb-true left 0 g.0 in
    rw (none, append-nil {A = ℕ}) (sym g.1)

listed_sofar : (i : ImageView) (left : ℕ) (texts : List (List ℕ)) (j k : DraftView) → cond (nat_eq left 0) (Some (with_module j i (Some texts))) None ≡ Some k → k ≡ with_module j i (Some (texts ++ replicate left []))
listed_sofar i left texts j k e =
    let g = cond_some (nat_eq left 0) (with_module j i (Some texts)) k e in
    let none : left ≡ 0 = eqb-true left 0 g.0 in
    rw (none, append-nil {A = List ℕ}) (sym g.1)

module_sofar : (p : Part) (j k : DraftView) → closed_module p j ≡ Some k → k ≡ sofar_at p j
module_sofar part.Modules j k e = sym (same_Some j k e)
module_sofar (part.Texts i left) j k e = texts_sofar i left j k e
module_sofar (part.Listed i left texts) j k e = listed_sofar i left texts j k e
module_sofar p j k e = absurd cc

pub service_sofar : (p : Part) (j k : DraftView) → closed_service p j ≡ Some k → k ≡ sofar_at p j
service_sofar part.Services j k e = sym (same_Some j k e)
service_sofar p j k e = module_sofar p j k e

pub closed_sofar : (ask : Controllers) (p : Part) (j k : DraftView) → closed ask p j ≡ Some k → k ≡ sofar_at p j
closed_sofar ask part.Sessions j k e = sym (cond_some (are_met ask j) j k e).1
closed_sofar ask (part.Task t) j k e = sym (cond_some (are_met ask (with_task j t.task)) (with_task j t.task) k e).1
closed_sofar ask p j k e = service_sofar p j k e

pub task_sofar : (p : Part) (j k : DraftView) → closed_task p j ≡ Some k → k ≡ sofar_at p j
task_sofar part.Sessions j k e = sym (same_Some j k e)
task_sofar (part.Task t) j k e = sym (same_Some (with_task j t.task) k e)
task_sofar p j k e = absurd cc

pub record Completes (ask : Controllers) (st : State) : Type 0 where
  pub lines : List LineView
  pub end : State
  pub runs : run ask st lines ≡ Some end
  pub done : is_done end.part ≡ true
  pub is : end.job ≡ draft_sofar st

-- a line that an LF ends
abbrev ended : List ℕ → LineView
ended bytes = record { bytes = bytes; ended = true }

one_first : (ask : Controllers) (st s : State) (l : LineView) → step ask st l ≡ Some s → draft_sofar s ≡ draft_sofar st → Completes ask s → Completes ask st
one_first ask st s l e same c = record { lines = l ∷ c.lines; end = c.end; runs = rw e c.runs; done = c.done; is = c.is ∙ same }

ends_now : (ask : Controllers) (st : State) (k : DraftView) → closed ask st.part st.job ≡ Some k → Completes ask st
ends_now ask st k e =
    let t : take_card ask st End ≡ Some (end k) = rw e refl in
    let raw : takes_raw st.part ≡ false = closed_raw ask st.part st.job k e in
    one_first ask st (end k) (ended (codes "ENDJOB")) (card_step ask st (end k) (ended (codes "ENDJOB")) End raw refl t) (closed_sofar ask st.part st.job k e)
    (record { lines = []; end = end k; runs = refl; done = refl; is = refl })

text_card : card_at (codes "TEXT 00") ≡ Some (Text (0 ∷ []))
unfolding hex_on_literals
text_card = refl

fill_texts : (ask : Controllers) (n : ℕ) (i : ImageView) (j : DraftView) (over : Option Limit) → Completes ask (state (part.Texts i n) j over)
fill_texts ask zero i j over = ends_now ask (state (part.Texts i zero) j over) (with_module j i None) refl
fill_texts ask (suc n) i j over =
    let now : State = state (part.Texts i (suc n)) j over in
    let next : State = state (part.Texts (with_bytes i (0 ∷ [])) n) j None in
    let fit : nat_le 1 (suc n) ≡ true = grind (arith, nat_tests) in
    let less : suc n - 1 ≡ n = omega arith in
    let t : take_card ask now (Text (0 ∷ [])) ≡ Some next = rw (fit, less) refl in
    let same : draft_sofar next ≡ draft_sofar now = rw (append_assoc i.bytes (0 ∷ []) (replicate n 0)) refl in
    one_first ask now next (ended (codes "TEXT 00")) (card_step ask now next (ended (codes "TEXT 00")) (Text (0 ∷ [])) refl text_card t) same (fill_texts ask n (with_bytes i (0 ∷ [])) j None)

fill_listed : (ask : Controllers) (n : ℕ) (i : ImageView) (texts : List (List ℕ)) (j : DraftView) (over : Option Limit) → Completes ask (state (part.Listed i n texts) j over)
fill_listed ask zero i texts j over = ends_now ask (state (part.Listed i zero texts) j over) (with_module j i (Some texts)) refl
fill_listed ask (suc n) i texts j over =
    let now : State = state (part.Listed i (suc n) texts) j over in
    let next : State = state (part.Listed i n (texts ++ [] ∷ [])) j None in
    let some : nat_eq (suc n) 0 ≡ false = grind (arith, nat_tests) in
    let less : suc n - 1 ≡ n = omega arith in
    let t : step ask now (ended []) ≡ Some next = rw (some, less) refl in
    let same : draft_sofar next ≡ draft_sofar now = rw (append_assoc texts ([] ∷ []) (replicate n [])) refl in
    one_first ask now next (ended []) t same (fill_listed ask n i (texts ++ [] ∷ []) j None)

end_start : (ask : Controllers) (j : DraftView) (over : Option Limit) → Completes ask (state part.Start j over)
end_start ask j over =
    let now : State = state part.Start j over in
    let next : State = state part.Modules j None in
    one_first ask now next (ended (codes "COVERJOB 1")) (card_step ask now next (ended (codes "COVERJOB 1")) Cover refl refl refl) refl (ends_now ask next j refl)

done_now : (ask : Controllers) (j : DraftView) (over : Option Limit) → Completes ask (state part.Done j over)
done_now ask j over = record { lines = []; end = state part.Done j over; runs = refl; done = refl; is = refl }

-- where what was read of it lacks no controller
pub completes_at : (ask : Controllers) (p : Part) (j : DraftView) (over : Option Limit) → are_met ask (sofar_at p j) ≡ true → Completes ask (state p j over)
completes_at ask part.Start j over met = end_start ask j over
completes_at ask part.Modules j over met = ends_now ask (state part.Modules j over) j refl
completes_at ask (part.Texts i left) j over met = fill_texts ask left i j over
completes_at ask (part.Listed i left texts) j over met = fill_listed ask left i texts j over
completes_at ask part.Services j over met = ends_now ask (state part.Services j over) j refl
completes_at ask part.Sessions j over met = ends_now ask (state part.Sessions j over) j (rw met refl)
completes_at ask (part.Task t) j over met = ends_now ask (state (part.Task t) j over) (with_task j t.task) (rw met refl)
completes_at ask part.Done j over met = done_now ask j over

-- lines that run begin what adds nothing to that which was announced
pub record Announced (cards : Grammar) (lines : List LineView) (st : State) : Type 0 where
  pub rest : List LineView
  pub spells : Spells cards Named (lines ++ rest) (sofar st)

pub run_announces : {cards : Grammar} (ask : Controllers) (lines : List LineView) (st : State) → run ask (start cards) lines ≡ Some st → Announced cards lines st
run_announces {cards} ask lines st e =
    let c : Completes Named st = completes_at Named st.part st.job st.over refl in
    let r : run Named (start cards) (lines ++ c.lines) ≡ Some c.end = run_append Named (start cards) lines c.lines ∙ (rw (named_run ask lines (start cards) st e) c.runs) in
    record { rest = c.lines; spells = subst (Spells cards Named (lines ++ c.lines)) (ap bound c.is) (run_spells Named (lines ++ c.lines) c.end r c.done) }
