-- The cards of a task, read one after the other, are those that spell it.
use Rattle.std.proofs.Common.{◌≡◌, ℕ, ◌+◌, ◌≤◌, true, ◌&&◌, Option, Some, None, List, [], ◌∷◌, ◌++◌, length, refl, ap, subst, option_and_then, sym, ◌∙◌, arith, append_assoc, append-nil, zero, suc, get_or, All, AllPairs, ◌<◌}
use Rattle.std.proofs.lemmas.Bool.Decides.{nat_tests}
use Rattle.std.proofs.lemmas.List.Elements.{All-cons, All-nil}
use Rattle.std.specs.List.{concat}
use Rattle.std.proofs.lemmas.Option.{same_Some, cond_some}
use Rattle.std.proofs.lemmas.Bool.{and_parts, le-leb}
use Rattle.module_area.specs.Meaning.{DataView}
use Rattle.session_book.specs.Meaning.{TaskView}
use Rattle.job_text.specs.Meaning.{LineView, CardView, Reg, Data, Input, IsCard, card_at, AreCards, RegView, set_regs}
use Rattle.job_text.specs.declared.task.TaskPart.{TaskPart}
use Rattle.job_text.specs.declared.task.TaskStage.{TaskStage}
use Rattle.job_text.specs.declared.task.TaskStage.TheVariants as stage
use Rattle.job_text.specs.TaskParts.{part, takes_reg, takes_data, is_inside, with_reg, with_data, with_input, task_more}

abbrev pub with_regs : TaskView → List RegView → TaskView
with_regs t rs = record t { regs = set_regs t.regs rs }

abbrev pub with_cards : TaskView → List DataView → TaskView
with_cards t cs = record t { cards = t.cards ++ cs }

abbrev pub with_inputs : TaskView → List (List ℕ) → TaskView
with_inputs t bs = record t { input = t.input ++ concat bs }

abbrev pub reg_card : RegView → CardView
reg_card r = Reg r.number r.value

abbrev pub IsInside : ℕ → DataView → Type 0
IsInside private c = c.offset + length c.bytes ≤ private

-- cards, one by one

pub cards_first : {A : Type 0} (card : A → CardView) (x : A) (xs : List A) (l : LineView) (ls : List LineView) → AreCards card (x ∷ xs) (l ∷ ls) → IsCard l (card x) × AreCards card xs ls
cards_first card x xs l ls e = (cc, cc)

pub cards_more : {A : Type 0} (card : A → CardView) (x : A) (xs : List A) (l : LineView) (ls : List LineView) → IsCard l (card x) → AreCards card xs ls → AreCards card (x ∷ xs) (l ∷ ls)
cards_more card x xs l ls e f = rw (e, f) refl

-- numbers that rise from at least this one

abbrev pub RiseFrom : ℕ → List RegView → Type 0
RiseFrom least [] = Unit {0}
RiseFrom least (r ∷ rs) = (least ≤ r.number) × RiseFrom (r.number + 1) rs

pub rise_from : (least : ℕ) (rs : List RegView) → All (λ (r : RegView). least ≤ r.number) rs → AllPairs (λ (r s : RegView). r.number < s.number) rs → RiseFrom least rs
rise_from least [] from p = tt
rise_from least (r ∷ rs) from p =
    (from 0 r (omega arith), rise_from (r.number + 1) rs (λ k d l. omega (arith, p 0 (suc k) d (omega arith) (omega (arith, l)))) (λ i j d h l. p (suc i) (suc j) d (omega (arith, h)) (omega (arith, l))))

rise_least : (least : ℕ) (rs : List RegView) → RiseFrom least rs → (k : ℕ) (d : RegView) → k < length rs → least ≤ (get_or rs k d).number
rise_least least [] p k d l = absurd (omega (arith, l))
rise_least least (r ∷ rs) p zero d l = p.0
rise_least least (r ∷ rs) p (suc k) d l = omega (arith, p.0, rise_least (r.number + 1) rs p.1 k d (omega (arith, l)))

pub rise_pairs : (least : ℕ) (rs : List RegView) → RiseFrom least rs → (i j : ℕ) (d : RegView) → i < j → j < length rs → (get_or rs i d).number < (get_or rs j d).number
rise_pairs least [] p i j d h l = absurd (omega (arith, l))
rise_pairs least (r ∷ rs) p i zero d h l = absurd (omega (arith, h))
rise_pairs least (r ∷ rs) p zero (suc j) d h l = omega (arith, rise_least (r.number + 1) rs p.1 j d (omega (arith, l)))
rise_pairs least (r ∷ rs) p (suc i) (suc j) d h l = rise_pairs (r.number + 1) rs p.1 i j d (omega (arith, h)) (omega (arith, l))

-- cards that spell a part of a task take the reader to it

abbrev pub more_step : TaskPart → LineView → Option TaskPart
more_step p l = option_and_then (task_more p) (card_at l.bytes)

abbrev pub more_run : TaskPart → List LineView → Option TaskPart
more_run p [] = Some p
more_run p (l ∷ ls) = option_and_then (λ q. more_run q ls) (more_step p l)

pub more_append : (p : TaskPart) (a b : List LineView) → more_run p (a ++ b) ≡ option_and_then (λ q. more_run q b) (more_run p a)
more_append p [] b = refl
more_append p (l ∷ ls) b = elim (more_step p l) as (λ o. option_and_then (λ q. more_run q (ls ++ b)) o ≡ option_and_then (λ q. more_run q b) (option_and_then (λ q. more_run q ls) o)) [
  | Some q ↦ more_append q ls b
  | None ↦ refl
]

pub record RunsTo (p : TaskPart) (ls : List LineView) (t : TaskView) : Type 0 where
  pub end : TaskStage
  pub runs : more_run p ls ≡ Some (part t end)

runs_first : (p q : TaskPart) (l : LineView) (ls : List LineView) (t : TaskView) → more_step p l ≡ Some q → RunsTo q ls t → RunsTo p (l ∷ ls) t
runs_first p q l ls t e r = record { end = r.end; runs = rw e r.runs }

pub runs_on : (p : TaskPart) (a b : List LineView) (t u : TaskView) → RunsTo p a t → ((end : TaskStage) → RunsTo (part t end) b u) → RunsTo p (a ++ b) u
runs_on p a b t u r more = let n : RunsTo (part t r.end) b u = more r.end in record { end = n.end; runs = more_append p a b ∙ (rw r.runs n.runs) }

inputs_run : (bs : List (List ℕ)) (ls : List LineView) (t : TaskView) (st : TaskStage) → AreCards Input bs ls → RunsTo (part t st) ls (with_inputs t bs)
inputs_run [] [] t st are = rw (append-nil {A = ℕ}) (record { end = st; runs = refl })
inputs_run [] (l ∷ ls) t st are = absurd cc
inputs_run (b ∷ bs) [] t st are = absurd cc
inputs_run (b ∷ bs) (l ∷ ls) t st are =
    let c = cards_first Input b bs l ls are in
    let next : TaskPart = part (with_input t b) stage.Inputs in
    let e : more_step (part t st) l ≡ Some next = rw c.0 refl in
    let more : RunsTo next ls (with_inputs (with_input t b) bs) = inputs_run bs ls (with_input t b) stage.Inputs c.1 in
    runs_first (part t st) next l ls (with_inputs t (b ∷ bs)) e (rw (append_assoc t.input b (concat bs)) at more)

inside_is : (private : ℕ) (c : DataView) → c.offset + length c.bytes ≤ private → is_inside private c ≡ true
inside_is private c h = grind (arith, nat_tests)

data_run : (cs : List DataView) (ls : List LineView) (t : TaskView) (st : TaskStage) → takes_data st ≡ true → AreCards Data cs ls → All (IsInside t.private) cs → RunsTo (part t st) ls (with_cards t cs)
data_run [] [] t st takes are inside = rw (append-nil {A = DataView}) (record { end = st; runs = refl })
data_run [] (l ∷ ls) t st takes are inside = absurd cc
data_run (c ∷ cs) [] t st takes are inside = absurd cc
data_run (c ∷ cs) (l ∷ ls) t st takes are inside =
    let a = cards_first Data c cs l ls are in
    let others : All (IsInside t.private) cs = λ k d h. inside (suc k) d (omega (arith, h)) in
    let next : TaskPart = part (with_data t c) stage.Data in
    let e : more_step (part t st) l ≡ Some next = rw (a.0, takes, inside_is t.private c (inside 0 c (omega arith))) refl in
    let more : RunsTo next ls (with_cards (with_data t c) cs) = data_run cs ls (with_data t c) stage.Data refl a.1 others in
    runs_first (part t st) next l ls (with_cards t (c ∷ cs)) e (rw (append_assoc t.cards (c ∷ []) cs) at more)

record RunsRegs (p : TaskPart) (ls : List LineView) (t : TaskView) : Type 0 where
  next : ℕ
  runs : more_run p ls ≡ Some (part t (stage.Regs next))

regs_run : (rs : List RegView) (ls : List LineView) (t : TaskView) (least : ℕ) → AreCards reg_card rs ls → RiseFrom least rs → RunsRegs (part t (stage.Regs least)) ls (with_regs t rs)
regs_run [] [] t least are rise = record { next = least; runs = refl }
regs_run [] (l ∷ ls) t least are rise = absurd cc
regs_run (r ∷ rs) [] t least are rise = absurd cc
regs_run (r ∷ rs) (l ∷ ls) t least are rise =
    let c = cards_first reg_card r rs l ls are in
    let now : TaskPart = part t (stage.Regs least) in
    let next : TaskPart = part (with_reg t r.number r.value) (stage.Regs (r.number + 1)) in
    let e : more_step now l ≡ Some next = rw (c.0, le-leb least r.number rise.0) refl in
    let more : RunsRegs next ls (with_regs t (r ∷ rs)) = regs_run rs ls (with_reg t r.number r.value) (r.number + 1) c.1 rise.1 in
    record { next = more.next; runs = rw e more.runs }

-- REG, DATA and INPUT cards, in this order
pub cards_run : (rs : List RegView) (cs : List DataView) (bs : List (List ℕ)) (a b c : List LineView) (t : TaskView) (least : ℕ) → AreCards reg_card rs a → RiseFrom least rs → AreCards Data cs b → All (IsInside t.private) cs → AreCards Input bs c →
    RunsTo (part t (stage.Regs least)) (a ++ (b ++ c)) (with_inputs (with_cards (with_regs t rs) cs) bs)
cards_run rs cs bs a b c t least are_regs rise are_data inside are_inputs =
    let filled : TaskView = with_regs t rs in
    let r : RunsRegs (part t (stage.Regs least)) a filled = regs_run rs a t least are_regs rise in
    let first : RunsTo (part t (stage.Regs least)) a filled = record { end = stage.Regs r.next; runs = r.runs } in
    let d : RunsTo (part filled (stage.Regs r.next)) b (with_cards filled cs) = data_run cs b filled (stage.Regs r.next) refl are_data inside in
    let more : RunsTo (part filled (stage.Regs r.next)) (b ++ c) (with_inputs (with_cards filled cs) bs) =
    runs_on (part filled (stage.Regs r.next)) b c (with_cards filled cs) (with_inputs (with_cards filled cs) bs) d (λ end. inputs_run bs c (with_cards filled cs) end are_inputs) in
    record { end = more.end; runs = more_append (part t (stage.Regs least)) a (b ++ c) ∙ (rw r.runs more.runs) }

-- and cards that take it there spell it: what may still come of a task, and more behind it

pub record AtInputs (t : TaskView) (More : TaskView → List LineView → Type 0) (ls : List LineView) : Type 0 where
  pub lines : List LineView
  pub inputs : List (List ℕ)
  pub rest : List LineView
  pub whole : ls ≡ lines ++ rest
  pub are : AreCards Input inputs lines
  pub then : More (with_inputs t inputs) rest

pub record AtData (t : TaskView) (More : TaskView → List LineView → Type 0) (ls : List LineView) : Type 0 where
  pub lines : List LineView
  pub cards : List DataView
  pub rest : List LineView
  pub whole : ls ≡ lines ++ rest
  pub are : AreCards Data cards lines
  pub inside : All (IsInside t.private) cards
  pub then : AtInputs (with_cards t cards) More rest

pub record AtRegs (least : ℕ) (t : TaskView) (More : TaskView → List LineView → Type 0) (ls : List LineView) : Type 0 where
  pub lines : List LineView
  pub regs : List RegView
  pub rest : List LineView
  pub whole : ls ≡ lines ++ rest
  pub are : AreCards reg_card regs lines
  pub rise : RiseFrom least regs
  pub then : AtData (with_regs t regs) More rest

abbrev pub AtStage : TaskStage → TaskView → (TaskView → List LineView → Type 0) → List LineView → Type 0
AtStage (stage.Regs least) t More ls = AtRegs least t More ls
AtStage stage.Data t More ls = AtData t More ls
AtStage stage.Inputs t More ls = AtInputs t More ls

abbrev pub AtPart : TaskPart → (TaskView → List LineView → Type 0) → List LineView → Type 0
AtPart p More ls = AtStage p.stage p.task More ls

no_inputs : (t : TaskView) (More : TaskView → List LineView → Type 0) (ls : List LineView) → More t ls → AtInputs t More ls
no_inputs t More ls m = record { lines = []; inputs = []; rest = ls; whole = refl; are = refl; then = rw (append-nil {A = ℕ}) m }

no_data : (t : TaskView) (More : TaskView → List LineView → Type 0) (ls : List LineView) → AtInputs t More ls → AtData t More ls
no_data t More ls m = record { lines = []; cards = []; rest = ls; whole = refl; are = refl; inside = All-nil (IsInside t.private); then = rw (append-nil {A = DataView}) m }

no_regs : (least : ℕ) (t : TaskView) (More : TaskView → List LineView → Type 0) (ls : List LineView) → AtData t More ls → AtRegs least t More ls
no_regs least t More ls m = record { lines = []; regs = []; rest = ls; whole = refl; are = refl; rise = tt; then = m }

-- the task may end here
pub stage_ends : (st : TaskStage) (t : TaskView) (More : TaskView → List LineView → Type 0) (ls : List LineView) → More t ls → AtStage st t More ls
stage_ends (stage.Regs least) t More ls m = no_regs least t More ls (no_data t More ls (no_inputs t More ls m))
stage_ends stage.Data t More ls m = no_data t More ls (no_inputs t More ls m)
stage_ends stage.Inputs t More ls m = no_inputs t More ls m

input_first : (b : List ℕ) (t : TaskView) (More : TaskView → List LineView → Type 0) (l : LineView) (ls : List LineView) → IsCard l (Input b) → AtInputs (with_input t b) More ls → AtInputs t More (l ∷ ls)
input_first b t More l ls card a = record {
  lines = l ∷ a.lines;
  inputs = b ∷ a.inputs;
  rest = a.rest;
  whole = ap (λ (x : List LineView). l ∷ x) a.whole;
  are = cards_more Input b a.inputs l a.lines card a.are;
  then = rw (← append_assoc t.input b (concat a.inputs)) a.then;
}

input_back : (st : TaskStage) (b : List ℕ) (t : TaskView) (More : TaskView → List LineView → Type 0) (l : LineView) (ls : List LineView) → IsCard l (Input b) → AtInputs (with_input t b) More ls → AtStage st t More (l ∷ ls)
input_back (stage.Regs least) b t More l ls card a = no_regs least t More (l ∷ ls) (no_data t More (l ∷ ls) (input_first b t More l ls card a))
input_back stage.Data b t More l ls card a = no_data t More (l ∷ ls) (input_first b t More l ls card a)
input_back stage.Inputs b t More l ls card a = input_first b t More l ls card a

data_first : (c : DataView) (t : TaskView) (More : TaskView → List LineView → Type 0) (l : LineView) (ls : List LineView) → IsCard l (Data c) → c.offset + length c.bytes ≤ t.private → AtData (with_data t c) More ls → AtData t More (l ∷ ls)
data_first c t More l ls card inside a = record {
  lines = l ∷ a.lines;
  cards = c ∷ a.cards;
  rest = a.rest;
  whole = ap (λ (x : List LineView). l ∷ x) a.whole;
  are = cards_more Data c a.cards l a.lines card a.are;
  inside = All-cons (IsInside t.private) c a.cards inside a.inside;
  then = rw (← append_assoc t.cards (c ∷ []) a.cards) a.then;
}

data_back : (st : TaskStage) (c : DataView) (t : TaskView) (More : TaskView → List LineView → Type 0) (l : LineView) (ls : List LineView) → IsCard l (Data c) → takes_data st ≡ true → c.offset + length c.bytes ≤ t.private →
    AtData (with_data t c) More ls → AtStage st t More (l ∷ ls)
data_back (stage.Regs least) c t More l ls card takes inside a = no_regs least t More (l ∷ ls) (data_first c t More l ls card inside a)
data_back stage.Data c t More l ls card takes inside a = data_first c t More l ls card inside a
data_back stage.Inputs c t More l ls card takes inside a = absurd cc

reg_first : (k v least : ℕ) (t : TaskView) (More : TaskView → List LineView → Type 0) (l : LineView) (ls : List LineView) → IsCard l (Reg k v) → least ≤ k → AtRegs (k + 1) (with_reg t k v) More ls → AtRegs least t More (l ∷ ls)
reg_first k v least t More l ls card from a = record {
  lines = l ∷ a.lines;
  regs = record { number = k; value = v } ∷ a.regs;
  rest = a.rest;
  whole = ap (λ (x : List LineView). l ∷ x) a.whole;
  are = cards_more reg_card (record { number = k; value = v }) a.regs l a.lines card a.are;
  rise = (from, a.rise);
  then = a.then;
}

reg_back : (st : TaskStage) (k v : ℕ) (t : TaskView) (More : TaskView → List LineView → Type 0) (l : LineView) (ls : List LineView) → IsCard l (Reg k v) → takes_reg st k ≡ true →
    AtRegs (k + 1) (with_reg t k v) More ls → AtStage st t More (l ∷ ls)
reg_back (stage.Regs least) k v t More l ls card takes a = let from : least ≤ k = grind (arith, nat_tests, takes) in reg_first k v least t More l ls card from a
reg_back stage.Data k v t More l ls card takes a = absurd cc
reg_back stage.Inputs k v t More l ls card takes a = absurd cc

-- a further card of the task
pub more_back : (c : CardView) (p q : TaskPart) (More : TaskView → List LineView → Type 0) (l : LineView) (ls : List LineView) → IsCard l c → task_more p c ≡ Some q → AtPart q More ls → AtPart p More (l ∷ ls)
more_back (Reg k v) p q More l ls card e a =
    let next : TaskPart = part (with_reg p.task k v) (stage.Regs (k + 1)) in
    let g = cond_some (takes_reg p.stage k) next q e in
    reg_back p.stage k v p.task More l ls card g.0 (subst (λ (x : TaskPart). AtPart x More ls) (sym g.1) a)
more_back (Data c) p q More l ls card e a =
    let next : TaskPart = part (with_data p.task c) stage.Data in
    let g = cond_some (takes_data p.stage && is_inside p.task.private c) next q e in
    let tests = and_parts (takes_data p.stage) (is_inside p.task.private c) g.0 in
    let inside : c.offset + length c.bytes ≤ p.task.private = grind (arith, nat_tests, tests.1) in
    data_back p.stage c p.task More l ls card tests.0 inside (subst (λ (x : TaskPart). AtPart x More ls) (sym g.1) a)
more_back (Input b) p q More l ls card e a =
    let next : TaskPart = part (with_input p.task b) stage.Inputs in
    let same : next ≡ q = same_Some next q e in
    input_back p.stage b p.task More l ls card (subst (λ (x : TaskPart). AtPart x More ls) (sym same) a)
more_back c p q More l ls card e a = absurd cc
