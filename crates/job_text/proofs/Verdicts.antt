-- What the reader's runs say of the lines.
use Rattle.std.proofs.Common.{◌≡◌, ℕ, ◌+◌, ◌-◌, ◌<◌, ◌≤◌, zero, suc, true, false, Option, Some, None, List, [], ◌∷◌, ◌++◌, length, take, drop, refl, ap, subst, sym, ◌∙◌, arith, append-nil, option_map, option_and_then, inl, inr, take-append-drop}
use Rattle.std.proofs.lemmas.Bool.{cases_order, cases_lt, false_from_ne_true}
use Rattle.std.proofs.lemmas.List.{length-drop}
use Rattle.std.proofs.lemmas.Option.{same_Some}
use Rattle.session_book.specs.Meaning.{JobView}
use Rattle.job_text.specs.Meaning.{DraftView, Named, Present, bound, LineView, lines_of, Spells, keeps, IsWithin, Passes, GoesOn, IsBadAt, IsOverAt}
use Rattle.job_text.specs.declared.grammar.Grammar.{Grammar}
use Rattle.job_text.specs.Refusals.{IsRead}
use Rattle.job_text.specs.declared.jobs.ReadJob.{ReadJob}
use Rattle.job_text.specs.declared.limit.Limit.{Limit}
use Rattle.job_text.specs.declared.parts.Part.{Part}
use Rattle.job_text.specs.declared.parts.Part.TheVariants as kind
use Rattle.job_text.specs.Steps.{State, start, is_done, step, run}
use Rattle.job_text.proofs.Guards.{FromMap, map_some}
use Rattle.job_text.proofs.Spans.{no_lines}
use Rattle.job_text.proofs.Spelled.{Reaches, Ends, run_append, run_spelled, run_begun, done_step, not_later}
use Rattle.job_text.proofs.Named.{named_run}
use Rattle.job_text.proofs.Shortest.{sofar_at, sofar, run_announces}
use Rattle.job_text.proofs.Begun.{run_begins}
use Rattle.job_text.proofs.Growth.{Judged, step_grows, run_more}
use Rattle.job_text.proofs.Excluded.{bad_later}

-- the line at n, and the others behind it
pub record At (ls : List LineView) (n : ℕ) (l : LineView) (more : List LineView) : Type 0 where
  pub inside : n < length ls
  pub taken : take (n + 1) ls ≡ take n ls ++ l ∷ []
  pub left : drop (n + 1) ls ≡ more

record AtNext (ls : List LineView) (n : ℕ) (l : LineView) (more : List LineView) : Type 0 where
  inside : n < length ls
  taken : take (suc n) ls ≡ take n ls ++ l ∷ []
  left : drop (suc n) ls ≡ more

at_next : (ls : List LineView) (n : ℕ) (l : LineView) (more : List LineView) → drop n ls ≡ l ∷ more → AtNext ls n l more
at_next [] zero l more e = absurd cc
at_next [] (suc n) l more e = absurd cc
at_next (x ∷ xs) zero l more e = let a : x ≡ l = cc in let b : xs ≡ more = cc in record { inside = omega arith; taken = rw a refl; left = b }
at_next (x ∷ xs) (suc n) l more e =
    let a : AtNext xs n l more = at_next xs n l more e in
    record { inside = omega (arith, a.inside); taken = ap (λ (y : List LineView). x ∷ y) a.taken; left = a.left }

at_line : (ls : List LineView) (n : ℕ) (l : LineView) (more : List LineView) → drop n ls ≡ l ∷ more → At ls n l more
at_line ls n l more e =
    let a : AtNext ls n l more = at_next ls n l more e in
    let one : n + 1 ≡ suc n = omega arith in
    record { inside = a.inside; taken = rw one a.taken; left = rw one a.left }

run_last : (cards : Grammar) (ls : List LineView) (n : ℕ) (l : LineView) (more : List LineView) (s : State) → drop n ls ≡ l ∷ more → run Present (start cards) (take n ls) ≡ Some s → run Present (start cards) (take (n + 1) ls) ≡ option_and_then (λ t. Some t) (step Present s l)
run_last cards ls n l more s d e = rw ((at_line ls n l more d).taken, run_append Present (start cards) (take n ls) (l ∷ []), e) refl

run_on : (cards : Grammar) (ls : List LineView) (n : ℕ) (l : LineView) (more : List LineView) (s t : State) → drop n ls ≡ l ∷ more → run Present (start cards) (take n ls) ≡ Some s → step Present s l ≡ Some t → run Present (start cards) (take (n + 1) ls) ≡ Some t
run_on cards ls n l more s t d e f = run_last cards ls n l more s d e ∙ (rw f refl)

-- what is over a limit stays over it
pub over_passes : {cards : Grammar} (ls : List LineView) (s : State) (w : Limit) → run Present (start cards) ls ≡ Some s → keeps w (sofar s) ≡ false → Passes cards w ls
over_passes {cards} ls s w r e rest job p =
    let x : Reaches Named (start cards) (ls ++ rest) (Ends job) = run_spelled Named (ls ++ rest) job p in
    let t : run Named s rest ≡ Some x.end = (rw (run_append Named (start cards) ls rest, named_run Present ls (start cards) s r) at x.runs) in
    let same : sofar x.end ≡ job = rw (x.holds.at, x.holds.is) refl in
    false_from_ne_true (keeps w job) (λ k. let m : keeps w (sofar s) ≡ true = run_more Named rest s x.end t w (rw same k) in let no : true ≡ false = sym m ∙ e in absurd cc)

pub kept_passes : {cards : Grammar} (ls : List LineView) (s : State) (w : Limit) → run Present (start cards) ls ≡ Some s → keeps w (sofar s) ≡ true → Passes cards w ls → ⊥
kept_passes ls s w r e p =
    let b = run_announces Present ls s r in
    let over : keeps w (sofar s) ≡ false = p b.rest (sofar s) b.spells in
    let no : true ≡ false = sym e ∙ over in
    absurd cc

pub goes_on : {cards : Grammar} (ls : List LineView) (s : State) → run Present (start cards) ls ≡ Some s → IsWithin (sofar s) → GoesOn cards ls
goes_on ls s r within = record { begins = run_begins ls s r; within = λ w. kept_passes ls s w r (within w) }

pub bad_here : {cards : Grammar} (ls : List LineView) (n : ℕ) (l : LineView) (more : List LineView) (s : State) → drop n ls ≡ l ∷ more → run Present (start cards) (take n ls) ≡ Some s → IsWithin (sofar s) → step Present s l ≡ None → IsBadAt cards ls (n + 1)
bad_here {cards} ls n l more s d e within f =
    let stuck : run Present (start cards) (take (n + 1) ls) ≡ None = run_last cards ls n l more s d e ∙ (rw f refl) in
    let same : n + 1 - 1 ≡ n = omega arith in
    let inside : n < length ls = (at_line ls n l more d).inside in
    record {
      counts = omega arith;
      before = rw same (goes_on (take n ls) s e within);
      here = inl (omega (arith, inside), λ b. let r : Reaches Present (start cards) (take (n + 1) ls) (λ s. Unit {0}) = run_begun (take (n + 1) ls) b in let no : None ≡ Some r.end = sym stuck ∙ r.runs in absurd cc);
    }

pub over_here : {cards : Grammar} (ls : List LineView) (n : ℕ) (l : LineView) (more : List LineView) (s : State) (what : Limit) → drop n ls ≡ l ∷ more → run Present (start cards) (take n ls) ≡ Some s → IsWithin (sofar s) →
    option_map (λ t. t.over) (step Present s l) ≡ Some (Some what) → IsOverAt cards ls what (n + 1)
over_here {cards} ls n l more s what d e within f =
    let m : FromMap (λ t. t.over) (step Present s l) (Some what) = map_some (λ t. t.over) (step Present s l) (Some what) f in
    let same : n + 1 - 1 ≡ n = omega arith in
    let inside : n < length ls = (at_line ls n l more d).inside in
    let r : run Present (start cards) (take (n + 1) ls) ≡ Some m.from = run_on cards ls n l more s m.from d e m.was in
    let judged : Judged (Some what) (sofar m.from) = subst (λ (o : Option Limit). Judged o (sofar m.from)) m.gives ((step_grows Present s m.from l m.was).judged within) in
    record {
      counts = omega arith;
      inside = omega (arith, inside);
      before = rw same (goes_on (take n ls) s e within);
      begins = run_begins (take (n + 1) ls) m.from r;
      passes = over_passes (take (n + 1) ls) m.from what r judged.0;
      first = λ w less. kept_passes (take (n + 1) ls) m.from w r (judged.1 w less);
    }

whole_take : (ls : List LineView) (n : ℕ) → drop n ls ≡ [] → take n ls ≡ ls
whole_take ls n d = take_all (take n ls) (drop n ls) d ∙ take-append-drop n ls
  where
    take_all : (a b : List LineView) → b ≡ [] → a ≡ a ++ b
    take_all a b e = rw (e, append-nil {A = LineView}) refl

pub ends_early : {cards : Grammar} (ls : List LineView) (n : ℕ) (s : State) → drop n ls ≡ [] → n ≤ length ls → run Present (start cards) (take n ls) ≡ Some s → IsWithin (sofar s) → is_done s.part ≡ false → IsBadAt cards ls (n + 1)
ends_early {cards} ls n s d h e within f =
    let whole : take n ls ≡ ls = whole_take ls n d in
    let a : length (drop n ls) ≡ length ls - n = length-drop n ls in
    let b : length (drop n ls) ≡ 0 = ap (λ (x : List LineView). length x) d in
    let all : n ≡ length ls = omega (arith, a, b, h) in
    let same : n + 1 - 1 ≡ n = omega arith in
    record {
      counts = omega arith;
      before = rw same (goes_on (take n ls) s e within);
      here = inr (
        omega (arith, all),
        λ job p.
            let r : Reaches Present (start cards) ls (Ends job) = run_spelled Present ls job p in
            let end : r.end ≡ s = same_Some r.end s (sym r.runs ∙ (rw whole at e)) in
            let no : true ≡ false = sym (ap is_done r.holds.at) ∙ (ap (λ (t : State). is_done t.part) end ∙ f) in absurd cc,
      );
    }

-- what the lines that were read leave out

-- none of the lines that were read ends a job
none_yet : {cards : Grammar} (ls : List LineView) (k n : ℕ) (s : State) (job : JobView) → k ≤ length ls → run Present (start cards) (take k ls) ≡ Some s → is_done s.part ≡ false → n ≤ k → Spells cards Present (take n ls) job → ⊥
none_yet {cards} ls k n s job inside r d h p =
    let x : Reaches Present (start cards) (take n ls) (Ends job) = run_spelled Present (take n ls) job p in
    let done : is_done x.end.part ≡ true = ap is_done x.holds.at in
    elim (cases_order n k) [
      | inl e ↦ (let t : run Present (start cards) (take n ls) ≡ Some s = (rw (← e) at r) in
          let end : s ≡ x.end = same_Some s x.end (sym t ∙ x.runs) in
          let no : true ≡ false = sym done ∙ (sym (ap (λ (y : State). is_done y.part) end) ∙ d) in
          absurd cc)
      | inr y ↦ (elim y [ inl l ↦ not_later cards Present ls n k x.end s l inside x.runs done r | inr l ↦ absurd (omega (arith, l, h)) ])
    ]

-- where the next line is bad no first lines spell a job
pub bad_none : {cards : Grammar} (ls : List LineView) (k n : ℕ) (s : State) (job : JobView) → k ≤ length ls → run Present (start cards) (take k ls) ≡ Some s → is_done s.part ≡ false → IsBadAt cards ls (k + 1) → n ≤ length ls → Spells cards Present (take n ls) job → ⊥
bad_none ls k n s job inside r d b h p = elim (cases_lt k n) [
  | inl l ↦ bad_later ls job (k + 1) n (omega (arith, l)) h p b
  | inr l ↦ none_yet ls k n s job inside r d l p
]

-- a job that was read is within the limits

done_sofar : (p : Part) (j : DraftView) → is_done p ≡ true → sofar_at p j ≡ j
done_sofar kind.Done j e = refl
done_sofar p j e = absurd cc

pub job_within : (s : State) → is_done s.part ≡ true → IsWithin (sofar s) → IsWithin (bound s.job)
job_within s d h = subst IsWithin (ap bound (done_sofar s.part s.job d)) h

-- a line behind the job is bad

some_left : (bs : List ℕ) (n : ℕ) → n < length bs → drop n bs ≡ [] → ⊥
some_left bs n h e =
    let a : length (drop n bs) ≡ length bs - n = length-drop n bs in
    let b : length (drop n bs) ≡ 0 = ap (λ (x : List ℕ). length x) e in
    omega (arith, a, b, h)

pub take_front : (a b : List LineView) → take (length a) (a ++ b) ≡ a
take_front [] b = refl
take_front (x ∷ xs) b = ap (λ (y : List LineView). x ∷ y) (take_front xs b)

pub drop_front : (a b : List LineView) → drop (length a) (a ++ b) ≡ b
drop_front [] b = refl
drop_front (x ∷ xs) b = drop_front xs b

bad_next : {cards : Grammar} (a b : List LineView) (job : JobView) → Spells cards Present a job → IsWithin job → (b ≡ [] → ⊥) → IsBadAt cards (a ++ b) (length a + 1)
bad_next {cards} a [] job p within some = absurd (some refl)
bad_next {cards} a (l ∷ ls) job p within some =
    let r : Reaches Present (start cards) a (Ends job) = run_spelled Present a job p in
    let done : is_done r.end.part ≡ true = ap is_done r.holds.at in
    let same : sofar r.end ≡ job = rw (r.holds.at, r.holds.is) refl in
    let stop : step Present r.end l ≡ None = done_step Present r.end.part r.end.job r.end.over l done in
    bad_here (a ++ l ∷ ls) (length a) l ls r.end (drop_front a (l ∷ ls)) (rw (take_front a (l ∷ ls)) r.runs) (subst IsWithin (sym same) within) stop

pub bad_behind : {cards : Grammar} (input : List ℕ) (r : ReadJob) → IsRead cards input r → r.end < length input → IsBadAt cards (lines_of input) (r.lines + 1)
bad_behind input r i h =
    rw (i.parted, ← i.count) (bad_next (lines_of (take r.end input)) (lines_of (drop r.end input)) r.job i.spells i.within (λ none. some_left input r.end h (no_lines (drop r.end input) none)))
