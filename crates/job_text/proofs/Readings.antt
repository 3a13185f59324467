-- What the lines say that a reader has taken.
use Rattle.std.proofs.Common.{◌≡◌, ℕ, ◌+◌, ◌-◌, ◌<◌, ◌≤◌, true, false, Some, Ok, Err, List, [], ◌∷◌, ◌++◌, length, take, drop, refl, ap, subst, sym, ◌∙◌, arith, append_assoc, append-nil, length-append, length-take, inl, inr}
use Rattle.std.proofs.Math.Seq.{take-length, drop-length}
use Rattle.std.proofs.lemmas.Bool.{cases_lt, true_from_ne_false, false_from_ne_true}
use Rattle.std.proofs.lemmas.List.{take-take}
use Rattle.std.proofs.lemmas.Option.{same_Some}
use Rattle.session_book.specs.Meaning.{JobView}
use Rattle.job_text.specs.Meaning.{Present, bound, LineView, lines_of, keeps, IsWithin, Passes, GoesOn, IsBadAt, IsOverAt, IsRefusal, Spells}
use Rattle.job_text.specs.Lines.{ended_lines, span}
use Rattle.job_text.specs.Pieces.{fault_line, IsTold, IsOpen, IsEnded, used_of}
use Rattle.job_text.specs.Refusals.{IsRead, IsRefused, IsAnswer}
use Rattle.job_text.specs.Steps.{State, start, plain, is_done, step, run}
use Rattle.job_text.specs.Taken.{IsNext, IsFaultOf, HasRun, has_lf, HasTaken, size_of}
use Rattle.job_text.specs.declared.grammar.Grammar.{Grammar}
use Rattle.job_text.specs.declared.jobs.JobFault.{JobFault}
use Rattle.job_text.specs.declared.jobs.JobFault.TheVariants as fault
use Rattle.job_text.specs.declared.jobs.ReadJob.{ReadJob}
use Rattle.job_text.specs.declared.limit.Limit.{Limit}
use Rattle.job_text.specs.declared.limit.Limit.TheVariants as limit
use Rattle.job_text.specs.declared.pieces.Fed.{Fed}
use Rattle.job_text.specs.declared.pieces.Fed.TheVariants as fed
use Rattle.job_text.specs.declared.pieces.Pieces.{Pieces}
use Rattle.job_text.specs.declared.taken.Taken.{Taken}
use Rattle.job_text.proofs.EndedLines.{closed_more, ended_append, line_ended, line_partial, partial_none, partial_append, Kept, kept}
use Rattle.job_text.proofs.Excluded.{bad_later, never_over_first}
use Rattle.job_text.proofs.Growth.{step_grows}
use Rattle.job_text.proofs.LineLemmas.{ended_line, open_line, Whole}
use Rattle.job_text.proofs.Rests.{run_spells}
use Rattle.job_text.proofs.Shortest.{sofar}
use Rattle.job_text.proofs.Spans.{lines_count}
use Rattle.job_text.proofs.Spelled.{Reaches, Ends, run_append, run_spelled, alone}
use Rattle.job_text.proofs.Verdicts.{over_passes, goes_on, bad_here, over_here, ends_early, bad_none, job_within, take_front, drop_front}

-- a fault stays the fault when more comes

take_less : (ls ms : List LineView) (m n : ℕ) → m ≤ n → take n ms ≡ take n ls → take m ms ≡ take m ls
take_less ls ms m n h e = sym (take-take m n ms h) ∙ (ap (λ (x : List LineView). take m x) e ∙ take-take m n ls h)

bad_same : {cards : Grammar} (ls ms : List LineView) (n : ℕ) → n ≤ length ls → n ≤ length ms → take n ms ≡ take n ls → IsBadAt cards ls n → IsBadAt cards ms n
bad_same ls ms n h k e b =
    let less : take (n - 1) ms ≡ take (n - 1) ls = take_less ls ms (n - 1) n (omega arith) e in
    record {
      counts = b.counts;
      before = rw less b.before;
      here = elim b.here [
        | inl w ↦ inl (k, λ x. w.1 (rw e at x))
        | inr w ↦ absurd (omega (arith, w.0, h))
      ];
    }

over_same : {cards : Grammar} (ls ms : List LineView) (what : Limit) (n : ℕ) → n ≤ length ms → take n ms ≡ take n ls → IsOverAt cards ls what n → IsOverAt cards ms what n
over_same {cards} ls ms what n k e o =
    let less : take (n - 1) ms ≡ take (n - 1) ls = take_less ls ms (n - 1) n (omega arith) e in
    record {
      counts = o.counts;
      inside = k;
      before = rw less o.before;
      begins = rw e o.begins;
      passes = subst (Passes cards what) (sym e) o.passes;
      first = λ w l p. o.first w l (subst (Passes cards w) e p);
    }

refusal_more : (cards : Grammar) (bytes more : List ℕ) (e : JobFault) → fault_line e ≤ length (ended_lines (lines_of bytes)) → IsRefusal cards (lines_of bytes) e → IsRefusal cards (lines_of (bytes ++ more)) e
refusal_more cards bytes more (fault.BadJob n) h r =
    let k : Kept bytes more = kept bytes more in
    bad_same (lines_of bytes) (lines_of (bytes ++ more)) n (omega (arith, h, k.less)) (omega (arith, h, k.within)) (k.first n h) r
refusal_more cards bytes more (fault.TooLarge what n) h r =
    let k : Kept bytes more = kept bytes more in
    over_same (lines_of bytes) (lines_of (bytes ++ more)) what n (omega (arith, h, k.within)) (k.first n h) r
refusal_more cards bytes more fault.NoMemory h r = tt

behind : {cards : Grammar} (ls : List LineView) (e : JobFault) (n : ℕ) (job : JobView) → IsRefusal cards ls e → fault_line e ≤ n → n ≤ length ls → Spells cards Present (take n ls) job → IsWithin job → e ≡ fault.NoMemory
behind ls (fault.BadJob m) n job r h k p within = absurd (bad_later ls job m n h k p r)
behind ls (fault.TooLarge what m) n job r h k p within = absurd (never_over_first ls n job what m k p within r)
behind ls fault.NoMemory n job r h k p within = refl

pub told_more : {cards : Grammar} (bytes more : List ℕ) (e : JobFault) → IsTold cards bytes e → IsTold cards (bytes ++ more) e
told_more {cards} bytes more e t =
    let k : Kept bytes more = kept bytes more in
    let r : IsRefusal cards (lines_of (bytes ++ more)) e = refusal_more cards bytes more e t.ended t.refusal in
    record {
      refusal = r;
      ended = omega (arith, t.ended, k.more);
      only = λ n job h p within. elim (cases_lt (length (ended_lines (lines_of bytes))) n) [
        | inl l ↦ behind (lines_of (bytes ++ more)) e n job r (omega (arith, l, t.ended)) h p within
        | inr l ↦ t.only n job (omega (arith, l, k.less)) (rw (k.first n l) at p) within
      ];
    }

-- one line more

pub within_of : {cards : Grammar} (ls : List LineView) (s : State) → run Present (start cards) ls ≡ Some s → GoesOn cards ls → IsWithin (sofar s)
within_of ls s r g = λ w. true_from_ne_false (keeps w (sofar s)) (λ over. g.within w (over_passes ls s w r over))

run_next : (bytes more : List ℕ) (a b : Taken) (l : LineView) → lines_of (bytes ++ more) ≡ lines_of bytes ++ l ∷ [] → length more ≡ span l → HasRun bytes a → IsNext a b l → HasRun (bytes ++ more) b
run_next bytes more a b l whole size h n =
    let ls : List LineView = lines_of bytes in
    let s : State = plain a.reader in
    let t : State = plain b.reader in
    let runs : run Present (start a.grammar) (ls ++ l ∷ []) ≡ Some t = run_append Present (start a.grammar) ls (l ∷ []) ∙ (rw (h.runs, n.steps) refl) in
    let within : IsWithin (sofar t) = (step_grows Present s t l n.steps).judged (within_of ls s h.runs h.goes_on) in
    let one : length (ls ++ l ∷ []) ≡ length ls + 1 = omega (arith, length-append ls (l ∷ [])) in
    record {
      runs = rw (whole, n.grammar) runs;
      goes_on = rw (whole, n.grammar) (goes_on (ls ++ l ∷ []) t runs within);
      count = rw whole (omega (arith, n.lines, h.count, one));
      size = omega (arith, n.bytes, h.size, size, length-append bytes more);
    }

-- no more lines than bytes
pub few_lines : (bytes : List ℕ) (t : Taken) → HasRun bytes t → t.lines ≤ t.bytes
few_lines bytes t h = omega (arith, h.count, h.size, lines_count bytes)

pub taken_size : (bytes : List ℕ) (p : Pieces) → HasTaken bytes p → size_of p ≡ length bytes
taken_size bytes p h = omega (arith, h.ran.size, ap (λ (x : List ℕ). length x) h.whole, length-append h.front p.cut.items)

pub taken_few : (bytes : List ℕ) (p : Pieces) → HasTaken bytes p → p.taken.lines ≤ size_of p
taken_few bytes p h = omega (arith, few_lines h.front p.taken h.ran)

-- how many bytes were taken of a piece
pub taken_on : (before more : List ℕ) (p q : Pieces) → HasTaken before p → HasTaken (before ++ more) q → size_of q ≡ size_of p + length more
taken_on before more p q h k = omega (arith, taken_size before p h, taken_size (before ++ more) q k, length-append before more)

used_less : (piece : List ℕ) (f : Fed) → length (used_of piece f) ≤ length piece
used_less piece fed.More = omega arith
used_less piece (fed.Ended used) = omega (arith, length-take used piece)

pub fed_on : (before piece : List ℕ) (p q : Pieces) (f : Fed) → HasTaken before p → HasTaken (before ++ used_of piece f) q → size_of q ≤ size_of p + length piece
fed_on before piece p q f h k = omega (arith, taken_on before (used_of piece f) p q h k, used_less piece f)

next_lines : (bytes line rest : List ℕ) (p : Pieces) (h : HasTaken bytes p) → has_lf line ≡ false → lines_of (bytes ++ (line ++ 10 ∷ rest)) ≡ lines_of h.front ++ (ended_line (p.cut.items ++ line) ∷ lines_of rest)
next_lines bytes line rest p h e =
    let cut : List ℕ = p.cut.items in
    let again : bytes ++ (line ++ 10 ∷ rest) ≡ h.front ++ ((cut ++ line) ++ 10 ∷ rest) =
    ap (λ (x : List ℕ). x ++ (line ++ 10 ∷ rest)) h.whole ∙ (append_assoc h.front cut (line ++ 10 ∷ rest) ∙ ap (λ (x : List ℕ). h.front ++ x) (sym (append_assoc cut line (10 ∷ rest)))) in
    let parts : lines_of ((cut ++ line) ++ 10 ∷ rest) ≡ ended_line (cut ++ line) ∷ lines_of rest = line_ended (cut ++ line) rest (partial_append cut line h.partial e) in
    ap lines_of again ∙ (closed_more h.front ((cut ++ line) ++ 10 ∷ rest) h.closed ∙ ap (λ (x : List LineView). lines_of h.front ++ x) parts)

begin_empty : {cards : Grammar} → GoesOn cards []
begin_empty {cards} = goes_on [] (start cards) refl (λ w. begin_keeps w)
  where
    begin_keeps : (w : Limit) → keeps w (sofar (start cards)) ≡ true
    begin_keeps limit.Input = refl
    begin_keeps limit.Modules = refl
    begin_keeps limit.Size = refl
    begin_keeps limit.Line = refl
    begin_keeps limit.Places = refl
    begin_keeps limit.Phases = refl
    begin_keeps limit.Sessions = refl
    begin_keeps limit.Tasks = refl
    begin_keeps limit.Private = refl
    begin_keeps limit.Budget = refl
    begin_keeps limit.Room = refl

-- no bytes were fed
pub nothing_taken : (cards : Grammar) (p : Pieces) → p.taken.grammar ≡ cards → p.taken.reader ≡ start cards → p.taken.lines ≡ 0 → p.taken.bytes ≡ 0 → p.cut.items ≡ [] → HasTaken [] p
nothing_taken cards p grammar reader lines bytes none = record {
  front = [];
  whole = sym none;
  closed = refl;
  ran = record { runs = rw (grammar, reader) refl; goes_on = rw grammar begin_empty; count = lines; size = bytes };
  partial = rw none refl;
  end = λ done. none;
}

-- a line that its LF ended was taken
pub line_taken : (bytes line : List ℕ) (p q : Pieces) → has_lf line ≡ false → HasTaken bytes p → IsNext p.taken q.taken (ended_line (p.cut.items ++ line)) → q.cut.items ≡ [] → HasTaken (bytes ++ (line ++ 10 ∷ [])) q
line_taken bytes line p q e h n none =
    let cut : List ℕ = p.cut.items in
    let more : List ℕ = (cut ++ line) ++ 10 ∷ [] in
    let again : bytes ++ (line ++ 10 ∷ []) ≡ h.front ++ more =
    ap (λ (x : List ℕ). x ++ (line ++ 10 ∷ [])) h.whole ∙ (append_assoc h.front cut (line ++ 10 ∷ []) ∙ ap (λ (x : List ℕ). h.front ++ x) (sym (append_assoc cut line (10 ∷ [])))) in
    let lines : lines_of (h.front ++ more) ≡ lines_of h.front ++ ended_line (cut ++ line) ∷ [] = sym (ap lines_of again) ∙ next_lines bytes line [] p h e in
    let one : length more ≡ length (cut ++ line) + 1 = omega (arith, length-append (cut ++ line) (10 ∷ [])) in
    record {
      front = h.front ++ more;
      whole = again ∙ (rw (none, append-nil {A = ℕ}) refl);
      closed = rw lines (ended_append (lines_of h.front) (ended_line (cut ++ line) ∷ []) h.closed);
      ran = run_next h.front more p.taken q.taken (ended_line (cut ++ line)) lines one h.ran n;
      partial = rw none refl;
      end = λ done. none;
    }

-- the bytes behind the last LF are kept
pub rest_taken : (bytes rest : List ℕ) (p q : Pieces) → has_lf rest ≡ false → HasTaken bytes p → q.taken ≡ p.taken → q.cut.items ≡ p.cut.items ++ rest → is_done q.taken.reader.part ≡ false → HasTaken (bytes ++ rest) q
rest_taken bytes rest p q e h same cut reading = record {
  front = h.front;
  whole = rw cut (ap (λ (x : List ℕ). x ++ rest) h.whole ∙ append_assoc h.front p.cut.items rest);
  closed = h.closed;
  ran = rw same h.ran;
  partial = rw cut (partial_append p.cut.items rest h.partial e);
  end = λ done. let no : true ≡ false = sym done ∙ reading in absurd cc;
}

whole_some : (s : List ℕ) → 0 < length s → Whole s ≡ open_line s ∷ []
whole_some [] e = absurd (omega arith)
whole_some (b ∷ bs) e = refl

-- what is left is the last line
pub last_taken : (bytes : List ℕ) (p : Pieces) (t : Taken) → 0 < length p.cut.items → HasTaken bytes p → IsNext p.taken t (open_line p.cut.items) → HasRun bytes t
last_taken bytes p t some h n =
    let last : lines_of p.cut.items ≡ open_line p.cut.items ∷ [] = line_partial p.cut.items h.partial ∙ whole_some p.cut.items some in
    let lines : lines_of (h.front ++ p.cut.items) ≡ lines_of h.front ++ open_line p.cut.items ∷ [] = closed_more h.front p.cut.items h.closed ∙ ap (λ (x : List LineView). lines_of h.front ++ x) last in
    rw h.whole (run_next h.front p.cut.items p.taken t (open_line p.cut.items) lines refl h.ran n)

pub nothing_left : (bytes : List ℕ) (p : Pieces) → p.cut.items ≡ [] → HasTaken bytes p → HasRun bytes p.taken
nothing_left bytes p none h =
    let same : bytes ≡ h.front = h.whole ∙ (rw (none, append-nil {A = ℕ}) refl) in
    rw same h.ran

-- a line that isn't taken

pub record Refuted (cards : Grammar) (ls : List LineView) (e : JobFault) (n : ℕ) : Type 0 where
  pub refusal : IsRefusal cards ls e
  pub line : fault_line e ≤ n
  pub only : (m : ℕ) (job : JobView) → m ≤ length ls → Spells cards Present (take m ls) job → IsWithin job → e ≡ fault.NoMemory

refuted_at : {cards : Grammar} (ls : List LineView) (n : ℕ) (l : LineView) (more : List LineView) (s : State) (e : JobFault) → drop n ls ≡ l ∷ more → run Present (start cards) (take n ls) ≡ Some s → n ≤ length ls → IsWithin (sofar s) → is_done s.part ≡ false → IsFaultOf (step Present s l) (n + 1) e → Refuted cards ls e (n + 1)
refuted_at {cards} ls n l more s (fault.BadJob k) d r h within reading f =
    let b : IsBadAt cards ls (n + 1) = bad_here ls n l more s d r within f.0 in
    record {
      refusal = rw f.1 b;
      line = omega (arith, f.1);
      only = λ m job i p w. absurd (bad_none ls n m s job h r reading b i p);
    }
refuted_at {cards} ls n l more s (fault.TooLarge what k) d r h within reading f =
    let o : IsOverAt cards ls what (n + 1) = over_here ls n l more s what d r within f.0 in
    record {
      refusal = rw f.1 o;
      line = omega (arith, f.1);
      only = λ m job i p w. absurd (never_over_first ls m job what (n + 1) i p w o);
    }
refuted_at {cards} ls n l more s fault.NoMemory d r h within reading f = record { refusal = tt; line = omega arith; only = λ m job i p w. refl }

refuted : (front : List ℕ) (l : LineView) (more : List LineView) (t : Taken) (e : JobFault) → HasRun front t → is_done t.reader.part ≡ false → IsFaultOf (step Present t.reader l) (t.lines + 1) e → Refuted t.grammar (lines_of front ++ l ∷ more) e (length (lines_of front) + 1)
refuted front l more t e h reading f =
    let ls : List LineView = lines_of front in
    refuted_at (ls ++ l ∷ more) (length ls) l more (plain t.reader) e (drop_front ls (l ∷ more)) (rw (take_front ls (l ∷ more)) h.runs) (omega (arith, length-append ls (l ∷ more))) (within_of ls (plain t.reader) h.runs h.goes_on) reading (rw h.count at f)

-- by a line whose LF has come
pub line_told : (bytes line rest : List ℕ) (p : Pieces) (e : JobFault) → has_lf line ≡ false → HasTaken bytes p → is_done p.taken.reader.part ≡ false → IsFaultOf (step Present p.taken.reader (ended_line (p.cut.items ++ line))) (p.taken.lines + 1) e → IsTold p.taken.grammar (bytes ++ (line ++ 10 ∷ rest)) e
line_told bytes line rest p e partial h reading f =
    let l : LineView = ended_line (p.cut.items ++ line) in
    let lines = next_lines bytes line rest p h partial in
    let x : Refuted p.taken.grammar (lines_of h.front ++ l ∷ lines_of rest) e (length (lines_of h.front) + 1) = refuted h.front l (lines_of rest) p.taken e h.ran reading f in
    let ended : ended_lines (lines_of h.front ++ l ∷ lines_of rest) ≡ lines_of h.front ++ l ∷ ended_lines (lines_of rest) = ended_append (lines_of h.front) (l ∷ lines_of rest) h.closed in
    let count : length (lines_of h.front ++ l ∷ ended_lines (lines_of rest)) ≡ length (lines_of h.front) + length (l ∷ ended_lines (lines_of rest)) = length-append (lines_of h.front) (l ∷ ended_lines (lines_of rest)) in
    record {
      refusal = rw lines x.refusal;
      ended = rw (lines, ended) (omega (arith, x.line, count));
      only = rw lines x.only;
    }

-- by the last line, which lacks its LF
last_refuted : (bytes : List ℕ) (p : Pieces) (e : JobFault) → 0 < length p.cut.items → HasTaken bytes p → is_done p.taken.reader.part ≡ false → IsFaultOf (step Present p.taken.reader (open_line p.cut.items)) (p.taken.lines + 1) e → Refuted p.taken.grammar (lines_of bytes) e (length (lines_of bytes))
last_refuted bytes p e some h reading f =
    let l : LineView = open_line p.cut.items in
    let last : lines_of p.cut.items ≡ l ∷ [] = line_partial p.cut.items h.partial ∙ whole_some p.cut.items some in
    let lines : lines_of bytes ≡ lines_of h.front ++ l ∷ [] = ap lines_of h.whole ∙ (closed_more h.front p.cut.items h.closed ∙ ap (λ (x : List LineView). lines_of h.front ++ x) last) in
    let x : Refuted p.taken.grammar (lines_of h.front ++ l ∷ []) e (length (lines_of h.front) + 1) = refuted h.front l [] p.taken e h.ran reading f in
    let one : length (lines_of h.front ++ l ∷ []) ≡ length (lines_of h.front) + 1 = omega (arith, length-append (lines_of h.front) (l ∷ [])) in
    rw (lines, one) x

pub last_refused : (bytes : List ℕ) (p : Pieces) (e : JobFault) → 0 < length p.cut.items → HasTaken bytes p → IsFaultOf (step Present p.taken.reader (open_line p.cut.items)) (p.taken.lines + 1) e → IsRefused p.taken.grammar (lines_of bytes) e
last_refused bytes p e some h f =
    let x : Refuted p.taken.grammar (lines_of bytes) e (length (lines_of bytes)) = last_refuted bytes p e some h (false_from_ne_true (is_done p.taken.reader.part) (λ done. some_cut p.cut.items some (h.end done))) f in
    record { refusal = x.refusal; only = x.only }
  where
    some_cut : (s : List ℕ) → 0 < length s → s ≡ [] → ⊥
    some_cut [] h e = omega arith
    some_cut (x ∷ xs) h e = absurd cc

-- the input ends early
early_refuted : (bytes : List ℕ) (t : Taken) (e : JobFault) → HasRun bytes t → is_done t.reader.part ≡ false → e ≡ fault.BadJob (t.lines + 1) → IsRefusal t.grammar (lines_of bytes) e × ((n : ℕ) (job : JobView) → n ≤ length (lines_of bytes) → Spells t.grammar Present (take n (lines_of bytes)) job → IsWithin job → e ≡ fault.NoMemory)
early_refuted bytes t e h reading is =
    let ls : List LineView = lines_of bytes in
    let s : State = plain t.reader in
    let runs : run Present (start t.grammar) (take (length ls) ls) ≡ Some s = rw (take-length ls) h.runs in
    let b : IsBadAt t.grammar ls (length ls + 1) = ends_early ls (length ls) s (drop-length ls) (omega arith) runs (within_of ls s h.runs h.goes_on) reading in
    (rw (is, h.count) b, λ n job i p w. absurd (bad_none ls (length ls) n s job (omega arith) runs reading b i p))

pub early_answer : (bytes : List ℕ) (t : Taken) → HasRun bytes t → is_done t.reader.part ≡ false → IsAnswer t.grammar bytes (Err (fault.BadJob (t.lines + 1)))
early_answer bytes t h reading =
    let x = early_refuted bytes t (fault.BadJob (t.lines + 1)) h reading refl in
    record { job = tt; whole = tt; only = x.1; fault = x.0 }

-- a fault that was told, and want of memory

pub refused_answer : {cards : Grammar} {e : JobFault} (bytes : List ℕ) → IsRefused cards (lines_of bytes) e → IsAnswer cards bytes (Err e)
refused_answer bytes x = record { job = tt; whole = tt; only = x.only; fault = x.refusal }

pub told_answer : {cards : Grammar} {e : JobFault} (bytes : List ℕ) → IsTold cards bytes e → IsAnswer cards bytes (Err e)
told_answer bytes x = record { job = tt; whole = tt; only = x.only; fault = x.refusal }

pub no_memory_told : (cards : Grammar) (bytes : List ℕ) → IsTold cards bytes fault.NoMemory
no_memory_told cards bytes = record { refusal = tt; ended = omega arith; only = λ n job i p w. refl }

pub no_memory : (cards : Grammar) (bytes : List ℕ) → IsAnswer cards bytes (Err fault.NoMemory)
no_memory cards bytes = told_answer bytes (no_memory_told cards bytes)

-- the job was taken

taken_job : (bytes : List ℕ) (t : Taken) (r : ReadJob) → HasRun bytes t → is_done t.reader.part ≡ true → r.job ≡ bound t.reader.job → r.end ≡ t.bytes → r.lines ≡ t.lines → IsRead t.grammar bytes r
taken_job bytes t r h done job end count =
    let ls : List LineView = lines_of bytes in
    let s : State = plain t.reader in
    let all : r.end ≡ length bytes = end ∙ h.size in
    record {
      inside = omega (arith, all);
      parted = rw (all, take-length bytes, drop-length bytes) (sym (append-nil {A = LineView} ls));
      count = rw (all, take-length bytes) (sym (count ∙ h.count));
      spells = rw (all, take-length bytes, job) (run_spells Present ls s h.runs done);
      within = rw job (job_within s done (within_of ls s h.runs h.goes_on));
    }

taken_only : (bytes : List ℕ) (t : Taken) → HasRun bytes t → is_done t.reader.part ≡ true → (n : ℕ) (job : JobView) → n ≤ length (lines_of bytes) → Spells t.grammar Present (take n (lines_of bytes)) job → (bound t.reader.job ≡ job) × (t.lines ≡ n)
taken_only bytes t h done n job i p =
    let ls : List LineView = lines_of bytes in
    let a = alone Present ls (length ls) n (plain t.reader) job (omega arith) (rw (take-length ls) h.runs) done i p in
    (a.0, h.count ∙ a.1)

pub taken_answer : (bytes : List ℕ) (t : Taken) (r : ReadJob) → HasRun bytes t → is_done t.reader.part ≡ true → r.job ≡ bound t.reader.job → r.end ≡ t.bytes → r.lines ≡ t.lines → IsAnswer t.grammar bytes (Ok r)
taken_answer bytes t r h done job end count = record {
  job = taken_job bytes t r h done job end count;
  whole = end ∙ h.size;
  only = λ n other i p w. let a = taken_only bytes t h done n other i p in (job ∙ a.0, count ∙ a.1);
  fault = tt;
}

-- what is answered to a piece

pub is_open : (bytes : List ℕ) (p : Pieces) → HasTaken bytes p → is_done p.taken.reader.part ≡ false → IsOpen p.taken.grammar bytes
is_open bytes p h reading =
    let lines : lines_of bytes ≡ lines_of h.front ++ lines_of p.cut.items = ap lines_of h.whole ∙ closed_more h.front p.cut.items h.closed in
    let ended : ended_lines (lines_of bytes) ≡ lines_of h.front =
    ap ended_lines lines ∙ (ended_append (lines_of h.front) (lines_of p.cut.items) h.closed ∙ (rw (partial_none p.cut.items h.partial) (append-nil {A = LineView} (lines_of h.front)))) in
    record {
      goes_on = rw ended h.ran.goes_on;
      no_job = λ job s.
          let x : Reaches Present (start p.taken.grammar) (lines_of h.front) (Ends job) = run_spelled Present (lines_of h.front) job (rw ended at s) in
          let end : x.end ≡ plain p.taken.reader = same_Some x.end (plain p.taken.reader) (sym x.runs ∙ h.ran.runs) in
          let done : is_done x.end.part ≡ true = ap is_done x.holds.at in
          let still : is_done x.end.part ≡ false = ap (λ (t : State). is_done t.part) end ∙ reading in
          absurd cc;
    }

pub is_ended : (before piece : List ℕ) (used : ℕ) (p : Pieces) → 1 ≤ used → used ≤ length piece → HasTaken (before ++ take used piece) p → is_done p.taken.reader.part ≡ true → IsEnded p.taken.grammar before piece used
is_ended before piece used p some inside h done =
    let bytes : List ℕ = before ++ take used piece in
    let same : bytes ≡ h.front = h.whole ∙ (rw (h.end done, append-nil {A = ℕ}) refl) in
    let s : State = plain p.taken.reader in
    record {
      some = some;
      inside = inside;
      closed = rw same h.closed;
      job = bound p.taken.reader.job;
      spells = rw same (run_spells Present (lines_of h.front) s h.ran.runs done);
      within = job_within s done (within_of (lines_of h.front) s h.ran.runs h.ran.goes_on);
    }
