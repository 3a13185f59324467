-- What has come of an input, piece by piece.
use Rattle.std.proofs.Common.{◌≡◌, ℕ, ◌+◌, ◌-◌, ◌<◌, ◌≤◌, Bool, true, false, Option, Some, Result, Ok, Err, IfErr, OnOk, List, [], ◌∷◌, ◌++◌, length, take, drop, refl, ap, subst, sym, ◌∙◌, arith, append_assoc, append-nil, length-append}
use Rattle.std.proofs.Math.Seq.{drop-append_seam}
use Rattle.std.specs.Io.KnownBytes.{Consumes}
use Rattle.cov_outside.proofs.Laws.{consumes-trans}
use Rattle.job_text.specs.Meaning.{lines_of, IsBadAt, IsRefusal}
use Rattle.job_text.specs.Pieces.{IsEnded}
use Rattle.job_text.specs.declared.grammar.Grammar.{Grammar}
use Rattle.job_text.specs.Refusals.{IsRead, AnswersOnly}
use Rattle.job_text.specs.Taken.{Stage, Reading, Failed, IsFed, grammar_of, told, has_ended, fed_size}
use Rattle.job_text.specs.declared.jobs.JobFault.{JobFault}
use Rattle.job_text.specs.declared.jobs.ReadJob.{ReadJob}
use Rattle.job_text.proofs.Laws.{used_all, read_longer, only_longer, fault_longer, bad_behind}
use Rattle.job_input.specs.Incoming.{SpellJob, HasCome}
use Rattle.job_input.specs.declared.form.Form.{Form}
use Rattle.job_input.specs.declared.incoming.Incoming.{Incoming}

pub come_nothing : (i : Incoming) → IsFed [] i.reader → grammar_of i.reader ≡ i.form.grammar → has_ended i.reader ≡ false → i.over ≡ false → i.rest.items ≡ [] → HasCome [] i
come_nothing i fed grammar reading over none = record {
  fed = [];
  behind = [];
  whole = refl;
  is_fed = fed;
  grammar = grammar;
  reading = λ r. refl;
  ended = λ e. let no : true ≡ false = sym e ∙ reading in absurd cc;
  over = λ o. let no : true ≡ false = sym o ∙ over in absurd cc;
  none = λ o. refl;
  kept = λ m. none;
}

pub told_reading : (s : Stage) (e : JobFault) → told s ≡ Some e → has_ended s ≡ false
told_reading (Reading p) e h = absurd cc
told_reading (Failed g f) e h = refl

same_grammar : (i j : Incoming) → grammar_of j.reader ≡ grammar_of i.reader → grammar_of i.reader ≡ i.form.grammar → j.form ≡ i.form → grammar_of j.reader ≡ j.form.grammar
same_grammar i j same was form = same ∙ (was ∙ ap (λ (f : Form). f.grammar) (sym form))

-- the job goes on, or is refused
pub come_more : (bytes piece : List ℕ) (i j : Incoming) (h : HasCome bytes i) → has_ended i.reader ≡ false → IsFed (h.fed ++ piece) j.reader → grammar_of j.reader ≡ grammar_of i.reader → has_ended j.reader ≡ false → j.form ≡ i.form → j.over ≡ i.over → j.rest.items ≡ i.rest.items → HasCome (bytes ++ piece) j
come_more bytes piece i j h before fed grammar reading form over rest =
    let none : h.behind ≡ [] = h.reading before in
    let same : bytes ≡ h.fed = h.whole ∙ (rw none (append-nil {A = ℕ} h.fed)) in
    record {
      fed = h.fed ++ piece;
      behind = [];
      whole = ap (λ (x : List ℕ). x ++ piece) same ∙ sym (append-nil {A = ℕ} (h.fed ++ piece));
      is_fed = fed;
      grammar = same_grammar i j grammar h.grammar form;
      reading = λ r. refl;
      ended = λ e. let no : true ≡ false = sym e ∙ reading in absurd cc;
      over = λ o. rw none at h.over (sym over ∙ o);
      none = λ o. refl;
      kept = λ m. rest ∙ (h.kept (ap (λ (f : Form). f.more) (sym form) ∙ m) ∙ none);
    }

over_some : (before behind : List ℕ) (a b : Bool) → (a ≡ true → 0 < length before) → (0 < length behind → b ≡ true) → (behind ≡ [] → b ≡ a) → b ≡ true → 0 < length (before ++ behind)
over_some before [] a b was some same o = rw (append-nil {A = ℕ}) (was (sym (same refl) ∙ o))
over_some before (x ∷ xs) a b was some same o = omega (arith, length-append before (x ∷ xs))

over_none : (before behind : List ℕ) (a b : Bool) → (a ≡ false → before ≡ []) → (0 < length behind → b ≡ true) → (behind ≡ [] → b ≡ a) → b ≡ false → before ++ behind ≡ []
over_none before [] a b was some same o = append-nil {A = ℕ} before ∙ was (sym (same refl) ∙ o)
over_none before (x ∷ xs) a b was some same o = let yes' : b ≡ true = some (omega arith) in let no' : true ≡ false = sym yes' ∙ o in absurd cc

-- bytes behind the job
pub come_kept : (all fed before behind : List ℕ) (i j : Incoming) → all ≡ fed ++ (before ++ behind) → IsFed fed j.reader → grammar_of j.reader ≡ grammar_of i.reader → grammar_of i.reader ≡ i.form.grammar → has_ended j.reader ≡ true → SpellJob i.form.grammar fed →
    (i.over ≡ true → 0 < length before) → (i.over ≡ false → before ≡ []) → (i.form.more ≡ true → i.rest.items ≡ before) →
    j.form ≡ i.form → (0 < length behind → j.over ≡ true) → (behind ≡ [] → j.over ≡ i.over) → (i.form.more ≡ true → j.rest.items ≡ i.rest.items ++ behind) → HasCome all j
come_kept all fed before behind i j whole is_fed grammar was ended job over none kept form some same rest = record {
  fed = fed;
  behind = before ++ behind;
  whole = whole;
  is_fed = is_fed;
  grammar = same_grammar i j grammar was form;
  reading = λ r. let no : true ≡ false = sym ended ∙ r in absurd cc;
  ended = λ e. subst (λ (f : Form). SpellJob f.grammar fed) (sym form) job;
  over = over_some before behind i.over j.over over some same;
  none = over_none before behind i.over j.over none some same;
  kept = λ m. rest (ap (λ (f : Form). f.more) (sym form) ∙ m) ∙ ap (λ (x : List ℕ). x ++ behind) (kept (ap (λ (f : Form). f.more) (sym form) ∙ m));
}

-- more of them
pub keep_more : (bytes piece : List ℕ) (i j : Incoming) → HasCome bytes i → has_ended i.reader ≡ true → j.reader ≡ i.reader → j.form ≡ i.form → (0 < length piece → j.over ≡ true) → (piece ≡ [] → j.over ≡ i.over) → (i.form.more ≡ true → j.rest.items ≡ i.rest.items ++ piece) → HasCome (bytes ++ piece) j
keep_more bytes piece i j h ended reader form some same rest =
    come_kept (bytes ++ piece) h.fed h.behind piece i j (ap (λ (x : List ℕ). x ++ piece) h.whole ∙ append_assoc h.fed h.behind piece) (subst (IsFed h.fed) (sym reader) h.is_fed) (ap grammar_of reader) h.grammar (ap has_ended reader ∙ ended) (h.ended ended)
    h.over h.none h.kept form some same rest

-- the first of them
pub end_more : (bytes piece : List ℕ) (used : ℕ) (i j : Incoming) (h : HasCome bytes i) → has_ended i.reader ≡ false → IsFed (h.fed ++ take used piece) j.reader → grammar_of j.reader ≡ grammar_of i.reader → has_ended j.reader ≡ true → IsEnded (grammar_of i.reader) h.fed piece used → j.form ≡ i.form →
    (0 < length (take (length piece - used) (drop used piece)) → j.over ≡ true) → (take (length piece - used) (drop used piece) ≡ [] → j.over ≡ i.over) → (i.form.more ≡ true → j.rest.items ≡ i.rest.items ++ take (length piece - used) (drop used piece)) → HasCome (bytes ++ piece) j
end_more bytes piece used i j h before fed grammar ended e form some same rest =
    let none : h.behind ≡ [] = h.reading before in
    let alone : bytes ≡ h.fed = h.whole ∙ (rw none (append-nil {A = ℕ} h.fed)) in
    come_kept (bytes ++ piece) (h.fed ++ take used piece) [] (take (length piece - used) (drop used piece)) i j
    (ap (λ (x : List ℕ). x ++ piece) alone ∙ sym (used_all h.fed piece used)) fed grammar h.grammar ended (record { closed = e.closed; job = e.job; spells = rw (sym h.grammar) e.spells; within = e.within })
    (rw none at h.over) (λ o. refl) (λ m. h.kept m ∙ none) form some same rest

-- where they found memory

pub keep_on : {T E : Type 0} (bytes piece : List ℕ) (i j : Incoming) (r : Result T E) → HasCome bytes i → has_ended i.reader ≡ true → j.reader ≡ i.reader → j.form ≡ i.form → (0 < length piece → j.over ≡ true) → (piece ≡ [] → j.over ≡ i.over) →
    OnOk r (i.form.more ≡ true → j.rest.items ≡ i.rest.items ++ piece) → OnOk r (HasCome (bytes ++ piece) j)
keep_on bytes piece i j (Ok v) h ended reader form some same rest = keep_more bytes piece i j h ended reader form some same rest
keep_on bytes piece i j (Err e) h ended reader form some same rest = tt

pub end_on : {T E : Type 0} (bytes piece : List ℕ) (used : ℕ) (i j : Incoming) (r : Result T E) (h : HasCome bytes i) → has_ended i.reader ≡ false → IsFed (h.fed ++ take used piece) j.reader → grammar_of j.reader ≡ grammar_of i.reader → has_ended j.reader ≡ true → IsEnded (grammar_of i.reader) h.fed piece used → j.form ≡ i.form →
    (0 < length (take (length piece - used) (drop used piece)) → j.over ≡ true) → (take (length piece - used) (drop used piece) ≡ [] → j.over ≡ i.over) → OnOk r (i.form.more ≡ true → j.rest.items ≡ i.rest.items ++ take (length piece - used) (drop used piece)) →
    OnOk r (HasCome (bytes ++ piece) j)
end_on bytes piece used i j (Ok v) h before fed grammar ended e form some same rest = end_more bytes piece used i j h before fed grammar ended e form some same rest
end_on bytes piece used i j (Err x) h before fed grammar ended e form some same rest = tt

-- so many bytes came, in so many turns
pub record HasReached (left rest : Option (List ℕ)) (turns room : ℕ) (i : Incoming) : Type 0 where
  pub bytes : List ℕ
  pub taken : Consumes left rest bytes
  pub come : HasCome bytes i
  pub size : length bytes + room ≡ 16777216
  pub turned : turns ≤ length bytes
  pub fed : fed_size i.reader ≤ length bytes

pub reached_more : (left mid rest : Option (List ℕ)) (turns room count : ℕ) (i j : Incoming) (piece : List ℕ) (h : HasReached left mid turns room i) → Consumes mid rest piece → length piece ≡ count → 1 ≤ count → count ≤ room →
    HasCome (h.bytes ++ piece) j → fed_size j.reader ≤ fed_size i.reader + length piece → HasReached left rest (turns + 1) (room - count) j
reached_more left mid rest turns room count i j piece h taken count_is some fits come size =
    let both : length (h.bytes ++ piece) ≡ length h.bytes + length piece = length-append h.bytes piece in
    record {
      bytes = h.bytes ++ piece;
      taken = consumes-trans left mid rest h.bytes piece h.taken taken;
      come = come;
      size = omega (arith, both, h.size, count_is, fits);
      turned = omega (arith, both, h.turned, count_is, some);
      fed = omega (arith, both, h.fed, size, count_is);
    }

-- the job was read

abbrev Only : Grammar → List ℕ → Result ReadJob JobFault → Type 0
Only g bytes res = AnswersOnly g (lines_of bytes) res

fed_alone : (bytes : List ℕ) (i : Incoming) (h : HasCome bytes i) → has_ended i.reader ≡ false → h.fed ≡ bytes
fed_alone bytes i h reading = sym (h.whole ∙ (rw (h.reading reading) (append-nil {A = ℕ} h.fed)))

read_by : (q : Bool) (bytes : List ℕ) (i : Incoming) (r : ReadJob) (h : HasCome bytes i) → has_ended i.reader ≡ q → IsRead i.form.grammar h.fed r → r.end ≡ length h.fed → IsRead i.form.grammar bytes r
read_by true bytes i r h e read end = rw h.whole (read_longer h.fed h.behind r (h.ended e).closed read end)
read_by false bytes i r h e read end = subst (λ (x : List ℕ). IsRead i.form.grammar x r) (fed_alone bytes i h e) read

pub come_read : (bytes : List ℕ) (i : Incoming) (r : ReadJob) (h : HasCome bytes i) → IsRead i.form.grammar h.fed r → r.end ≡ length h.fed → IsRead i.form.grammar bytes r
come_read bytes i r h read end = read_by (has_ended i.reader) bytes i r h refl read end

only_by : (q : Bool) (bytes : List ℕ) (i : Incoming) (res : Result ReadJob JobFault) (h : HasCome bytes i) → has_ended i.reader ≡ q → Only i.form.grammar h.fed res → Only i.form.grammar bytes res
only_by true bytes i res h e only = rw h.whole (only_longer h.fed h.behind (h.ended e).job res (h.ended e).closed (h.ended e).spells only)
only_by false bytes i res h e only = subst (λ (x : List ℕ). Only i.form.grammar x res) (fed_alone bytes i h e) only

pub come_only : (bytes : List ℕ) (i : Incoming) (res : Result ReadJob JobFault) (h : HasCome bytes i) →
    AnswersOnly i.form.grammar (lines_of h.fed) res →
    AnswersOnly i.form.grammar (lines_of bytes) res
come_only bytes i res h only = only_by (has_ended i.reader) bytes i res h refl only

fault_by : (q : Bool) (bytes : List ℕ) (i : Incoming) (res : Result ReadJob JobFault) (h : HasCome bytes i) → has_ended i.reader ≡ q → Only i.form.grammar h.fed res → IfErr res (IsRefusal i.form.grammar (lines_of h.fed)) → IfErr res (IsRefusal i.form.grammar (lines_of bytes))
fault_by true bytes i res h e only bad = rw h.whole (fault_longer h.fed h.behind (h.ended e).job res (h.ended e).spells (h.ended e).within only)
fault_by false bytes i res h e only bad = subst (λ (x : List ℕ). IfErr res (IsRefusal i.form.grammar (lines_of x))) (fed_alone bytes i h e) bad

pub come_fault : (bytes : List ℕ) (i : Incoming) (res : Result ReadJob JobFault) (h : HasCome bytes i) →
    AnswersOnly i.form.grammar (lines_of h.fed) res → IfErr res (IsRefusal i.form.grammar (lines_of h.fed)) → IfErr res (IsRefusal i.form.grammar (lines_of bytes))
come_fault bytes i res h only bad = fault_by (has_ended i.reader) bytes i res h refl only bad

-- this stands behind it
pub come_behind : (bytes : List ℕ) (i : Incoming) (r : ReadJob) (h : HasCome bytes i) → i.form.more ≡ true → r.end ≡ length h.fed → i.rest.items ≡ drop r.end bytes
come_behind bytes i r h more end = h.kept more ∙ (rw (h.whole, end) (sym (drop-append_seam h.fed h.behind)))

-- a line behind it is bad
pub come_over : (bytes : List ℕ) (i : Incoming) (r : ReadJob) (h : HasCome bytes i) → i.over ≡ true → IsRead i.form.grammar h.fed r → r.end ≡ length h.fed → IsBadAt i.form.grammar (lines_of bytes) (r.lines + 1)
come_over bytes i r h over read end =
    let size : length bytes ≡ length h.fed + length h.behind = ap (λ (x : List ℕ). length x) h.whole ∙ length-append h.fed h.behind in
    bad_behind bytes r (come_read bytes i r h read end) (omega (arith, size, end, h.over over))

-- where nothing stands behind the job the reader was fed all bytes
pub all_fed : (bytes : List ℕ) (i : Incoming) (h : HasCome bytes i) → i.over ≡ false → length h.fed ≡ length bytes
all_fed bytes i h over =
    let same : bytes ≡ h.fed = h.whole ∙ (rw (h.none over) (append-nil {A = ℕ} h.fed)) in
    sym (ap (λ (x : List ℕ). length x) same)
