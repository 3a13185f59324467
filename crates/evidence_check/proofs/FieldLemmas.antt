-- The fields of evidence, entry by entry.
use Rattle.std.proofs.Common.{◌≡◌, ℕ, ◌+◌, ◌-◌, ◌<◌, ◌≤◌, zero, suc, Bool, true, false, ◌&&◌, nat_eq, nat_le, nat_lt, if◌then◌else◌, slice_index, Some, None, List, ◌∷◌, ◌++◌, length, drop, refl, sym, ◌∙◌, ap, arith, length-drop, leb-true, eqb-true, eq-eqb}
use Rattle.std.proofs.lemmas.List.{drop-drop}
use Rattle.std.proofs.lemmas.Bool.{lt-ltb, le-leb, ltb-true, and_parts}
use Rattle.byteorder.specs.Endian.{big_bytes, big_number}
use Rattle.byteorder.specs.Numbers.{big_number-reads_back}
use Rattle.cov_base.specs.declared.limits.TheConstants.{BUDGET_LIMIT}
use Rattle.marks_file.specs.Meaning.{first_bad}
use Rattle.marks_file.proofs.Laws.{first_none, first_some, none_left, none_right, all_good, whole}
use Rattle.evidence_check.specs.Meaning.{entry_bytes, entry_fields, entries_fields}
use Rattle.evidence_check.specs.declared.firsts.First.{First}
use Rattle.task_run.proofs.Laws.{one_at_most}

-- the bytes begin with an entry whose fields keep their rules
pub record IsEntry (tasks : ℕ) (bs : List ℕ) : Type 0 where
  pub room : 7 ≤ length bs
  pub task : big_number 2 bs < tasks
  pub number : big_number 4 (drop 2 bs) < BUDGET_LIMIT
  pub last : slice_index bs 6 ≤ 1

pub entry_read : (tasks at : ℕ) (bs : List ℕ) → first_bad (entry_fields tasks at bs) ≡ None → IsEntry tasks bs
entry_read tasks at bs h =
    let t1 = nat_le 2 (length bs) && nat_lt (big_number 2 bs) tasks in
    let t2 = nat_le 6 (length bs) && nat_lt (big_number 4 (drop 2 bs)) BUDGET_LIMIT in
    let t3 = nat_le 7 (length bs) && nat_le (slice_index bs 6) 1 in
    let h1 : (t1 && (t2 && (t3 && true))) ≡ true = all_good (entry_fields tasks at bs) h in
    let h2 = (and_parts t1 (t2 && (t3 && true)) h1).1 in
    let h3 = (and_parts t3 true (and_parts t2 (t3 && true) h2).1).0 in
    record {
      room = leb-true 7 (length bs) (and_parts (nat_le 7 (length bs)) _ h3).0;
      task = ltb-true (big_number 2 bs) tasks (and_parts (nat_le 2 (length bs)) _ (and_parts t1 (t2 && (t3 && true)) h1).0).1;
      number = ltb-true (big_number 4 (drop 2 bs)) BUDGET_LIMIT (and_parts (nat_le 6 (length bs)) _ (and_parts t2 (t3 && true) h2).0).1;
      last = leb-true (slice_index bs 6) 1 (and_parts (nat_le 7 (length bs)) _ h3).1;
    }

entry_none : (tasks at : ℕ) (bs : List ℕ) → IsEntry tasks bs → first_bad (entry_fields tasks at bs) ≡ None
entry_none tasks at bs r =
    let room = r.room in
    rw (whole 2 (length bs) _ (omega arith) (lt-ltb (big_number 2 bs) tasks r.task), whole 6 (length bs) _ (omega arith) (lt-ltb (big_number 4 (drop 2 bs)) BUDGET_LIMIT r.number), whole 7 (length bs) _ room (le-leb (slice_index bs 6) 1 r.last)) refl

-- so many entries, and nothing behind them
abbrev pub AreEntries : ℕ → ℕ → List ℕ → Type 0
AreEntries tasks zero bs = length bs ≡ 0
AreEntries tasks (suc n) bs = IsEntry tasks bs × AreEntries tasks n (drop 7 bs)

passed : (b : Bool) (at : ℕ) → (if b then None else Some at) ≡ None → b ≡ true
passed true at h = refl
passed false at h = absurd cc

pub entries_read : (tasks at n : ℕ) (bs : List ℕ) → first_bad (entries_fields tasks at n bs) ≡ None → AreEntries tasks n bs
entries_read tasks at zero bs h = eqb-true (length bs) 0 (passed (nat_eq (length bs) 0) at h)
entries_read tasks at (suc n) bs h = (
  entry_read tasks at bs (none_left (entry_fields tasks at bs) (entries_fields tasks (at + 7) n (drop 7 bs)) h),
  entries_read tasks (at + 7) n (drop 7 bs) (none_right (entry_fields tasks at bs) (entries_fields tasks (at + 7) n (drop 7 bs)) h),
)

pub entries_none : (tasks at n : ℕ) (bs : List ℕ) → AreEntries tasks n bs → first_bad (entries_fields tasks at n bs) ≡ None
entries_none tasks at zero bs h = rw (eq-eqb (length bs) 0 h) refl
entries_none tasks at (suc n) bs h =
    first_none (entry_fields tasks at bs) (entries_fields tasks (at + 7) n (drop 7 bs)) (entry_none tasks at bs h.0) ∙ entries_none tasks (at + 7) n (drop 7 bs) h.1

-- an entry that was written has good fields
pub entry_written : (tasks : ℕ) (v : First) (rest : List ℕ) → tasks ≤ 65536 → v.task < tasks → v.before < BUDGET_LIMIT → IsEntry tasks (entry_bytes v ++ rest)
entry_written tasks v rest few task before =
    let last : List ℕ = (if v.subject then 1 else 0) ∷ rest in
    let t : big_number 2 (entry_bytes v ++ rest) ≡ v.task = big_number-reads_back 2 v.task (big_bytes 4 v.before ++ last) (omega arith) in
    let n : big_number 4 (drop 2 (entry_bytes v ++ rest)) ≡ v.before = big_number-reads_back 4 v.before last (omega arith) in
    record { room = omega arith; task = omega (arith, t); number = omega (arith, n); last = one_at_most v.subject }

-- i entries were read, and the others begin at `at`
pub record EntriesSoFar (input : List ℕ) (tasks from count at i : ℕ) : Type 0 where
  pub inside : at ≤ length input
  pub fields : first_bad (entries_fields tasks from count (drop from input)) ≡ first_bad (entries_fields tasks at (count - i) (drop at input))

next_entries : (tasks at k n : ℕ) (bs : List ℕ) → n ≡ suc k → first_bad (entries_fields tasks at n bs) ≡ first_bad (entry_fields tasks at bs ++ entries_fields tasks (at + 7) k (drop 7 bs))
next_entries tasks at k n bs e = ap (λ m. first_bad (entries_fields tasks at m bs)) e

pub entries_step : (input : List ℕ) (tasks from count at i : ℕ) → EntriesSoFar input tasks from count at i → i < count → first_bad (entry_fields tasks at (drop at input)) ≡ None →
    EntriesSoFar input tasks from count (at + 7) (i + 1)
entries_step input tasks from count at i s lt good =
    let bs = drop at input in
    let k = count - (i + 1) in
    let room = (entry_read tasks at bs good).room in
    let inside = s.inside in
    record {
      inside = omega (arith, room, length-drop at input);
      fields = s.fields ∙ (next_entries tasks at k (count - i) bs (omega arith)
          ∙ (first_none (entry_fields tasks at bs) (entries_fields tasks (at + 7) k (drop 7 bs)) good ∙ ap (λ t. first_bad (entries_fields tasks (at + 7) k t)) (drop-drop 7 at input)));
    }

pub entries_stop : (input : List ℕ) (tasks from count at i o : ℕ) → EntriesSoFar input tasks from count at i → i < count → first_bad (entry_fields tasks at (drop at input)) ≡ Some o →
    Some o ≡ first_bad (entries_fields tasks from count (drop from input))
entries_stop input tasks from count at i o s lt bad =
    let bs = drop at input in
    let k = count - (i + 1) in
    sym (s.fields ∙ (next_entries tasks at k (count - i) bs (omega arith) ∙ first_some (entry_fields tasks at bs) (entries_fields tasks (at + 7) k (drop 7 bs)) o bad))
