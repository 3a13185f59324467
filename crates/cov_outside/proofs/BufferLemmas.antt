-- Texts that are put into a buffer one after another.
use Rattle.std.proofs.Common.{◌≡◌, ℕ, Option, Result, Ok, Err, IsErr, List, [], ◌++◌, take, drop, sym, ◌∙◌, ap, subst, append_assoc, append-nil}
use Rattle.std.proofs.KnownBytes.{Appends-trans}
use Rattle.std.proofs.lemmas.Bool.{false≢true}
use Rattle.std.proofs.lemmas.List.{take-append-drop}
use Rattle.std.proofs.lemmas.Result.{on_ok_weaker, on_err_weaker}
use Rattle.std.proofs.Math.Nat.{le_trans}
use Rattle.cov_outside.specs.Meaning.{AppendsSome}
use Rattle.cov_outside.specs.Writes.{Writes}
use Rattle.cov_outside.specs.Puts.{Puts}
use Rattle.cov_outside.proofs.WriteLemmas.{cause_since, some_more, some_after, Progress, progress_last}

-- a piece more was put into the buffer
pub puts_more : {K T E : Type 0} {written : K → Option (List ℕ)} {faults : K → ℕ} {old mid new : K} {before after : List ℕ} {u : T} {piece all : List ℕ} (left : List ℕ) →
    Puts {E = E} written faults mid new before after (Ok u) piece → Progress written faults old mid (before ++ (piece ++ left)) all → Progress written faults old new (after ++ left) all
puts_more {written = written} {old = old} {mid = mid} {new = new} {before = before} {after = after} {piece = piece} left w p =
    let held = sym (append_assoc w.whole.done after left) ∙ (ap (λ t. t ++ left) w.whole.joined ∙ append_assoc before piece left) in
    record {
      done = p.done ++ w.whole.done;
      joined = append_assoc p.done w.whole.done (after ++ left) ∙ (ap (λ t. p.done ++ t) held ∙ p.joined);
      taken = Appends-trans (written old) (written mid) (written new) _ _ p.taken w.whole.taken;
      later = le_trans p.later w.cause.later;
    }

-- the last piece of a text is put into the buffer
pub puts_last : {K T E : Type 0} {written : K → Option (List ℕ)} {faults : K → ℕ} {old mid new : K} {first before after : List ℕ} {r : Result T E} {left all : List ℕ} →
    Puts written faults mid new before after r left → Progress written faults old mid (before ++ left) (first ++ all) → Puts written faults old new first after r all
puts_last {written = written} {faults = faults} {old = old} {mid = mid} {new = new} {first = first} {before = before} {after = after} {r = r} {left = left} {all = all} w p = record {
  whole = on_ok_weaker r (λ h. record {
    done = p.done ++ h.done;
    joined = append_assoc p.done h.done after ∙ (ap (λ t. p.done ++ t) h.joined ∙ p.joined);
    taken = Appends-trans (written old) (written mid) (written new) _ _ p.taken h.taken;
  }) w.whole;
  some = on_err_weaker r (λ h. subst (λ t. AppendsSome (written old) (written new) t) p.joined (some_after (written old) (written mid) (written new) p.done (before ++ left) p.taken h)) w.some;
  empty = w.empty;
  cause = cause_since p.later w.cause;
}

-- what the exit of a `?` returns, where the sink failed at the next piece
pub puts_exit : {K T E U : Type 0} {written : K → Option (List ℕ)} {faults : K → ℕ} {old mid new : K} {first before after : List ℕ} {s : Result T E} {e : E} {piece all : List ℕ} (left : List ℕ) →
    IsErr s → Puts {T = U} written faults mid new before after (Err e) piece → Progress written faults old mid (before ++ (piece ++ left)) (first ++ all) → Puts written faults old new first after s all
puts_exit {s = Ok x} left fails w p = absurd (false≢true fails)
puts_exit {T = T} {E = E} {written = written} {faults = faults} {old = old} {mid = mid} {new = new} {first = first} {before = before} {after = after} {s = Err d} {e = e} {piece = piece} {all = all} left fails w p =
    let more = rw (append_assoc before piece left) at (some_more (written mid) (written new) (before ++ piece) left w.some) in
    let rest : Puts {T = T} written faults mid new before after (Err e) (piece ++ left) = record {
      whole = tt;
      some = more;
      empty = w.empty;
      cause = record { later = w.cause.later; failed = w.cause.failed };
    } in
    let stopped : Puts {T = T} {E = E} written faults old new first after (Err e) all = puts_last rest p in
    record { whole = tt; some = stopped.some; empty = stopped.empty; cause = record { later = stopped.cause.later; failed = stopped.cause.failed } }

-- what was held, and then the text, was written
pub written_puts : {K T E : Type 0} {written : K → Option (List ℕ)} {faults : K → ℕ} {old new : K} {before after : List ℕ} {r : Result T E} {text : List ℕ} →
    after ≡ [] → Writes written faults old new r (before ++ text) → Puts written faults old new before after r text
written_puts {before = before} {after = after} {r = r} {text = text} none w = record {
  whole = on_ok_weaker r (λ h. record { done = before ++ text; joined = ap (λ t. (before ++ text) ++ t) none ∙ append-nil (before ++ text); taken = h }) w.whole;
  some = w.some;
  empty = on_err_weaker r (λ h. none) w.some;
  cause = w.cause;
}

-- a text that fills the buffer, and its rest
pub filled : (before held text : List ℕ) (k : ℕ) → held ≡ before ++ take k text → before ++ text ≡ held ++ drop k text
filled before held text k is =
    ap (λ t. before ++ t) (sym (take-append-drop k text)) ∙ (sym (append_assoc before (take k text) (drop k text)) ∙ ap (λ t. t ++ drop k text) (sym is))

-- a text was put into an empty buffer, and what is held is written
pub puts_flushed : {K T U E : Type 0} {written : K → Option (List ℕ)} {faults : K → ℕ} {old mid new : K} {held : List ℕ} {u : U} {r : Result T E} {text : List ℕ} →
    Puts {E = E} written faults old mid [] held (Ok u) text → Writes written faults mid new r held → Writes written faults old new r text
puts_flushed p w = progress_last w (record { done = p.whole.done; joined = p.whole.joined; taken = p.whole.taken; later = p.cause.later })
