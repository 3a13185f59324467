-- Texts that are written one after another.
use Rattle.std.proofs.Common.{◌≡◌, ℕ, ◌+◌, ◌-◌, ◌^◌, ◌≤◌, min, Option, Result, Ok, Err, IsErr, List, [], ◌++◌, length, take, refl, sym, ◌∙◌, subst, arith, append_assoc, append-nil, length-append}
use Rattle.std.specs.Io.KnownBytes.{Appends}
use Rattle.std.proofs.KnownBytes.{Appends-nil, Appends-trans}
use Rattle.std.proofs.lemmas.List.{take-append-le}
use Rattle.std.proofs.lemmas.Bool.{false≢true}
use Rattle.std.proofs.lemmas.Result.{on_ok_weaker, on_err_weaker}
use Rattle.std.proofs.Math.Seq.{take-append-add}
use Rattle.std.proofs.Math.Nat.{le_trans, le-min, min-le_left, min-le_right}
use Rattle.cov_outside.specs.Meaning.{raised, Rose, AppendsSome}
use Rattle.cov_outside.specs.Causes.{HasCause}
use Rattle.cov_outside.specs.Writes.{Writes}

raised-le : (a b : ℕ) → a ≤ b → raised a ≤ raised b
raised-le a b h =
    let left : min (a + 1) (2 ^ 64 - 1) ≤ b + 1 = omega (arith, min-le_left (a + 1) (2 ^ 64 - 1), h) in
    le-min left (min-le_right (a + 1) (2 ^ 64 - 1))

-- a count that rose has risen since before
pub rose_since : (a b c : ℕ) → a ≤ b → Rose b c → Rose a c
rose_since a b c h r = le_trans (raised-le a b h) r

-- a fault after calls without one
pub cause_since : {T E : Type 0} {a b c : ℕ} {r : Result T E} → a ≤ b → HasCause b c r → HasCause a c r
cause_since {a = a} {b = b} {c = c} {r = r} h k = record { later = le_trans h k.later; failed = on_err_weaker r (λ f. rose_since a b c h f) k.failed }

-- what a sink took of a text it took of a longer one
pub some_more : (old new : Option (List ℕ)) (text rest : List ℕ) → AppendsSome old new text → AppendsSome old new (text ++ rest)
some_more old new text rest h =
    (h.0, omega (arith, h.1, length-append text rest), rw (take-append-le h.0 text rest h.1) h.2)

-- and after another text
pub some_after : (old mid new : Option (List ℕ)) (before text : List ℕ) → Appends old mid before → AppendsSome mid new text → AppendsSome old new (before ++ text)
some_after old mid new before text h s =
    (length before + s.0, omega (arith, s.1, length-append before text), rw (take-append-add before text s.0) (Appends-trans old mid new before (take s.0 text) h s.2))

-- a part of the text was written, and this is left
pub record Progress {K : Type 0} (written : K → Option (List ℕ)) (faults : K → ℕ) (old now : K) (left all : List ℕ) : Type 0 where
  pub done : List ℕ
  pub joined : done ++ left ≡ all
  pub taken : Appends (written old) (written now) done
  pub later : faults old ≤ faults now

pub progress_start : {K : Type 0} {written : K → Option (List ℕ)} {faults : K → ℕ} {now : K} {all : List ℕ} → Progress written faults now now all all
progress_start {written = written} {now = now} = record { done = []; joined = refl; taken = Appends-nil (written now); later = omega arith }

pub progress_more : {K T E : Type 0} {written : K → Option (List ℕ)} {faults : K → ℕ} {old mid new : K} {u : T} {piece left all : List ℕ} →
    Writes {E = E} written faults mid new (Ok u) piece → Progress written faults old mid (piece ++ left) all → Progress written faults old new left all
progress_more {written = written} {old = old} {mid = mid} {new = new} {piece = piece} {left = left} w p =
    record {
      done = p.done ++ piece;
      joined = append_assoc p.done piece left ∙ p.joined;
      taken = Appends-trans (written old) (written mid) (written new) _ _ p.taken w.whole;
      later = le_trans p.later w.cause.later;
    }

pub progress_last : {K T E : Type 0} {written : K → Option (List ℕ)} {faults : K → ℕ} {old mid new : K} {r : Result T E} {left all : List ℕ} →
    Writes written faults mid new r left → Progress written faults old mid left all → Writes written faults old new r all
progress_last {written = written} {faults = faults} {old = old} {mid = mid} {new = new} {r = r} {left = left} w p =
    let joined : Writes written faults old new r (p.done ++ left) = record {
      whole = on_ok_weaker r (λ h. Appends-trans (written old) (written mid) (written new) _ _ p.taken h) w.whole;
      some = on_err_weaker r (λ h. some_after (written old) (written mid) (written new) _ _ p.taken h) w.some;
      cause = cause_since p.later w.cause;
    } in
    rw p.joined at joined

pub progress_end : {K T E : Type 0} {written : K → Option (List ℕ)} {faults : K → ℕ} {old now : K} {u : T} {all : List ℕ} →
    Progress written faults old now [] all → Writes {E = E} written faults old now (Ok u) all
progress_end {E = E} {written = written} {faults = faults} {old = old} {now = now} {u = u} p =
    let so_far : Writes {E = E} written faults old now (Ok u) p.done = record { whole = p.taken; some = tt; cause = record { later = p.later; failed = tt } } in
    let whole = sym (append-nil p.done) ∙ p.joined in
    rw whole at so_far

-- what the exit of a `?` returns, where the sink took a part of the next piece
pub progress_exit : {K T E U : Type 0} {written : K → Option (List ℕ)} {faults : K → ℕ} {old mid new : K} {s : Result T E} {e : E} {piece all : List ℕ} (left : List ℕ) →
    IsErr s → Writes {T = U} written faults mid new (Err e) piece → Progress written faults old mid (piece ++ left) all → Writes written faults old new s all
progress_exit {s = Ok x} left fails w p = absurd (false≢true fails)
progress_exit {T = T} {E = E} {written = written} {faults = faults} {old = old} {mid = mid} {new = new} {s = Err d} {e = e} {piece = piece} {all = all} left fails w p =
    let rest : Writes {T = T} written faults mid new (Err e) (piece ++ left) = record {
      whole = tt;
      some = some_more (written mid) (written new) piece left w.some;
      cause = record { later = w.cause.later; failed = w.cause.failed };
    } in
    let stopped : Writes {T = T} {E = E} written faults old new (Err e) all = progress_last rest p in
    record { whole = tt; some = stopped.some; cause = record { later = stopped.cause.later; failed = stopped.cause.failed } }

-- the text that is left, said another way
pub progress_at : {K : Type 0} {written : K → Option (List ℕ)} {faults : K → ℕ} {old now : K} {left same all : List ℕ} →
    left ≡ same → Progress written faults old now left all → Progress written faults old now same all
progress_at {written = written} {faults = faults} {old = old} {now = now} {all = all} is p = subst (λ bs. Progress written faults old now bs all) is p
