-- One piece more of a text.
use Rattle.std.proofs.Common.{◌≡◌, ℕ, ◌+◌, ◌-◌, ◌≤◌, List, ◌++◌, length, take, drop, Option, None, Some, sym, ◌∙◌, ap, arith, append_assoc, length-drop, length-take}
use Rattle.std.proofs.Math.Seq.{take-add}
use Rattle.std.proofs.lemmas.List.{take-take, take-append-le, take-append-drop, drop-drop}
use Rattle.std.specs.Prelude.{Result, Ok, Err, OnErr}
use Rattle.std.specs.Io.KnownBytes.{Appends, Consumes}
use Rattle.cov_outside.specs.Whole.{ConsumesSome}

pub appends-trans : (a b c : Option (List ℕ)) (xs ys : List ℕ) → Appends a b xs → Appends b c ys → Appends a c (xs ++ ys)
appends-trans None b c xs ys h k = tt
appends-trans (Some x) None c xs ys h k = absurd h
appends-trans (Some x) (Some y) None xs ys h k = k
appends-trans (Some x) (Some y) (Some z) xs ys h k = k ∙ (ap (λ w. w ++ ys) h ∙ append_assoc x xs ys)

pub appends_piece : (a b c : Option (List ℕ)) (i n : ℕ) (text : List ℕ) → n ≤ length text - i →
    Appends a b (take i text) → Appends b c (take n (take (length text - i) (drop i text))) → Appends a c (take (i + n) text)
appends_piece a b c i n text le h k = rw (take-add i n text) (appends-trans a b c (take i text) (take n (drop i text)) h (rw (take-take n (length text - i) (drop i text)) at k))

piece_length : (xs got : List ℕ) (at n : ℕ) → at + n ≤ length xs → got ≡ take ((at + n) - at) (drop at xs) → length got ≡ n
piece_length xs got at n fits e = ap length e ∙ simp (length-take, length-drop) (omega arith)

pub piece_given : (xs got buf : List ℕ) (at n : ℕ) → at + n ≤ length xs → got ≡ take ((at + n) - at) (drop at xs) →
    drop at xs ≡ take n (got ++ drop n buf) ++ drop (at + n) xs
piece_given xs got buf at n fits e =
    let size = piece_length xs got at n fits e in
    let same : (at + n) - at ≡ n = omega arith in
    let front : take n (got ++ drop n buf) ≡ take n (drop at xs) = rw (take-append-le n got (drop n buf) (omega (arith, size)), e, same) (take-take n n (drop at xs) (omega arith)) in
    rw (front, ← drop-drop n at xs) (sym (take-append-drop n (drop at xs)))

pub consumes-trans : (a b c : Option (List ℕ)) (xs ys : List ℕ) → Consumes a b xs → Consumes b c ys → Consumes a c (xs ++ ys)
consumes-trans None b c xs ys h k = tt
consumes-trans (Some x) None c xs ys h k = absurd h
consumes-trans (Some x) (Some y) None xs ys h k = k
consumes-trans (Some x) (Some y) (Some z) xs ys h k = h ∙ (ap (λ w. xs ++ w) k ∙ sym (append_assoc xs ys z))

-- bytes that were read and then found no memory
pub unheld_piece : {T E : Type 0} (r : Result T E) (a b c : Option (List ℕ)) (xs ys : List ℕ) → Consumes a b xs → Consumes b c ys → OnErr r (ConsumesSome a c)
unheld_piece (Ok x) a b c xs ys h k = tt
unheld_piece (Err e) a b c xs ys h k = (xs ++ ys, consumes-trans a b c xs ys h k)
