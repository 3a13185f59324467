-- Lines one after another.
use Rattle.std.proofs.Common.{◌≡◌, ℕ, Option, Result, Ok, Err, IsErr, List, [], ◌∷◌, ◌++◌, refl, sym, ap, ◌∙◌, subst, append_assoc, append-nil}
use Rattle.cov_outside.specs.Writes.{Writes}
use Rattle.cov_outside.proofs.Laws as bytes
use Rattle.report_text.specs.Meaning.{text_of}
use Rattle.report_text.specs.Writes.{WritesLines}

pub text_of-append : (a b : List (List ℕ)) → text_of (a ++ b) ≡ text_of a ++ text_of b
text_of-append [] b = refl
text_of-append (line ∷ a) b = ap (λ t. (line ++ 10 ∷ []) ++ t) (text_of-append a b) ∙ sym (append_assoc (line ++ 10 ∷ []) (text_of a) (text_of b))

pub one_line : {K T E : Type 0} (written : K → Option (List ℕ)) (faults : K → ℕ) (old new : K) (result : Result T E) (items text : List ℕ) →
    Writes written faults old new result items → items ≡ text ++ 10 ∷ [] → WritesLines written faults old new result (text ∷ [])
one_line written faults old new result items text h is =
    let all : items ≡ text_of (text ∷ []) = is ∙ sym (append-nil (text ++ 10 ∷ [])) in
    record { as_text = subst (λ bs. Writes written faults old new result bs) all h }

-- a part of the lines was written, and these are left
pub record Progress {K : Type 0} (written : K → Option (List ℕ)) (faults : K → ℕ) (old now : K) (left all : List (List ℕ)) : Type 0 where
  pub as_text : bytes.Progress written faults old now (text_of left) (text_of all)

parted : {K : Type 0} {written : K → Option (List ℕ)} {faults : K → ℕ} {old now : K} {all : List (List ℕ)} (piece left : List (List ℕ)) →
    Progress written faults old now (piece ++ left) all → bytes.Progress written faults old now (text_of piece ++ text_of left) (text_of all)
parted {written = written} {faults = faults} {old = old} {now = now} {all = all} piece left p =
    subst (λ bs. bytes.Progress written faults old now bs (text_of all)) (text_of-append piece left) p.as_text

pub progress_start : {K : Type 0} {written : K → Option (List ℕ)} {faults : K → ℕ} {now : K} {all : List (List ℕ)} → Progress written faults now now all all
progress_start = record { as_text = bytes.progress_start }

pub progress_more : {K T E : Type 0} {written : K → Option (List ℕ)} {faults : K → ℕ} {old mid new : K} {u : T} {piece left all : List (List ℕ)} →
    WritesLines {E = E} written faults mid new (Ok u) piece → Progress written faults old mid (piece ++ left) all → Progress written faults old new left all
progress_more {piece = piece} {left = left} w p = record { as_text = bytes.progress_more w.as_text (parted piece left p) }

pub progress_last : {K T E : Type 0} {written : K → Option (List ℕ)} {faults : K → ℕ} {old mid new : K} {r : Result T E} {left all : List (List ℕ)} →
    WritesLines written faults mid new r left → Progress written faults old mid left all → WritesLines written faults old new r all
progress_last w p = record { as_text = bytes.progress_last w.as_text p.as_text }

pub progress_end : {K T E : Type 0} {written : K → Option (List ℕ)} {faults : K → ℕ} {old now : K} {u : T} {all : List (List ℕ)} →
    Progress written faults old now [] all → WritesLines {E = E} written faults old now (Ok u) all
progress_end p = record { as_text = bytes.progress_end p.as_text }

-- what the exit of a `?` returns, where the sink took a part of the next lines
pub progress_exit : {K T E U : Type 0} {written : K → Option (List ℕ)} {faults : K → ℕ} {old mid new : K} {s : Result T E} {e : E} {piece all : List (List ℕ)} (left : List (List ℕ)) →
    IsErr s → WritesLines {T = U} written faults mid new (Err e) piece → Progress written faults old mid (piece ++ left) all → WritesLines written faults old new s all
progress_exit {piece = piece} left fails w p = record { as_text = bytes.progress_exit (text_of left) fails w.as_text (parted piece left p) }

-- the lines that are left, said another way
pub progress_at : {K : Type 0} {written : K → Option (List ℕ)} {faults : K → ℕ} {old now : K} {left same all : List (List ℕ)} →
    left ≡ same → Progress written faults old now left all → Progress written faults old now same all
progress_at {written = written} {faults = faults} {old = old} {now = now} {all = all} is p = subst (λ ls. Progress written faults old now ls all) is p

-- no lines
pub writes_none : {K T E : Type 0} {written : K → Option (List ℕ)} {faults : K → ℕ} {now : K} {u : T} → WritesLines {E = E} written faults now now (Ok u) []
writes_none = progress_end progress_start
