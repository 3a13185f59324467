-- What was written to a sink, as its status tells.
use Rattle.std.proofs.Common.{inl, inr, OnOk, OnErr, ◌≡◌, ℕ, Option, Result, Ok, Err, List, refl, subst}
use Rattle.cov_outside.specs.Writes.{Writes}
use Rattle.refusals.specs.Meaning.{IsWritten, SinkChange, sink_change, refusal, RefusalView}
use Rattle.refusals.specs.Told.{IsText, IsTold, Told}

-- a text that was written, as its status tells
pub written_as : {K T E : Type 0} {written : K → Option (List ℕ)} {faults : K → ℕ} {old new : K} (text : List ℕ) (r : Result T E) (answer : ℕ) → Writes written faults old new r text →
    OnOk r (answer ≡ 0) → OnErr r (answer ≡ 6) → IsWritten 0 text (sink_change written faults old new) answer
written_as text (Ok v) answer w good bad = inl (good, w.whole, w.cause.later)
written_as text (Err e) answer w good bad = inr (bad, w.some, w.cause.failed)

-- one text, whole
pub told_text : {K T E : Type 0} {written : K → Option (List ℕ)} {faults : K → ℕ} {old new : K} (text : List ℕ) (r : Result T E) (answer : ℕ) → Writes written faults old new r text →
    OnOk r (answer ≡ 0) → OnErr r (answer ≡ 6) → IsTold (IsText text) (sink_change written faults old new) answer
told_text text r answer w good bad = Told 0 text (refl, refl) (written_as text r answer w good bad)

-- the refusal's own line was told
pub told_as : (status : ℕ) (line bytes : List ℕ) (r : RefusalView) (k : SinkChange) (answer : ℕ) → refusal status line ≡ r → bytes ≡ line → IsWritten status bytes k answer → IsWritten r.status r.line k answer
told_as status line bytes r k answer is same told =
    subst (λ (v : RefusalView). IsWritten v.status v.line k answer) is (subst (λ (b : List ℕ). IsWritten status b k answer) same told)
