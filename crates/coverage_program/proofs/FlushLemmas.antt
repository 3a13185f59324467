-- A text that was written stays written while a writer hands it on.
use Rattle.std.proofs.Common.{inl, inr, ◌≡◌, ℕ, Option, Some, None, List, length, take, refl, sym, ◌∙◌, subst, arith}
use Rattle.std.specs.Io.KnownBytes.{Appends, Keeps}
use Rattle.std.proofs.Math.Seq.{take-length}
use Rattle.cov_outside.specs.Meaning.{raised}
use Rattle.job_input.specs.declared.words.Command.{Command}
use Rattle.job_input.specs.Meaning.{SourceChange}
use Rattle.run_reports.specs.Meaning.{AreasChange}
use Rattle.coverage_commands.specs.Meaning.{IsServed}
use Rattle.refusals.specs.Meaning.{IsWritten, SinkChange}

kept : (old mid new : Option (List ℕ)) (text : List ℕ) → Keeps mid new → Appends old mid text → Appends old new text
kept None mid new text k a = tt
kept (Some xs) None new text k a = absurd a
kept (Some xs) (Some ys) None text k a = absurd k
kept (Some xs) (Some ys) (Some zs) text k a = k ∙ a

-- the sink as it is later
abbrev behind : SinkChange → Option (List ℕ) → ℕ → SinkChange
behind k grown later = record k { grown = grown; later = later }

whole : (k : SinkChange) (grown : Option (List ℕ)) (later status answer : ℕ) (text : List ℕ) → Keeps k.grown grown → later ≡ k.later → IsWritten status text k answer → IsWritten status text (behind k grown later) answer
whole k grown later status answer text keeps same (inl w) = inl (w.0, kept k.written k.grown grown text keeps w.1, omega (arith, w.2, same))
whole k grown later status answer text keeps same (inr w) = inr (w.0, (w.1.0, w.1.1, kept k.written k.grown grown (take w.1.0 text) keeps w.1.2), omega (arith, w.2, same))

cut : (k : SinkChange) (grown : Option (List ℕ)) (later status answer : ℕ) (text : List ℕ) → Keeps k.grown grown → later ≡ raised k.later → IsWritten status text k answer → IsWritten status text (behind k grown later) 6
cut k grown later status answer text keeps one (inl w) =
    inr (refl, (length text, omega arith, subst (Appends k.written grown) (sym (take-length text)) (kept k.written k.grown grown text keeps w.1)), omega (arith, w.2, one))
cut k grown later status answer text keeps one (inr w) = inr (refl, (w.1.0, w.1.1, kept k.written k.grown grown (take w.1.0 text) keeps w.1.2), omega (arith, w.2, one))

told_so : {c : Command} {s : SourceChange} {a : AreasChange} (k n : SinkChange) (answer result : ℕ) → ((status : ℕ) (text : List ℕ) → IsWritten status text k answer → IsWritten status text n result) → IsServed c s a k answer → IsServed c s a n result
told_so k n answer result told h = record {
  answers = record { status = h.answers.status; text = h.answers.text; cause = h.answers.cause; told = told h.answers.status h.answers.text h.answers.told };
  complete = h.complete;
  untouched = h.untouched;
}

-- the writer has handed on what it held
pub handed_on : {c : Command} {s : SourceChange} {a : AreasChange} (k : SinkChange) (grown : Option (List ℕ)) (later answer : ℕ) → Keeps k.grown grown → later ≡ k.later → IsServed c s a k answer → IsServed c s a (behind k grown later) answer
handed_on k grown later answer keeps same h = told_so k (behind k grown later) answer answer (λ status text. whole k grown later status answer text keeps same) h

-- it has failed at that
pub lost : {c : Command} {s : SourceChange} {a : AreasChange} (k : SinkChange) (grown : Option (List ℕ)) (later answer : ℕ) → Keeps k.grown grown → later ≡ raised k.later → IsServed c s a k answer → IsServed c s a (behind k grown later) 6
lost k grown later answer keeps one h = told_so k (behind k grown later) answer 6 (λ status text. cut k grown later status answer text keeps one) h
