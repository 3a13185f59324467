-- A session's number, counted from the first session on, is that of its name.
use Rattle.std.proofs.Common.{◌≡◌, ℕ, ◌+◌, Bool, true, false, cond, nat_lt, Some, None, List, [], ◌∷◌, length, option_map, if◌then◌else◌, refl, ap, sym, ◌∙◌, arith}
use Rattle.std.specs.List.{position_or_len}
use Rattle.std.specs.Str.{bytes_eq}
use Rattle.std.proofs.lemmas.Bool.Decides.{nat_tests}
use Rattle.cov_base.specs.declared.numbers.SessNo.{SessNo}
use Rattle.session_book.specs.Meaning.{JobView, SessionView}
use Rattle.session_book.specs.Names.{session_at, session_named}
use Rattle.job_answers.specs.Meaning.{number_from, session_number}

module _ (name : List ℕ) where
  abbrev is_it : SessionView → Bool
  is_it s = bytes_eq s.name name

  counted : (ss : List SessionView) (n : ℕ) → number_from n ss name ≡ (if nat_lt (position_or_len is_it ss) (length ss) then Some (n + position_or_len is_it ss) else None)
  counted [] n = refl
  counted (s ∷ ss) n = by (is_it s) refl (counted ss (n + 1))
    where
      by : (b : Bool) → is_it s ≡ b → number_from (n + 1) ss name ≡ (if nat_lt (position_or_len is_it ss) (length ss) then Some (n + 1 + position_or_len is_it ss) else None) → number_from n (s ∷ ss) name ≡ (if nat_lt (position_or_len is_it (s ∷ ss)) (length (s ∷ ss)) then Some (n + position_or_len is_it (s ∷ ss)) else None)
      by true e rest = rw e (grind (arith, nat_tests))
      by false e rest = rw e (rest ∙ grind (arith, nat_tests))

  numbers : (b : Bool) (i : ℕ) → option_map (λ (s : SessNo). s.0) (option_map session_at (cond b (Some i) None)) ≡ (if b then Some (1 + i) else None)
  numbers true i = ap Some (omega arith)
  numbers false i = refl

pub number_is : (j : JobView) (name : List ℕ) → option_map (λ (s : SessNo). s.0) (session_named j name) ≡ session_number j name
number_is j name =
    let at = position_or_len (is_it name) j.sessions in
    numbers name (nat_lt at (length j.sessions)) at ∙ sym (counted name j.sessions 1)
