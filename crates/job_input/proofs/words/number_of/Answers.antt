use Rattle.std.proofs.Common.{◌≡◌, ◌<◌, ◌^◌, true, false, decimal, sym, ◌∙◌, rules}
use Rattle.std.proofs.lemmas.Slice.Eq.{bytes_eq-Decides}
use Rattle.job_input.proofs.NumberLemmas.{number_found, not_parsed, parsed_otherwise}
use Rattle.job_input.proofs.words.number_of.Goals as goal

pub returns-in_default : goal.returns-in_default
returns-in_default c = sym (not_parsed c.args.word.now c.parse.result c.in_default.field-0 c.parse.ensures.value.0 c.in_default.is)

pub returns-then-eq : goal.returns-then-eq
returns-then-eq c =
    let digits : c.as_slice.result.now ≡ decimal c.in-Ok.number = search rules in
    let equal : c.as_slice.result.now ≡ c.as_bytes.result.now = (bytes_eq-Decides c.as_slice.result.now c.as_bytes.result.now).0 (sym c.eq.ensures ∙ c.if-eq.true) in
    let fits : c.in-Ok.number < 2 ^ 32 = search rules in
    sym (number_found c.args.word.now c.in-Ok.number fits (sym c.as_bytes.ensures.value ∙ (sym equal ∙ digits)))

pub returns-else-eq : goal.returns-else-eq
returns-else-eq c =
    let digits : c.as_slice.result.now ≡ decimal c.in-Ok.number = search rules in
    sym (parsed_otherwise c.args.word.now c.parse.result c.in-Ok.number c.parse.ensures.value.0 c.in-Ok.is
    (λ is.
    let equal : true ≡ c.eq.result = sym (c.eq.ensures ∙ (bytes_eq-Decides c.as_slice.result.now c.as_bytes.result.now).1 (digits ∙ (sym is ∙ sym c.as_bytes.ensures.value))) in
    let clash : true ≡ false = equal ∙ c.if-eq.false in
    absurd cc))
