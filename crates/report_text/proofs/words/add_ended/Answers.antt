use Rattle.std.proofs.Common.{◌++◌, ◌∙◌, ap, append_assoc, codes}
use Rattle.annotator.specs.Meaning.{hex_digits}
use Rattle.report_text.specs.Meaning.{ending_words}
use Rattle.report_text.proofs.words.add_ended.Goals as goal

pub returns-in-Touched-clause-items : goal.returns-in-Touched-clause-items
unfolding ending_words
returns-in-Touched-clause-items c =
    let whole = c.add_hex-in-Touched.ensures.items ∙ ap (λ l. l ++ hex_digits 6 c.get.result) c.add_text-in-Touched.ensures.items ∙ append_assoc c.args.line.now.items (codes "TOUCHED ") (hex_digits 6 c.get.result) ∙ ap (λ a. c.args.line.now.items ++ (codes "TOUCHED " ++ hex_digits 6 a)) c.get.ensures.value in
    rw c.in-Touched.is whole
