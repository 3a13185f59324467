use Rattle.marks_file.proofs.FieldLemmas.{header_read}
use Rattle.marks_file.proofs.reading.read_header.Goals as goal

pub returns-clause-good : goal.returns-clause-good
returns-clause-good c = header_read _ _ _ _ _ _ _ _ c.requires.before c.word_at-base.ensures c.in-Some.ensures.good c.has_base.ensures c.if-not-has_base.false c.has_size.ensures c.if-not-has_size.false c.has_count.ensures c.if-not-has_count.false
