use Rattle.std.proofs.Common.{◌≡◌, drop, map, Some}
use Rattle.job_text.specs.Meaning as spell
use Rattle.job_text.proofs.words.names_of.Given as goal

abbrev pub invariant-loop-word : goal.invariant-loop-word
invariant-loop-word l = spell.names_on (Some l.names.items) (map (λ w. w.now) (drop l.word-index l.words)) ≡ spell.names_at (map (λ w. w.now) l.words)
