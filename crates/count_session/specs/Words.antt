-- How a cell lies in its word, and where the words lie: first a cell for each place, then two counts for each.
use Rattle.std.specs.Prelude.{ℕ, ◌+◌, ◌-◌, ◌*◌, nat_eq, if◌then◌else◌, length}
use Rattle.cov_base.specs.Meaning.{breakpoint}
use Rattle.cov_base.specs.declared.facts.Fact.{Fact}
use Rattle.cov_base.specs.declared.facts.Fact.TheVariants.{Ran, Went, Stayed}
use Rattle.module_area.specs.Meaning.{PlanView}

-- the word of the breakpoint of session s
abbrev pub planted_word : ℕ → ℕ
planted_word s = (2 * s - 1) * 65536 + breakpoint

-- Ran and Went share the first of a place's counts, since no kind has both
abbrev pub count_index : Fact → ℕ
count_index Ran = 0
count_index Went = 0
count_index Stayed = 1

-- the word that counts the fact at place p, of n places
abbrev pub count_word : ℕ → ℕ → Fact → ℕ
count_word n p f = n + (2 * p + count_index f)

-- the words of n places, or an idle one
abbrev pub words_of : ℕ → ℕ
words_of n = if nat_eq n 0 then 1 else 3 * n

abbrev pub word_count : PlanView → ℕ
word_count plan = words_of (length plan.places)
