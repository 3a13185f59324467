-- The facts of each kind.
use Rattle.std.specs.Prelude.{Bool, true, false}
use Rattle.cov_base.specs.declared.facts.Fact.{Fact}
use Rattle.cov_base.specs.declared.facts.Fact.TheVariants.{Ran}
use Rattle.cov_base.specs.declared.facts.Kind.{Kind}
use Rattle.cov_base.specs.declared.facts.Kind.TheVariants.{Straight, Conditional}

-- whether the fact is one of the kind's
abbrev pub is_of_kind : Kind → Fact → Bool
is_of_kind Straight Ran = true
is_of_kind Straight f = false
is_of_kind Conditional Ran = false
is_of_kind Conditional f = true
