-- What sets of facts have, and which facts are of a kind.
use Rattle.std.proofs.Common.{◌≡◌, ◌⊎◌, inl, inr, Bool, true, false, not, ◌&&◌, ◌||◌, refl, sym, ◌∙◌}
use Rattle.std.proofs.lemmas.Bool.{or_cases, or_left, or_right}
use Rattle.std.proofs.Math.Bool.{or-false, or-true}
use Rattle.cov_base.specs.declared.facts.Fact.{Fact}
use Rattle.cov_base.specs.declared.facts.Fact.TheVariants.{Ran, Went, Stayed}
use Rattle.cov_base.specs.declared.facts.Kind.{Kind}
use Rattle.cov_base.specs.declared.facts.Kind.TheVariants.{Straight, Conditional}
use Rattle.cov_base.specs.Meaning.{FactSet, no_facts, has_fact, with_fact, union, full_of, is_full, is_within, same_fact, fact_of}
use Rattle.cov_base.specs.FactKind.{is_of_kind}

-- one fact and another

pub same_fact-self : (f : Fact) → same_fact f f ≡ true
same_fact-self Ran = refl
same_fact-self Went = refl
same_fact-self Stayed = refl

pub same_fact-true : (g f : Fact) → same_fact g f ≡ true → g ≡ f
same_fact-true Ran Ran h = refl
same_fact-true Ran Went h = absurd cc
same_fact-true Ran Stayed h = absurd cc
same_fact-true Went Ran h = absurd cc
same_fact-true Went Went h = refl
same_fact-true Went Stayed h = absurd cc
same_fact-true Stayed Ran h = absurd cc
same_fact-true Stayed Went h = absurd cc
same_fact-true Stayed Stayed h = refl

pub same_fact-turned : (f g : Fact) → same_fact f g ≡ same_fact g f
same_fact-turned Ran Ran = refl
same_fact-turned Ran Went = refl
same_fact-turned Ran Stayed = refl
same_fact-turned Went Ran = refl
same_fact-turned Went Went = refl
same_fact-turned Went Stayed = refl
same_fact-turned Stayed Ran = refl
same_fact-turned Stayed Went = refl
same_fact-turned Stayed Stayed = refl

-- what a set has, by what it is made of

pub has_fact-none : (f : Fact) → has_fact no_facts f ≡ false
has_fact-none Ran = refl
has_fact-none Went = refl
has_fact-none Stayed = refl

pub has_fact-with_fact : (s : FactSet) (f g : Fact) → has_fact (with_fact s f) g ≡ (has_fact s g || same_fact g f)
has_fact-with_fact s Ran Ran = sym (or-true s.ran)
has_fact-with_fact s Ran Went = sym (or-false s.went)
has_fact-with_fact s Ran Stayed = sym (or-false s.stayed)
has_fact-with_fact s Went Ran = sym (or-false s.ran)
has_fact-with_fact s Went Went = sym (or-true s.went)
has_fact-with_fact s Went Stayed = sym (or-false s.stayed)
has_fact-with_fact s Stayed Ran = sym (or-false s.ran)
has_fact-with_fact s Stayed Went = sym (or-false s.went)
has_fact-with_fact s Stayed Stayed = sym (or-true s.stayed)

pub with_fact-here : (s : FactSet) (f : Fact) → has_fact (with_fact s f) f ≡ true
with_fact-here s f = has_fact-with_fact s f f ∙ or_right (has_fact s f) (same_fact f f) (same_fact-self f)

pub with_fact-more : (s : FactSet) (f g : Fact) → has_fact s g ≡ true → has_fact (with_fact s f) g ≡ true
with_fact-more s f g h = has_fact-with_fact s f g ∙ or_left (has_fact s g) (same_fact g f) h

pub with_fact-cases : (s : FactSet) (f g : Fact) → has_fact (with_fact s f) g ≡ true → (has_fact s g ≡ true) ⊎ (g ≡ f)
with_fact-cases s f g h = elim (or_cases (has_fact s g) (same_fact g f) (sym (has_fact-with_fact s f g) ∙ h)) [
  | inl old ↦ inl old
  | inr new ↦ inr (same_fact-true g f new)
]

pub has_fact-union : (a b : FactSet) (f : Fact) → has_fact (union a b) f ≡ (has_fact a f || has_fact b f)
has_fact-union a b Ran = refl
has_fact-union a b Went = refl
has_fact-union a b Stayed = refl

-- sets with the same facts
pub same_sets : (a b : FactSet) → ((f : Fact) → has_fact a f ≡ has_fact b f) → a ≡ b
same_sets a b h =
    let ran : a.ran ≡ b.ran = h Ran in
    let went : a.went ≡ b.went = h Went in
    let stayed : a.stayed ≡ b.stayed = h Stayed in
    λ i. record { ran = ran i; went = went i; stayed = stayed i }

-- the facts of a kind

pub is_of_kind-fact_of : (k : Kind) (went : Bool) → is_of_kind k (fact_of k went) ≡ true
is_of_kind-fact_of Straight went = refl
is_of_kind-fact_of Conditional true = refl
is_of_kind-fact_of Conditional false = refl

pub has_fact-full_of : (k : Kind) (f : Fact) → is_of_kind k f ≡ true → has_fact (full_of k) f ≡ true
has_fact-full_of Straight Ran h = refl
has_fact-full_of Straight Went h = h
has_fact-full_of Straight Stayed h = h
has_fact-full_of Conditional Ran h = h
has_fact-full_of Conditional Went h = refl
has_fact-full_of Conditional Stayed h = refl

pub within_none : (k : Kind) → is_within k no_facts ≡ true
within_none Straight = refl
within_none Conditional = refl

straight_within : (w s : Bool) → (w ≡ true → false ≡ true) → (s ≡ true → false ≡ true) → (not w && not s) ≡ true
straight_within true s h k = let e : false ≡ true = h refl in absurd cc
straight_within false true h k = let e : false ≡ true = k refl in absurd cc
straight_within false false h k = refl

conditional_within : (r : Bool) → (r ≡ true → false ≡ true) → not r ≡ true
conditional_within true h = let e : false ≡ true = h refl in absurd cc
conditional_within false h = refl

-- each fact is of the kind
pub within_kind : (k : Kind) (s : FactSet) → ((g : Fact) → has_fact s g ≡ true → is_of_kind k g ≡ true) → is_within k s ≡ true
within_kind Straight s h = straight_within s.went s.stayed (h Went) (h Stayed)
within_kind Conditional s h = conditional_within s.ran (h Ran)

full_by : (k : Kind) (r w s : Bool) → is_full k (record { ran = r; went = w; stayed = s }) ≡ true → ◌≡◌ {A = FactSet} (record { ran = r; went = w; stayed = s }) (full_of k)
full_by Straight true true true h = absurd cc
full_by Straight true true false h = absurd cc
full_by Straight true false true h = absurd cc
full_by Straight true false false h = refl
full_by Straight false true true h = absurd cc
full_by Straight false true false h = absurd cc
full_by Straight false false true h = absurd cc
full_by Straight false false false h = absurd cc
full_by Conditional true true true h = absurd cc
full_by Conditional true true false h = absurd cc
full_by Conditional true false true h = absurd cc
full_by Conditional true false false h = absurd cc
full_by Conditional false true true h = refl
full_by Conditional false true false h = absurd cc
full_by Conditional false false true h = absurd cc
full_by Conditional false false false h = absurd cc

pub is_full-true : (k : Kind) (s : FactSet) → is_full k s ≡ true → s ≡ full_of k
is_full-true k s h = full_by k s.ran s.went s.stayed h
