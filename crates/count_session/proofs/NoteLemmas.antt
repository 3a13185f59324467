-- What a step makes of a pass, as a contract sees it.
use Rattle.std.proofs.Common.{◌≡◌, ◌≢◌, ℕ, zero, ◌+◌, Bool, true, false, ◌&&◌, nat_eq, if◌then◌else◌, ◌∷◌, ◌++◌, length, sym, refl, ap, ◌∙◌, arith, eq-eqb, ne_eqb, length-append, add_comm}
use mathlib.Core.Path.{fun_ext}
use native.Mathlib.Decide.{ℕ_discrete}
use Rattle.cov_base.specs.declared.facts.Fact.{Fact}
use Rattle.cov_base.specs.declared.facts.Fact.TheVariants.{Ran, Went, Stayed}
use Rattle.cov_base.specs.declared.facts.Kind.{Kind}
use Rattle.cov_base.specs.declared.facts.Kind.TheVariants.{Straight, Conditional}
use Rattle.cov_base.specs.Meaning.{same_fact}
use Rattle.cov_base.specs.FactKind.{is_of_kind}
use Rattle.module_area.specs.Meaning.{PlanView, kind_at}
use Rattle.count_session.specs.declared.rule.CountView.{CountView}
use Rattle.count_session.specs.Notes.{after_add, after_join, is_same}
use Rattle.count_session.specs.Words.{count_word}
use Rattle.count_session.specs.Rule.{times, adding, joining, notes_in}
use Rattle.count_session.proofs.ViewLemmas.{times-append}

-- facts of one kind share no count
index_same : (n p : ℕ) (k : Kind) (f g : Fact) → is_of_kind k f ≡ true → is_of_kind k g ≡ true → nat_eq (count_word n p g) (count_word n p f) ≡ same_fact g f
index_same n p Straight Ran Ran h i = eq-eqb (count_word n p Ran) (count_word n p Ran) refl
index_same n p Straight Ran Went h i = absurd cc
index_same n p Straight Ran Stayed h i = absurd cc
index_same n p Straight Went g h i = absurd cc
index_same n p Straight Stayed g h i = absurd cc
index_same n p Conditional Ran g h i = absurd cc
index_same n p Conditional Went Ran h i = absurd cc
index_same n p Conditional Went Went h i = eq-eqb (count_word n p Went) (count_word n p Went) refl
index_same n p Conditional Went Stayed h i = ne_eqb (count_word n p Stayed) (count_word n p Went) (λ e. absurd (omega arith))
index_same n p Conditional Stayed Ran h i = absurd cc
index_same n p Conditional Stayed Went h i = ne_eqb (count_word n p Went) (count_word n p Stayed) (λ e. absurd (omega arith))
index_same n p Conditional Stayed Stayed h i = eq-eqb (count_word n p Stayed) (count_word n p Stayed) refl

index_apart : (n p q : ℕ) (f g : Fact) → q ≢ p → count_word n q g ≢ count_word n p f
index_apart n p q Ran Ran h e = absurd (h (omega arith))
index_apart n p q Ran Went h e = absurd (h (omega arith))
index_apart n p q Ran Stayed h e = absurd (h (omega arith))
index_apart n p q Went Ran h e = absurd (h (omega arith))
index_apart n p q Went Went h e = absurd (h (omega arith))
index_apart n p q Went Stayed h e = absurd (h (omega arith))
index_apart n p q Stayed Ran h e = absurd (h (omega arith))
index_apart n p q Stayed Went h e = absurd (h (omega arith))
index_apart n p q Stayed Stayed h e = absurd (h (omega arith))

is_its_own : (k : Kind) (f g : Fact) → is_of_kind k f ≡ true → is_of_kind k g ≡ false → same_fact g f ≡ false
is_its_own Straight Ran Ran h i = absurd (let z : true ≡ false = i in cc)
is_its_own Straight Ran Went h i = refl
is_its_own Straight Ran Stayed h i = refl
is_its_own Straight Went g h i = absurd cc
is_its_own Straight Stayed g h i = absurd cc
is_its_own Conditional Ran g h i = absurd cc
is_its_own Conditional Went Ran h i = refl
is_its_own Conditional Went Went h i = absurd (let z : true ≡ false = i in cc)
is_its_own Conditional Went Stayed h i = absurd (let z : true ≡ false = i in cc)
is_its_own Conditional Stayed Ran h i = refl
is_its_own Conditional Stayed Went h i = absurd (let z : true ≡ false = i in cc)
is_its_own Conditional Stayed Stayed h i = absurd (let z : true ≡ false = i in cc)

abbrev one : ℕ
one = 1

module _ (plan : PlanView) (p : ℕ) (f : Fact) (kind : is_of_kind (kind_at plan p) f ≡ true) (v : CountView) where
  abbrev n : ℕ
  n = length plan.places

  counted_here : (q : ℕ) (g : Fact) (b : Bool) → is_of_kind (kind_at plan q) g ≡ b → Dec (q ≡ p)
      → (if b then (if nat_eq (count_word n q g) (count_word n p f) then 1 else 0) + times (count_word n q g) v.added else 0) ≡ (if b then times (count_word n q g) v.added else 0) + (if is_same p f q g then 1 else 0)
  counted_here q g true e (yes same) = let its : is_of_kind (kind_at plan p) g ≡ true = ap (λ z. is_of_kind (kind_at plan z) g) (sym same) ∙ e in
      let word : nat_eq (count_word n q g) (count_word n p f) ≡ same_fact g f = ap (λ z. nat_eq (count_word n z g) (count_word n p f)) same ∙ index_same n p (kind_at plan p) f g kind its in
      ap (λ b. (if b then 1 else 0) + times (count_word n q g) v.added) word ∙ (add_comm (if same_fact g f then 1 else 0) (times (count_word n q g) v.added) ∙ ap (λ b. times (count_word n q g) v.added + (if b && same_fact g f then 1 else 0)) (sym (eq-eqb q p same)))
  counted_here q g true e (no other) = ap (λ b. (if b then 1 else 0) + times (count_word n q g) v.added) (ne_eqb (count_word n q g) (count_word n p f) (index_apart n p q f g other))
      ∙ (add_comm (if false then 1 else 0) (times (count_word n q g) v.added) ∙ ap (λ b. times (count_word n q g) v.added + (if b && same_fact g f then 1 else 0)) (sym (ne_eqb q p other)))
  counted_here q g false e (yes same) = let its : is_of_kind (kind_at plan p) g ≡ false = ap (λ z. is_of_kind (kind_at plan z) g) (sym same) ∙ e in
      let apart = is_its_own (kind_at plan p) f g kind its in let none : ◌≡◌ {A = ℕ} (if is_same p f q g then 1 else 0) 0 = ap (λ b. if nat_eq q p && b then one else zero) apart ∙ never (nat_eq q p) in omega arith
    where
      never : (b : Bool) → ◌≡◌ {A = ℕ} (if b && false then 1 else 0) 0
      never true = refl
      never false = refl
  counted_here q g false e (no other) = let none : ◌≡◌ {A = ℕ} (if is_same p f q g then 1 else 0) 0 = ap (λ b. if b && same_fact g f then one else zero) (ne_eqb q p other) in omega arith

  pub add_notes : notes_in plan (adding (count_word n p f) v) ≡ after_add (notes_in plan v) p f
  add_notes = let added = fun_ext (λ (q : ℕ). fun_ext (λ (g : Fact). counted_here q g (is_of_kind (kind_at plan q) g) refl (ℕ_discrete q p))) in
      let long : length (count_word n p f ∷ v.added) ≡ length v.added + 1 = omega arith in
      λ i. record (notes_in plan v) { added = added i; adds = long i }

pub join_notes : (plan : PlanView) (v o : CountView) → notes_in plan (joining v o) ≡ after_join (notes_in plan v) (notes_in plan o)
join_notes plan v o = let added = fun_ext (λ (q : ℕ). fun_ext (λ (g : Fact). both (is_of_kind (kind_at plan q) g) (count_word (length plan.places) q g))) in
    let long : length (o.added ++ v.added) ≡ length v.added + length o.added = let a = length-append o.added v.added in omega arith in
    λ i. record (notes_in plan v) { added = added i; adds = long i; passes = v.passes + o.passes }
  where
    both : (b : Bool) (k : ℕ) → (if b then times k (o.added ++ v.added) else 0) ≡ (if b then times k v.added else 0) + (if b then times k o.added else 0)
    both true k = let a = times-append k o.added v.added in omega arith
    both false k = refl
