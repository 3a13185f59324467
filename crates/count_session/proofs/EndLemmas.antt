-- The rule in the end, when all passes are joined to the root.
use Rattle.std.proofs.Common.{◌≡◌, ℕ, [], ◌∷◌, ◌++◌, Bool, if◌then◌else◌, length-append, ◌<◌, ◌≤◌, true, List, length, get_or, sym, ap, ◌∙◌, subst, arith}
use mathlib.Core.Option.{some, some-injective}
use lib.ListN.{get_elem?}
use Rattle.atomic_table.specs.Table.{State, Final, Seen}
use Rattle.module_area.specs.Rule.{total}
use Rattle.module_area.specs.Meaning.{PlanView, kind_at}
use Rattle.module_area.proofs.Laws.{total_only, read_at}
use Rattle.cov_base.specs.declared.facts.Fact.{Fact}
use Rattle.cov_base.specs.declared.facts.Fact.TheVariants.{Ran, Went, Stayed}
use Rattle.cov_base.specs.FactKind.{is_of_kind}
use Rattle.count_session.specs.declared.counts.PlaceCount.{PlaceCount}
use Rattle.count_session.specs.Tallied.{no_count, counted, IsRead, AreRead, HasCounts}
use Rattle.count_session.specs.Words.{count_word}
use Rattle.count_session.specs.Rule.{notes_in, times, IsCounting}
use Rattle.count_session.proofs.WordLemmas.{count_there, count_behind}
use Rattle.std.proofs.Math.Seq.{get_or-append_seam}
use Rattle.std.proofs.lemmas.List.{get_or_append_left}
use mathlib.Core.Logic.{dite}
use native.Mathlib.Decide.{ℕ_discrete}
use Rattle.count_session.specs.declared.rule.NoSlot.{NoSlot}
use Rattle.count_session.specs.declared.rule.CountView.{CountView}
use Rattle.count_session.proofs.ViewLemmas.{rest_zero, times_most}

-- each count is what the root has
root_sum : (plan : PlanView) (s : State NoSlot CountView) → IsCounting plan s → (id : ℕ) (v : CountView) → get_elem? s.views id ≡ some v → v.root ≡ true → v.passes ≡ v.given → (i : ℕ) → length plan.places ≤ i → i < length s.words → get_or s.words i 0 ≡ times i v.added
root_sum plan s r id v at is_root joined i low high =
    let zero_id = (r.views id v at).first is_root in
    let given : v.given ≡ r.root.given = ap (λ (u : CountView). u.given) (some-injective v r.root (sym at ∙ (ap (get_elem? s.views) zero_id ∙ r.is_root.first))) in
    let sum : total (λ (u : CountView). u.passes) s.views ≡ v.passes = let p = r.is_root.passes in omega arith in
    r.counts i low high ∙ total_only (λ (u : CountView). times i u.added) s.views id v at (λ j u n here.
    let none = rest_zero (λ (z : CountView). z.passes) s.views id v at sum j u n here in let few = (r.views j u here).few in let most = times_most i u.added in omega arith)

pub ended : (plan : PlanView) (id : ℕ) (v : CountView) (words : List ℕ) (slots : List NoSlot) → v.root ≡ true → v.passes ≡ v.given → Final (Seen (IsCounting plan) id v) words slots
    → (i : ℕ) → length plan.places ≤ i → i < length words → get_or words i 0 ≡ times i v.added
ended plan id v words slots is_root joined h = let s : State NoSlot CountView = h.0 in
    subst (λ (ws : List ℕ). (i : ℕ) → length plan.places ≤ i → i < length ws → get_or ws i 0 ≡ times i v.added) h.2 (root_sum plan s h.1.0 id v h.1.1 is_root joined)

-- ---- the counts as they are read in the end
pub read_more : (plan : PlanView) (words : List ℕ) (counts : List PlaceCount) (p : ℕ) (c : PlaceCount) → AreRead plan words counts → length counts ≡ p → c.kind ≡ kind_at plan p
    → get_elem? words (count_word (length plan.places) p Ran) ≡ some c.first → get_elem? words (count_word (length plan.places) p Stayed) ≡ some c.stayed → AreRead plan words (counts ++ c ∷ [])
read_more plan words counts p c old size kind first stayed q l = let long = length-append counts (c ∷ []) in dite (ℕ_discrete q (length counts))
    (λ here. let found : c ≡ get_or (counts ++ c ∷ []) q no_count = sym (ap (λ k. get_or (counts ++ c ∷ []) k no_count) here ∙ get_or-append_seam counts c [] no_count) in
    subst (λ (x : ℕ × PlaceCount). IsRead plan words x.0 x.1) (λ i. (sym (here ∙ size) i, found i))
    record { kind = kind; first = sym (read_at words _ c.first first); stayed = sym (read_at words _ c.stayed stayed) })
    (λ other. subst (IsRead plan words q) (sym (get_or_append_left counts (c ∷ []) no_count q (omega arith))) (old q (omega arith)))

count_read : (n : ℕ) (words : List ℕ) (p : ℕ) (c : PlaceCount) → c.first ≡ get_or words (count_word n p Ran) 0 → c.stayed ≡ get_or words (count_word n p Stayed) 0 → (f : Fact) → counted c f ≡ get_or words (count_word n p f) 0
count_read n words p c first stayed Ran = first
count_read n words p c first stayed Went = first
count_read n words p c first stayed Stayed = stayed

same_if : (b c : Bool) (x y : ℕ) → b ≡ c → x ≡ y → (if b then x else 0) ≡ (if c then y else 0)
same_if b c x y e h = λ i. if e i then h i else 0

pub has_counts : (plan : PlanView) (id : ℕ) (v : CountView) (words : List ℕ) (slots : List NoSlot) (counts : List PlaceCount) → v.root ≡ true → v.passes ≡ v.given → Final (Seen (IsCounting plan) id v) words slots
    → length counts ≡ length plan.places → AreRead plan words counts → HasCounts plan (notes_in plan v) counts
has_counts plan id v words slots counts is_root joined final size read = record {
  size = size;
  added = λ p f l. let n = length plan.places in let c : PlaceCount = get_or counts p no_count in let is = read p (omega arith) in
      same_if (is_of_kind c.kind f) (is_of_kind (kind_at plan p) f) (counted c f) (times (count_word n p f) v.added) (ap (λ k. is_of_kind k f) is.kind)
      (count_read n words p c is.first is.stayed f ∙ ended plan id v words slots is_root joined final (count_word n p f) (count_behind n p f) (subst (λ (ws : List ℕ). count_word n p f < length ws) final.2 (subst (λ k. count_word n p f < k) (sym final.1.0.wide) (count_there n p f l))));
}
