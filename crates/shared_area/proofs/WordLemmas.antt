-- Cells and sets of facts in words.
use Rattle.std.proofs.Common.{◌≡◌, ◌≢◌, ℕ, zero, suc, ◌+◌, ◌-◌, ◌*◌, ◌/◌, ◌%◌, ◌^◌, ◌<◌, ◌≤◌, Bool, true, false, ◌||◌, nat_eq, if◌then◌else◌, List, [], ◌∷◌, length, get_or, slice_index, slice_set, subst, sym, refl, ap, ◌∙◌, arith, bit_or, eq-eqb, eqb-true, mul-le-mul_right, suc-mul}
use Rattle.std.specs.Int.{bit_at}
use mathlib.Core.Logic.{dite}
use native.Mathlib.Decide.{ℕ_discrete}
use Rattle.std.proofs.lemmas.List.{get_or-set_same, get_or-set_other}
use Rattle.std.proofs.lemmas.Nat.{div-mul-add, mod-mul-add}
use Rattle.std.proofs.lemmas.Nat.Bits.{bit_at_or, bit_at-lt, bit_at-pow_same, bit_at-pow_other}
use Rattle.cov_base.specs.declared.facts.Fact.{Fact}
use Rattle.cov_base.specs.declared.facts.Fact.TheVariants.{Ran, Went, Stayed}
use Rattle.cov_base.specs.declared.facts.Kind.{Kind}
use Rattle.cov_base.specs.declared.facts.Kind.TheVariants.{Straight, Conditional}
use Rattle.cov_base.specs.Meaning.{FactSet, has_fact, with_fact}
use Rattle.cov_base.specs.declared.numbers.TaskNo.{TaskNo}
use Rattle.cov_base.specs.FactKind.{is_of_kind}
use Rattle.module_area.specs.declared.cells.Cell.{Cell}
use Rattle.module_area.specs.Rule.{lifted, closed, has_task, window_tag}
use Rattle.module_area.specs.Meaning.{PlanView, tag_session}
use Rattle.module_area.specs.Words.{cell_of}
use Rattle.shared_area.specs.Words.{word_of, closed_word_of, bit_of, has_bit, facts_of, session_words, set_word, base_of, word_count, position, task_word}
use Rattle.shared_area.proofs.Picked.{tag_in, session_in, no_task, task_at}

pub same_cell : (c d : Cell) → c.tag ≡ d.tag → c.half ≡ d.half → c ≡ d
same_cell c d e f = λ i. record { tag = e i; half = f i }

pub cell_of-word_of : (s half : ℕ) → half < 65536 → cell_of (word_of s half) ≡ lifted s half
cell_of-word_of s half h = same_cell (cell_of (word_of s half)) (lifted s half) (omega arith) (omega arith)

pub cell_of-closed_word_of : (s half : ℕ) → half < 65536 → cell_of (closed_word_of s half) ≡ closed s half
cell_of-closed_word_of s half h = same_cell (cell_of (closed_word_of s half)) (closed s half) (omega arith) (omega arith)

pub tag_in-word_of : (s half : ℕ) → half < 65536 → tag_in (word_of s half) ≡ window_tag s
tag_in-word_of s half h = omega arith

pub tag_in-closed_word_of : (s half : ℕ) → half < 65536 → tag_in (closed_word_of s half) ≡ 2 * s
tag_in-closed_word_of s half h = omega arith

pub session_in-word_of : (s half : ℕ) → 0 < s → half < 65536 → session_in (word_of s half) ≡ s
session_in-word_of s half pos h = let e : word_of s half / 65536 ≡ 2 * s - 1 = omega arith in ap tag_session e ∙ (let x : (2 * s - 1 + 1) / 2 ≡ s = omega arith in x)

pub cell_word : (w x : ℕ) → cell_of w ≡ cell_of x → w ≡ x
cell_word w x e = let a : w / 65536 ≡ x / 65536 = ap (λ (c : Cell). c.tag) e in let b : w % 65536 ≡ x % 65536 = ap (λ (c : Cell). c.half) e in omega arith

-- ---- one bit of a word
bit_set : (w k i : ℕ) → bit_at k i ≡ 1 → has_bit (bit_or w k) i ≡ true
bit_set w k i e = let m = bit_at_or w k i in let l = bit_at-lt w i in eq-eqb (bit_at (bit_or w k) i) 1 (omega arith)

bit_kept : (w k i : ℕ) → bit_at k i ≡ 0 → has_bit (bit_or w k) i ≡ has_bit w i
bit_kept w k i e = let m = bit_at_or w k i in let same : bit_at (bit_or w k) i ≡ bit_at w i = omega arith in ap (λ z. nat_eq z 1) same

has_added : (w b : ℕ) → has_bit (bit_or w (2 ^ b)) b ≡ true
has_added w b = bit_set w (2 ^ b) b (bit_at-pow_same b)

has_other : (w b i : ℕ) → i ≢ b → has_bit (bit_or w (2 ^ b)) i ≡ has_bit w i
has_other w b i n = bit_kept w (2 ^ b) i (bit_at-pow_other b i n)

-- ---- the bit of a fact adds the fact
pub facts_of-added : (k : Kind) (p w : ℕ) (f : Fact) → is_of_kind k f ≡ true → facts_of k p (bit_or w (2 ^ bit_of p f)) ≡ with_fact (facts_of k p w) f
facts_of-added Straight p w Ran h = λ i. record { ran = has_added w (bit_of p Ran) i; went = false; stayed = has_other w (bit_of p Ran) (bit_of p Stayed) (λ e. absurd (omega arith)) i }
facts_of-added Straight p w Went h = absurd cc
facts_of-added Straight p w Stayed h = absurd cc
facts_of-added Conditional p w Ran h = absurd cc
facts_of-added Conditional p w Went h = λ i. record { ran = false; went = has_added w (bit_of p Went) i; stayed = has_other w (bit_of p Went) (bit_of p Stayed) (λ e. absurd (omega arith)) i }
facts_of-added Conditional p w Stayed h = λ i. record { ran = false; went = has_other w (bit_of p Stayed) (bit_of p Went) (λ e. absurd (omega arith)) i; stayed = has_added w (bit_of p Stayed) i }

bits_apart : (p q : ℕ) (f g : Fact) → q % 32 ≢ p % 32 → bit_of q g ≢ bit_of p f
bits_apart p q Ran Ran n e = n (omega arith)
bits_apart p q Ran Went n e = n (omega arith)
bits_apart p q Ran Stayed n e = absurd (omega arith)
bits_apart p q Went Ran n e = n (omega arith)
bits_apart p q Went Went n e = n (omega arith)
bits_apart p q Went Stayed n e = absurd (omega arith)
bits_apart p q Stayed Ran n e = absurd (omega arith)
bits_apart p q Stayed Went n e = absurd (omega arith)
bits_apart p q Stayed Stayed n e = n (omega arith)

-- and changes the set at no other of the 32 places
pub facts_of-other : (k : Kind) (p q w : ℕ) (f : Fact) → q % 32 ≢ p % 32 → facts_of k q (bit_or w (2 ^ bit_of p f)) ≡ facts_of k q w
facts_of-other Straight p q w f n = λ i. record { ran = has_other w (bit_of p f) (bit_of q Ran) (bits_apart p q f Ran n) i; went = false; stayed = has_other w (bit_of p f) (bit_of q Stayed) (bits_apart p q f Stayed n) i }
facts_of-other Conditional p q w f n = λ i. record { ran = false; went = has_other w (bit_of p f) (bit_of q Went) (bits_apart p q f Went n) i; stayed = has_other w (bit_of p f) (bit_of q Stayed) (bits_apart p q f Stayed n) i }

-- a fact that is there adds nothing
pub with_fact-there : (s : FactSet) (f : Fact) → has_fact s f ≡ true → with_fact s f ≡ s
with_fact-there s Ran h = λ i. record s { ran = sym h i }
with_fact-there s Went h = λ i. record s { went = sym h i }
with_fact-there s Stayed h = λ i. record s { stayed = sym h i }

-- ---- where the words lie
pub in_session : (n p : ℕ) → p < n → p / 32 < session_words n
in_session n p l = omega arith

pub same_word : (n s t p q : ℕ) → 0 < s → 0 < t → p < n → q < n → set_word n s p ≡ set_word n t q → (s ≡ t) × (p / 32 ≡ q / 32)
same_word n s t p q ps pt lp lq e = let w : ℕ = session_words n in let x : (s - 1) * w + p / 32 ≡ (t - 1) * w + q / 32 = omega arith in
    let a : s - 1 ≡ t - 1 = sym (div-mul-add (s - 1) w (p / 32) (in_session n p lp)) ∙ (ap (λ k. k / w) x ∙ div-mul-add (t - 1) w (q / 32) (in_session n q lq)) in
    (omega arith, sym (mod-mul-add (s - 1) w (p / 32) (in_session n p lp)) ∙ (ap (λ k. k % w) x ∙ mod-mul-add (t - 1) w (q / 32) (in_session n q lq)))

by_total : (total : ℕ) (b : Bool) → nat_eq total 0 ≡ b → (total ≤ (if b then 1 else total)) × (0 < (if b then 1 else total))
by_total total true e = (let z = eqb-true total 0 e in omega arith, omega arith)
by_total zero false e = absurd cc
by_total (suc total) false e = (omega arith, omega arith)

pub words_enough : (plan : PlanView) → base_of plan + length plan.tasks ≤ word_count plan
words_enough plan = (by_total (base_of plan + length plan.tasks) (nat_eq (base_of plan + length plan.tasks) 0) refl).0

pub words_some : (plan : PlanView) → 0 < word_count plan
words_some plan = (by_total (base_of plan + length plan.tasks) (nat_eq (base_of plan + length plan.tasks) 0) refl).1

-- cells and sets come before the tasks
pub cell_front : (plan : PlanView) (p : ℕ) → p < length plan.places → p < base_of plan
cell_front plan p l = omega arith

pub set_front : (plan : PlanView) (s p : ℕ) → 0 < s → s ≤ plan.sessions → p < length plan.places → set_word (length plan.places) s p < base_of plan
set_front plan s p pos ls l = let n : ℕ = length plan.places in let w : ℕ = session_words n in let m : suc (s - 1) * w ≤ plan.sessions * w = mul-le-mul_right w (omega arith) in let e : suc (s - 1) * w ≡ (s - 1) * w + w = suc-mul (s - 1) w in
    let a = in_session n p l in omega (arith, m, e, a)

-- what holds of the elements before one holds of that too, where it is given
pub each_set : (P : ℕ → ℕ → Type 0) (l : List ℕ) (i x : ℕ) → i < length l → P i x → ((j : ℕ) → j < i → P j (slice_index l j)) → (j : ℕ) → j < i + 1 → P j (slice_index (slice_set l i x) j)
each_set P l i x inside here before j lt = dite (ℕ_discrete j i)
    (λ e. subst (λ (z : ℕ × ℕ). P z.0 z.1) (λ k. (sym e k, sym (ap (λ q. slice_index (slice_set l i x) q) e ∙ get_or-set_same l i x 0 inside) k)) here)
    (λ n. subst (P j) (sym (get_or-set_other l i j x 0 n)) (before j (omega (arith, n))))

-- ---- the index of a task
at_step : (u : TaskNo) (us : List TaskNo) (t : ℕ) (b : Bool) → nat_eq u.0 t ≡ b → (has_task us t ≡ true → (position us t < length us) × ((get_or us (position us t) no_task).0 ≡ t))
    → (b || has_task us t) ≡ true → ((if b then 0 else 1 + position us t) < length (u ∷ us)) × ((get_or (u ∷ us) (if b then 0 else 1 + position us t) no_task).0 ≡ t)
at_step u us t true e rest h = (omega arith, eqb-true u.0 t e)
at_step u us t false e rest h = let r = rest h in let a = r.0 in let up : 1 + position us t ≡ suc (position us t) = omega arith in (omega (arith, a), ap (λ k. (get_or (u ∷ us) k no_task).0) up ∙ r.1)

pub position_at : (tasks : List TaskNo) (t : ℕ) → has_task tasks t ≡ true → (position tasks t < length tasks) × ((get_or tasks (position tasks t) no_task).0 ≡ t)
position_at [] t h = absurd cc
position_at (u ∷ us) t h = at_step u us t (nat_eq u.0 t) refl (position_at us t) h

pub task_there : (plan : PlanView) (t : ℕ) → has_task plan.tasks t ≡ true → task_word plan t < base_of plan + length plan.tasks
task_there plan t task = let a = (position_at plan.tasks t task).0 in omega (arith, a)

-- the word is that task's alone
pub task_at-task_word : (plan : PlanView) (t : ℕ) → has_task plan.tasks t ≡ true → task_at plan (task_word plan t) ≡ t
task_at-task_word plan t task = let e : task_word plan t - base_of plan ≡ position plan.tasks t = omega arith in ap (λ k. (get_or plan.tasks k no_task).0) e ∙ (position_at plan.tasks t task).1
