-- The bytes that came are those that were left, and have one job or none.
use Rattle.std.proofs.Common.{◌≡◌, ℕ, ◌<◌, ◌≤◌, Bool, true, false, nat_eq, if◌then◌else◌, Option, Some, None, List, [], ◌∷◌, ◌++◌, length, refl, sym, ◌∙◌, ap, subst, arith}
use Rattle.std.proofs.lemmas.Bool.{eqb-true}
use Rattle.std.proofs.lemmas.List.{append-nil}
use Rattle.cov_outside.specs.Meaning.{Rose, IsWhole, HasMoreThan}
use Rattle.cov_outside.specs.declared.whole.ReadFault.{ReadFault}
use Rattle.cov_outside.specs.declared.whole.ReadFault.TheVariants as read
use Rattle.session_book.specs.Meaning.{JobView}
use Rattle.job_text.specs.Meaning.{LineView, lines_of, put_on, Present}
use Rattle.job_text.proofs.Laws.{one_first}
use Rattle.job_input.specs.Meaning.{SourceChange, HasJob, CameWhole, IsReadFault, input_limit}
use Rattle.job_input.specs.Inputs.{CameJob, CameWith}
use Rattle.job_input.specs.declared.form.Form.{Form}

all_of : (b bytes : List ℕ) (rest : Option (List ℕ)) → IsWhole (Some b) rest bytes → b ≡ bytes
all_of b bytes None w = absurd w.taken
all_of b bytes (Some ys) w = w.taken ∙ (ap (λ (t : List ℕ). bytes ++ t) w.end ∙ append-nil bytes)

pub came_is : (s : SourceChange) (b bytes : List ℕ) → s.left ≡ Some b → CameWhole s bytes → b ≡ bytes
came_is s b bytes e c = all_of b bytes s.rest (subst (λ (o : Option (List ℕ)). IsWhole o s.rest bytes) e c.whole)

-- what is so of those that came is so of those that were left
pub left_is : (is : List ℕ → Type 0) (s : SourceChange) (b bytes : List ℕ) → s.left ≡ Some b → CameWhole s bytes → is bytes → is b
left_is is s b bytes e came h = subst is (sym (came_is s b bytes e came)) h

-- two jobs of the same bytes are one, of as many lines
pub one_job : (form : Form) (ls : List LineView) (j k : JobView) (has : HasJob form ls j) (other : HasJob form ls k) → (has.count ≡ other.count) × (j ≡ k)
one_job form ls j k has other = one_first Present ls has.count other.count j k has.inside other.inside has.spells other.spells

pub came_job : (form : Form) (s : SourceChange) (j : JobView) (count : ℕ) (rest : List ℕ) → CameWith form s j count rest → CameJob form s j
came_job form s j count rest c = record { bytes = c.bytes; came = c.came; has = c.has }

pub same_job : (form : Form) (s : SourceChange) (b : List ℕ) (j k : JobView) → s.left ≡ Some b → HasJob form (lines_of b) j → CameJob form s k → j ≡ k
same_job form s b j k e has c = (one_job form (lines_of b) j k has (left_is (λ t. HasJob form (lines_of t) k) s b c.bytes e c.came c.has)).1

pub too_many : (s : SourceChange) (b bytes : List ℕ) → s.left ≡ Some b → input_limit < length b → CameWhole s bytes → ⊥
too_many s b bytes e l c = let same = ap length (came_is s b bytes e c) in absurd (omega (arith, same, c.within))

-- a source that isn't read to its end, though it has few bytes and counted no fault, found no memory
pub read_wanting : (s : SourceChange) (b : List ℕ) (e : ReadFault) → s.left ≡ Some b → length b ≤ input_limit → (Rose s.faults s.later → ⊥) → IsReadFault s e → e ≡ read.NoMemory
read_wanting s b read.Failed e l quiet h = absurd (quiet h)
read_wanting s b read.TooLarge e l quiet h =
    let more : HasMoreThan (Some b) input_limit = subst (λ (o : Option (List ℕ)). HasMoreThan o input_limit) e h.0 in
    absurd (omega arith)
read_wanting s b read.NoMemory e l quiet h = refl

-- ---- lines and their bytes

abbrev bytes_of : List LineView → List ℕ
bytes_of [] = []
bytes_of (l ∷ ls) = l.bytes ++ ((if l.ended then 10 ∷ [] else []) ++ bytes_of ls)

put_joined : (b : ℕ) (ls : List LineView) → nat_eq b 10 ≡ false → bytes_of (put_on b ls) ≡ b ∷ bytes_of ls
put_joined b [] e = refl
put_joined b (l ∷ ls) e = refl

joined_by : (b : ℕ) (bs : List ℕ) (q : Bool) → nat_eq b 10 ≡ q → bytes_of (lines_of bs) ≡ bs → bytes_of (lines_of (b ∷ bs)) ≡ b ∷ bs
joined_by b bs true e h = rw (e, eqb-true b 10 e, h) refl
joined_by b bs false e h = rw (e, put_joined b (lines_of bs) e, h) refl

joined : (bs : List ℕ) → bytes_of (lines_of bs) ≡ bs
joined [] = refl
joined (b ∷ bs) = joined_by b bs (nat_eq b 10) refl (joined bs)

-- bytes of the same lines are the same
pub one_bytes : (a b : List ℕ) → lines_of a ≡ lines_of b → a ≡ b
one_bytes a b e = sym (joined a) ∙ (ap bytes_of e ∙ joined b)
