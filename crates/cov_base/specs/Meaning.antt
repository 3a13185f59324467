-- What the claim of the program says by this crate's clauses.
use Rattle.std.specs.Prelude.{ℕ, ◌/◌, ◌%◌, Bool, true, ◌&&◌, not, nat_lt, nat_le, ◌==◌, if◌then◌else◌, ◌+◌, nat_eq, false, ◌||◌, ◌*◌, zero, suc, Option, Some, None, List, slice_index, ◌-◌, [], ◌∷◌, ◌++◌, length, replicate}
use Rattle.cov_base.specs.declared.constants.TheConstants.{BREAKPOINT}
use Rattle.cov_base.specs.declared.facts.Kind.{Kind}
use Rattle.cov_base.specs.declared.facts.Kind.TheVariants.{Straight, Conditional}
use Rattle.cov_base.specs.declared.facts.Fact.{Fact}
use Rattle.cov_base.specs.declared.facts.Fact.TheVariants.{Ran, Went, Stayed}
use Rattle.cov_base.specs.declared.marks.Mark.{Mark}
use Rattle.cov_base.specs.declared.marks.Mark.TheVariants.{Not, Done, Branched, Fell, Both}
use Rattle.std.specs.Option.{option_or}
use Rattle.std.specs.List.{list_all}
use Rattle.std.specs.Str.{bytes_eq}

-- What an instruction's first halfword tells.

-- in bytes, by the two leftmost bits: 00 is 2, 01 and 10 are 4, 11 is 6
unfoldable pub length_of : ℕ → ℕ
length_of h = if nat_lt h 16384 then 2 else (if nat_lt h 49152 then 4 else 6)

-- a mask of BC or BCR that selects some condition codes and not all
abbrev pub is_partial : ℕ → Bool
is_partial mask = nat_le 1 mask && nat_le mask 14

-- by operation code and its second byte: mask or R1, then R2 or index
abbrev pub is_conditional : ℕ → ℕ → Bool
is_conditional code second =
    if code == 71 then is_partial (second / 16) else (
    if code == 7 then is_partial (second / 16) && not (second % 16 == 0) else (
    if code == 70 then true else (
    if code == 6 then not (second % 16 == 0) else (
    if code == 134 then true else code == 135))))

-- Conditional is BC with a mask from 1 to 14, BCR with one and R2 not 0, BCT, BCTR with R2 not 0, BXH, BXLE
unfoldable pub kind_of : ℕ → Kind
kind_of h = if is_conditional (h / 256) (h % 256) then Conditional else Straight

-- SVC 255
abbrev pub breakpoint : ℕ
breakpoint = BREAKPOINT

-- A set of facts, fact by fact.

pub record FactSet : Type 0 where
  pub ran : Bool
  pub went : Bool
  pub stayed : Bool

-- bit 0 is Ran, bit 1 Went, bit 2 Stayed
abbrev pub facts_of_number : ℕ → FactSet
facts_of_number n = record { ran = nat_eq (n % 2) 1; went = nat_eq (n / 2 % 2) 1; stayed = nat_eq (n / 4) 1 }

abbrev pub number_of_facts : FactSet → ℕ
number_of_facts s = (if s.ran then 1 else 0) + (if s.went then 2 else 0) + (if s.stayed then 4 else 0)

-- Sets of facts as sets, and the facts of each kind.

abbrev pub no_facts : FactSet
no_facts = record { ran = false; went = false; stayed = false }

-- whether the set has the fact
abbrev pub has_fact : FactSet → Fact → Bool
has_fact s Ran = s.ran
has_fact s Went = s.went
has_fact s Stayed = s.stayed

-- the set and this fact
abbrev pub with_fact : FactSet → Fact → FactSet
with_fact s Ran = record s { ran = true }
with_fact s Went = record s { went = true }
with_fact s Stayed = record s { stayed = true }

abbrev pub union : FactSet → FactSet → FactSet
union a b = record { ran = a.ran || b.ran; went = a.went || b.went; stayed = a.stayed || b.stayed }

-- all facts of a kind
abbrev pub full_of : Kind → FactSet
full_of Straight = record { ran = true; went = false; stayed = false }
full_of Conditional = record { ran = false; went = true; stayed = true }

-- whether these are all facts of a kind, and no other
abbrev pub is_full : Kind → FactSet → Bool
is_full Straight s = s.ran && (not s.went && not s.stayed)
is_full Conditional s = not s.ran && (s.went && s.stayed)

-- whether all of these are facts of a kind
abbrev pub is_within : Kind → FactSet → Bool
is_within Straight s = not s.went && not s.stayed
is_within Conditional s = not s.ran

abbrev pub same_fact : Fact → Fact → Bool
same_fact Ran Ran = true
same_fact Went Went = true
same_fact Stayed Stayed = true
same_fact a b = false

-- what an execution shows that branched, or did not
abbrev pub fact_of : Kind → Bool → Fact
fact_of Straight went = Ran
fact_of Conditional went = if went then Went else Stayed

-- The mark of an instruction line.

-- of a conditional branch, by whether it went and whether it stayed
abbrev pub branch_mark : Bool → Bool → Mark
branch_mark true true = Both
branch_mark true false = Branched
branch_mark false true = Fell
branch_mark false false = Not

abbrev pub mark_of : Kind → FactSet → Mark
mark_of Straight s = if s.ran then Done else Not
mark_of Conditional s = branch_mark s.went s.stayed

-- What a task's addresses hold, and which may be reached, stored and read.

-- a module's bytes from its base on
pub record ImageView : Type 0 where
  pub name : List ℕ
  pub base : ℕ
  pub bytes : List ℕ

-- constants of a task's run
pub record Memory : Type 0 where
  -- the size of private storage
  pub private : ℕ
  -- a module stands there
  pub is_image : ℕ → Bool
  -- its byte
  pub image : ℕ → ℕ
  -- the address is in the first two bytes of a place
  pub is_touch : ℕ → Bool

-- a number as an address, modulo 2^24
abbrev pub wrap : ℕ → ℕ
wrap a = a % 16777216

unfoldable pub is_private : Memory → ℕ → Bool
is_private m a = nat_lt a m.private

unfoldable pub is_accessible : Memory → ℕ → Bool
is_accessible m a = nat_lt a m.private || m.is_image a

-- the byte at an accessible address
unfoldable pub byte_at : Memory → List ℕ → ℕ → ℕ
byte_at m bytes a = if nat_lt a m.private then slice_index bytes a else m.image a

-- each of the n bytes from a on is accessible
unfoldable pub can_reach : Memory → ℕ → ℕ → Bool
can_reach m a zero = true
can_reach m a (suc n) = can_reach m a n && is_accessible m (wrap (a + n))

-- each of them is private
unfoldable pub can_store : Memory → ℕ → ℕ → Bool
can_store m a zero = true
can_store m a (suc n) = can_store m a n && is_private m (wrap (a + n))

-- the first touch byte of the n bytes from a on
unfoldable pub first_touch : Memory → ℕ → ℕ → Option ℕ
first_touch m a zero = None
first_touch m a (suc n) = option_or (first_touch m a n) (if m.is_touch (wrap (a + n)) then Some (wrap (a + n)) else None)

-- the halfword from a on
abbrev pub half_at : Memory → List ℕ → ℕ → ℕ
half_at m bytes a = byte_at m bytes a * 256 + byte_at m bytes (wrap (a + 1))

-- Names: 1 to 8 characters, the first a letter or national character, the others these or digits.

-- the byte X'20', and no other
abbrev pub blank : ℕ
blank = 32

-- A to Z, @, # or $, in ASCII
abbrev pub is_letter : ℕ → Bool
is_letter b = (nat_le 65 b && nat_le b 90) || (nat_eq b 64 || (nat_eq b 35 || nat_eq b 36))

abbrev pub is_digit_byte : ℕ → Bool
is_digit_byte b = nat_le 48 b && nat_le b 57

abbrev pub is_name_byte : ℕ → Bool
is_name_byte b = is_letter b || is_digit_byte b

abbrev pub is_name : List ℕ → Bool
is_name w = nat_le 1 (length w) && nat_le (length w) 8 && is_letter (slice_index w 0) && list_all is_name_byte w

-- filled with blanks to eight bytes
abbrev pub padded : List ℕ → List ℕ
padded w = w ++ replicate (8 - length w) 32

-- the bytes before the first blank
abbrev pub unpadded : List ℕ → List ℕ
unpadded [] = []
unpadded (b ∷ bs) = if nat_eq b 32 then [] else b ∷ unpadded bs

-- the name that the word spells, filled with blanks
abbrev pub name_at : List ℕ → Option (List ℕ)
name_at w = if is_name w then Some (padded w) else None

-- a name filled with blanks
abbrev pub is_filled : List ℕ → Bool
is_filled field = is_name (unpadded field) && bytes_eq (padded (unpadded field)) field

-- A text's words.

-- the byte in front of the first word
abbrev pub put_first : ℕ → List (List ℕ) → List (List ℕ)
put_first b [] = (b ∷ []) ∷ []
put_first b (w ∷ ws) = (b ∷ w) ∷ ws

-- the parts of a text between its blanks
abbrev pub words : List ℕ → List (List ℕ)
words [] = [] ∷ []
words (b ∷ bs) = if nat_eq b 32 then [] ∷ words bs else put_first b (words bs)

-- The state of a task, and what its run visits.

-- registers 0 to 15, instruction address, condition code (0 to 3) and program mask (0 to 15)
pub record CpuView : Type 0 where
  pub regs : List ℕ
  pub ia : ℕ
  pub condition : ℕ
  pub mask : ℕ

-- what an instruction other than a task call can change: the processor's part, and the private bytes
pub record Machine : Type 0 where
  pub cpu : CpuView
  pub bytes : List ℕ

-- input, how many of its bytes were taken, output, and the bytes that output has room for
pub record IoView : Type 0 where
  pub input : List ℕ
  pub taken : ℕ
  pub output : List ℕ
  pub room : ℕ

pub record State : Type 0 where
  pub machine : Machine
  pub io : IoView
  -- instructions done
  pub done : ℕ

-- An even accessible address whose first halfword a step reads, as an instruction or as the subject of EX.
pub record Visit : Type 0 where
  pub at : ℕ
  -- all its halfwords were fetched, and it is no subject that is itself EX
  pub begun : Bool
  -- the instruction as executed branches
  pub went : Bool
  -- instructions done before this one
  pub before : ℕ
  -- it is the subject of EX
  pub subject : Bool

-- a register as base or index, where register 0 means zero
abbrev pub base : CpuView → ℕ → ℕ
base s r = if r == 0 then 0 else slice_index s.regs r

-- the effective address of base, index and displacement
abbrev pub address : CpuView → ℕ → ℕ → ℕ → ℕ
address s b x d = wrap (d + base s b + base s x)
