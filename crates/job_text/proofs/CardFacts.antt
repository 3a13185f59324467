-- What a card that was read keeps.
use Rattle.std.proofs.Common.{◌≡◌, ℕ, ◌+◌, ◌*◌, ◌<◌, ◌≤◌, Bool, true, false, ◌&&◌, nat_le, cond, Option, Some, None, Result, Ok, Err, List, [], ◌∷◌, ◌++◌, length, refl, sym, ◌∙◌, subst, option_map, arith, codes, slice_index, IfSome, leb-true}
use Rattle.std.proofs.lemmas.List.{length-append}
use Rattle.std.specs.Str.{bytes_eq}
use Rattle.std.proofs.lemmas.Option.{same_Some, cond_some}
use Rattle.cov_base.specs.Meaning.{is_name, name_at, padded, unpadded, words}
use Rattle.cov_base.proofs.Laws.{unpadded-padded}
use Rattle.hex.specs.Hex.{decode_sized}
use Rattle.hex.specs.declared.error.FromHexError.{FromHexError}
use Rattle.hex.proofs.HexLemmas.{decode_sized-ok, decode_sized-twice, decode_of-ok}
use Rattle.job_text.specs.Meaning.{CardView, Cover, Module, Text, Listing, Phase, Session, Task, Reg, Data, Input, End, card_number, bytes_at, ok_of, address_in, address_at, card_word, put_name, names_on, names_at, may_stand, as_module, as_session, as_controlled, controlled_card, session_card, as_task, as_reg, as_data, short_card, pair_card, long_card, card_of, card_at, Serve, as_service}
use Rattle.job_text.proofs.Guards.{guard_more}

-- a name filled with blanks
pub record IsName (n : List ℕ) : Type 0 where
  pub is : is_name (unpadded n) ≡ true
  pub filled : padded (unpadded n) ≡ n

abbrev pub Good : CardView → Type 0
Good (Module n b s) = IsName n × (may_stand b s ≡ true)
Good (Session n by ns) = IfSome by IsName × (1 ≤ length ns)
Good (Task n e p b r) = (e < 16777216) × (1 ≤ b)
Good c = Unit {0}

pub name_good : (w n : List ℕ) → name_at w ≡ Some n → IsName n
name_good w n e =
    let g = cond_some (is_name w) (padded w) n e in
    let back : unpadded (padded w) ≡ w = unpadded-padded w g.0 in
    subst IsName g.1 (record { is = rw back g.0; filled = rw back refl })

address_below : (w : List ℕ) (r : Result (List ℕ) FromHexError) (e : ℕ) → decode_sized w 3 ≡ r → option_map address_in (ok_of r) ≡ Some e → e < 16777216
address_below w (Ok bytes) e is h =
    let size : length w ≡ 2 * 3 = decode_sized-ok w 3 bytes is in
    let few = (decode_of-ok w bytes (sym (decode_sized-twice w 3 size) ∙ is)).3 in
    let same : address_in bytes ≡ e = same_Some (address_in bytes) e h in
    let a : slice_index bytes 0 < 256 = few 0 in
    let b : slice_index bytes 1 < 256 = few 1 in
    let c : slice_index bytes 2 < 256 = few 2 in
    omega (arith, same, a, b, c)
address_below w (Err f) e is h = absurd cc

pub address_good : (w : List ℕ) (e : ℕ) → address_at w ≡ Some e → e < 16777216
address_good w e h = address_below w (decode_sized w 3) e refl h

module_good : (n : Option (List ℕ)) (b s : Option ℕ) (c : CardView) → ((m : List ℕ) → n ≡ Some m → IsName m) → as_module n b s ≡ Some c → Good c
module_good (Some n) (Some b) (Some s) c is e = let g = cond_some (may_stand b s) (Module n b s) c e in subst Good g.1 (is n refl, g.0)
module_good (Some n) (Some b) None c is e = absurd cc
module_good (Some n) None s c is e = absurd cc
module_good None b s c is e = absurd cc

session_good : (n : Option (List ℕ)) (ns : Option (List (List ℕ))) (c : CardView) → ((ms : List (List ℕ)) → ns ≡ Some ms → 1 ≤ length ms) → as_session n ns ≡ Some c → Good c
session_good (Some n) (Some ns) c some e = let same : Session n None ns ≡ c = cc in subst Good same (tt, some ns refl)
session_good (Some n) None c some e = absurd cc
session_good None ns c some e = absurd cc

controlled_good : (n t : Option (List ℕ)) (ns : Option (List (List ℕ))) (c : CardView) → ((m : List ℕ) → t ≡ Some m → IsName m) → ((ms : List (List ℕ)) → ns ≡ Some ms → 1 ≤ length ms) → as_controlled n t ns ≡ Some c → Good c
controlled_good (Some n) (Some t) (Some ns) c is some e = let same : Session n (Some t) ns ≡ c = cc in subst Good same (is t refl, some ns refl)
controlled_good (Some n) (Some t) None c is some e = absurd cc
controlled_good (Some n) None ns c is some e = absurd cc
controlled_good None t ns c is some e = absurd cc

no_names : (ws ms : List (List ℕ)) → names_on None ws ≡ Some ms → ⊥
no_names [] ms e = absurd cc
no_names (w ∷ ws) ms e = absurd cc

name_put : (ns next : List (List ℕ)) (o : Option (List ℕ)) → put_name ns o ≡ Some next → length next ≡ length ns + 1
name_put ns next (Some n) e = let same : ns ++ n ∷ [] ≡ next = cc in rw (← same) (omega (arith, length-append ns (n ∷ [])))
name_put ns next None e = absurd cc

names_least : (ws ns ms : List (List ℕ)) → names_on (Some ns) ws ≡ Some ms → length ns ≤ length ms
names_least [] ns ms e = let same : ns ≡ ms = cc in rw same (omega arith)
names_least (w ∷ ws) ns ms e = by (put_name ns (name_at w)) refl e (λ next. names_least ws next ms)
  where
    by : (o : Option (List (List ℕ))) → put_name ns (name_at w) ≡ o → names_on o ws ≡ Some ms → ((next : List (List ℕ)) → names_on (Some next) ws ≡ Some ms → length next ≤ length ms) → length ns ≤ length ms
    by (Some next) f g more = omega (arith, name_put ns next (name_at w) f, more next g)
    by None f g more = absurd (no_names ws ms g)

names_some : (w : List ℕ) (ws ms : List (List ℕ)) → names_at (w ∷ ws) ≡ Some ms → 1 ≤ length ms
names_some w ws ms e = by (put_name [] (name_at w)) refl e
  where
    by : (o : Option (List (List ℕ))) → put_name [] (name_at w) ≡ o → names_on o ws ≡ Some ms → 1 ≤ length ms
    by (Some next) f g = omega (arith, name_put [] next (name_at w) f, names_least ws next ms g)
    by None f g = absurd (no_names ws ms g)

task_good : (n : Option (List ℕ)) (e p b r : Option ℕ) (c : CardView) → ((k : ℕ) → e ≡ Some k → k < 16777216) → as_task n e p b r ≡ Some c → Good c
task_good (Some n) (Some e) (Some p) (Some b) (Some r) c is h = let g = cond_some (nat_le 1 b) (Task n e p b r) c h in subst Good g.1 (is e refl, leb-true 1 b g.0)
task_good (Some n) (Some e) (Some p) (Some b) None c is h = absurd cc
task_good (Some n) (Some e) (Some p) None r c is h = absurd cc
task_good (Some n) (Some e) None b r c is h = absurd cc
task_good (Some n) None p b r c is h = absurd cc
task_good None e p b r c is h = absurd cc

reg_good : (n v : Option ℕ) (c : CardView) → as_reg n v ≡ Some c → Good c
reg_good (Some n) (Some v) c e = let g = cond_some (nat_le n 15) (Reg n v) c e in subst Good g.1 tt
reg_good (Some n) None c e = absurd cc
reg_good None v c e = absurd cc

data_good : (n : Option ℕ) (v : Option (List ℕ)) (c : CardView) → as_data n v ≡ Some c → Good c
data_good (Some n) (Some v) c e = let same : Data (record { offset = n; bytes = v }) ≡ c = cc in subst Good same tt
data_good (Some n) None c e = absurd cc
data_good None v c e = absurd cc

service_good : (n e : Option ℕ) (c : CardView) → as_service n e ≡ Some c → Good c
service_good (Some n) (Some e) c f = let g = cond_some _ (Serve (record { number = n; entry = e })) c f in subst Good g.1 tt
service_good (Some n) None c f = absurd cc
service_good None e c f = absurd cc

data_or_more : (q : Bool) (n : Option ℕ) (v : Option (List ℕ)) (more : Option CardView) (c : CardView) → (more ≡ Some c → Good c) → cond q (as_data n v) more ≡ Some c → Good c
data_or_more true n v more c g e = data_good n v c e
data_or_more false n v more c g e = g e

last_good : (q : Bool) (c d : CardView) → Good d → cond q (Some d) None ≡ Some c → Good c
last_good true c d g e = let same : d ≡ c = cc in subst Good same g
last_good false c d g e = absurd cc

phase_good : (q : Bool) (o : Option (List ℕ)) (more : Option CardView) (c : CardView) → (more ≡ Some c → Good c) → cond q (option_map Phase o) more ≡ Some c → Good c
phase_good true (Some n) more c g e = let same : Phase n ≡ c = cc in subst Good same tt
phase_good true None more c g e = absurd cc
phase_good false o more c g e = g e

listing_good : (q : Bool) (o : Option ℕ) (more : Option CardView) (c : CardView) → (more ≡ Some c → Good c) → cond q (option_map Listing o) more ≡ Some c → Good c
listing_good true (Some n) more c g e = let same : Listing n ≡ c = cc in subst Good same tt
listing_good true None more c g e = absurd cc
listing_good false o more c g e = g e

text_good : (q : Bool) (o : Option (List ℕ)) (more : Option CardView) (c : CardView) → (more ≡ Some c → Good c) → cond q (option_map Text o) more ≡ Some c → Good c
text_good true (Some n) more c g e = let same : Text n ≡ c = cc in subst Good same tt
text_good true None more c g e = absurd cc
text_good false o more c g e = g e

input_good : (q : Bool) (o : Option (List ℕ)) (more : Option CardView) (c : CardView) → (more ≡ Some c → Good c) → cond q (option_map Input o) more ≡ Some c → Good c
input_good true (Some n) more c g e = let same : Input n ≡ c = cc in subst Good same tt
input_good true None more c g e = absurd cc
input_good false o more c g e = g e

short_good : (key a : List ℕ) (c : CardView) → short_card key a ≡ Some c → Good c
short_good key a c e =
    text_good (bytes_eq key (codes "TEXT")) (bytes_at a) _ c
    (listing_good (bytes_eq key (codes "LISTING")) (card_number a) _ c
    (phase_good (bytes_eq key (codes "PHASE")) (name_at a) _ c
    (input_good (bytes_eq key (codes "INPUT")) (bytes_at a) _ c
    (last_good (bytes_eq key (codes "COVERJOB") && bytes_eq a (codes "1")) c Cover tt)))) e

reg_or_more : (q : Bool) (n v : Option ℕ) (more : Option CardView) (c : CardView) → (more ≡ Some c → Good c) → cond q (as_reg n v) more ≡ Some c → Good c
reg_or_more true n v more c g e = reg_good n v c e
reg_or_more false n v more c g e = g e

pair_good : (key a b : List ℕ) (c : CardView) → pair_card key a b ≡ Some c → Good c
pair_good key a b c e =
    reg_or_more (bytes_eq key (codes "REG")) (card_number a) (card_word b) _ c
    (data_or_more (bytes_eq key (codes "DATA")) (card_number a) (bytes_at b) _ c
    (λ d. let g = guard_more (bytes_eq key (codes "SERVICE")) (as_service (card_number a) (address_at b)) c d in service_good (card_number a) (address_at b) c g.1)) e

long_good : (key a : List ℕ) (ws : List (List ℕ)) (c : CardView) → long_card key a ws ≡ Some c → Good c
long_good key a [] c e = absurd cc
long_good key a (b ∷ []) c e = pair_good key a b c e
long_good key a (b ∷ s ∷ []) c e =
    let g = guard_more (bytes_eq key (codes "MODULE")) (as_module (name_at a) (address_at b) (card_number s)) c e in
    module_good (name_at a) (address_at b) (card_number s) c (λ m h. name_good a m h) g.1
long_good key a (b ∷ s ∷ d ∷ []) c e = absurd cc
long_good key a (b ∷ p ∷ q ∷ r ∷ []) c e =
    let g = guard_more (bytes_eq key (codes "TASK")) (as_task (name_at a) (address_at b) (card_number p) (card_number q) (card_number r)) c e in
    task_good (name_at a) (address_at b) (card_number p) (card_number q) (card_number r) c (λ k h. address_good b k h) g.1
long_good key a (b ∷ p ∷ q ∷ r ∷ s ∷ ws) c e = absurd cc

one_of : (q : Bool) (o more : Option CardView) (c : CardView) → (o ≡ Some c → Good c) → (more ≡ Some c → Good c) → cond q o more ≡ Some c → Good c
one_of true o more c f g e = f e
one_of false o more c f g e = g e

behind_by : (name : List ℕ) (ws : List (List ℕ)) (c : CardView) → controlled_card name ws ≡ Some c → Good c
behind_by name [] c e = absurd cc
behind_by name (t ∷ []) c e = absurd cc
behind_by name (t ∷ m ∷ more) c e = controlled_good (name_at name) (name_at t) (names_at (m ∷ more)) c (λ n h. name_good t n h) (names_some m more) e

behind_name : (name a : List ℕ) (more : List (List ℕ)) (c : CardView) → session_card name (a ∷ more) ≡ Some c → Good c
behind_name name a more c e =
    one_of (bytes_eq a (codes "BY")) (controlled_card name more) (as_session (name_at name) (names_at (a ∷ more))) c (behind_by name more c) (session_good (name_at name) (names_at (a ∷ more)) c (names_some a more)) e

words_good : (ws : List (List ℕ)) (c : CardView) → card_of ws ≡ Some c → Good c
words_good [] c e = absurd cc
words_good (key ∷ []) c e = last_good (bytes_eq key (codes "ENDJOB")) c End tt e
words_good (key ∷ a ∷ []) c e = short_good key a c e
words_good (key ∷ a ∷ b ∷ more) c e =
    one_of (bytes_eq key (codes "SESSION")) (session_card a (b ∷ more)) (long_card key a (b ∷ more)) c (behind_name a b more c) (long_good key a (b ∷ more) c) e

-- a module's name is a name and it may stand there, a controller's name is one, a session has a module, an entry is an address, and a budget is at least 1
pub card_good : (line : List ℕ) (c : CardView) → card_at line ≡ Some c → Good c
card_good line c e = words_good (words line) c e
