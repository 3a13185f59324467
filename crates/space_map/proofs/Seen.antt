-- Each place is reached, and shows its original.
use Rattle.std.proofs.Common.{◌≡◌, ℕ, ◌+◌, ◌-◌, ◌*◌, ◌<◌, ◌≤◌, zero, suc, true, false, nat_lt, List, [], ◌∷◌, length, take, drop, get_or, slice_index, refl, sym, ◌∙◌, arith, inl, inr}
use Rattle.std.specs.List.{All, AllPairs, Contains}
use Rattle.std.proofs.lemmas.Bool.Decides.{nat_tests}
use Rattle.std.proofs.lemmas.List.Elements.{All-get_or}
use Rattle.std.proofs.lemmas.List.{get_or_read, get_or-take, get_or-drop}
use Rattle.cov_base.specs.Meaning.{ImageView, wrap, byte_at}
use Rattle.cov_base.proofs.Laws.{length_of-least}
use Rattle.std.proofs.lemmas.List.Folds.{list_any_at}
use Rattle.module_area.specs.declared.places.Place.{Place}
use Rattle.module_area.specs.Meaning.{no_place}
use Rattle.module_area.specs.Images.{AreImages, AreClear}
use Rattle.brk_table.specs.Meaning.{in_image, image_byte, memory_of}
use Rattle.brk_table.specs.Places.{IsPlace, ArePlaces, IsIn, IsSeen, AreSeen}
use Rattle.space_map.proofs.Ranges.{reach_image}
use Rattle.space_map.proofs.Touches.{base_from}

pub in_image-inside : (i : ImageView) (a : ℕ) → i.base ≤ a → a < i.base + length i.bytes → in_image i a ≡ true
in_image-inside i a h k = grind (arith, nat_tests)

pub in_image-from : (i : ImageView) (a : ℕ) → in_image i a ≡ true → i.base ≤ a
in_image-from i a h = grind (arith, nat_tests)

pub in_image-to : (i : ImageView) (a : ℕ) → in_image i a ≡ true → a < i.base + length i.bytes
in_image-to i a h = grind (arith, nat_tests)

before : (i : ImageView) (a : ℕ) → a < i.base → in_image i a ≡ false
before i a h = grind (arith, nat_tests)

after : (i : ImageView) (a : ℕ) → i.base + length i.bytes ≤ a → in_image i a ≡ false
after i a h = grind (arith, nat_tests)

clear : (i j : ImageView) (a : ℕ) → AreClear i j → in_image j a ≡ true → in_image i a ≡ false
clear i j a (inl h) k = let f = in_image-from j a k in after i a (omega arith)
clear i j a (inr h) k = let t = in_image-to j a k in before i a (omega arith)

-- of modules that share no byte, the one that has the address gives its byte
image_byte-there : (images : List ImageView) (d : ImageView) (n a : ℕ) → n < length images → AllPairs AreClear images → in_image (get_or images n d) a ≡ true → image_byte images a ≡ slice_index (get_or images n d).bytes (a - (get_or images n d).base)
image_byte-there [] d n a l f h = absurd (omega arith)
image_byte-there (i ∷ is) d zero a l f h = rw h refl
image_byte-there (i ∷ is) d (suc n) a l f h =
    rw (clear i (get_or is n d) a (f 0 (suc n) d (omega arith) (omega arith)) h) (image_byte-there is d n a (omega arith) (λ x y e p q. f (suc x) (suc y) e (omega arith) (omega arith)) h)

pub byte_at-image : (size : ℕ) (images : List ImageView) (places : List Place) (bytes : List ℕ) (a : ℕ) → size ≤ a → byte_at (memory_of size images places) bytes a ≡ image_byte images a
unfolding byte_at memory_of
byte_at-image size images places bytes a h = rw (let e : nat_lt a size ≡ false = grind (arith, nat_tests) in e) refl

pub image_byte-of : (images : List ImageView) (p : Place) (q : IsIn images p) (a : ℕ) → AreImages images → q.image.base ≤ a → a < q.image.base + length q.image.bytes → image_byte images a ≡ slice_index q.image.bytes (a - q.image.base)
image_byte-of images p q a f from to =
    rw (← q.is) (image_byte-there images q.image p.module a q.exists f.apart (rw q.is (in_image-inside q.image a from to)))

pub is_image-of : (size : ℕ) (images : List ImageView) (places : List Place) (p : Place) (q : IsIn images p) (a : ℕ) → q.image.base ≤ a → a < q.image.base + length q.image.bytes → (memory_of size images places).is_image a ≡ true
unfolding memory_of
is_image-of size images places p q a from to = list_any_at (λ i. in_image i a) images p.module q.image q.exists (rw q.is (in_image-inside q.image a from to))

is_seen : (size : ℕ) (images : List ImageView) (places : List Place) (p : Place) → size ≤ 1048576 → AreImages images → IsPlace p → IsIn images p → IsSeen (memory_of size images places) p
is_seen size images places p h f g q =
    let two : 2 ≤ p.len = omega (arith, length_of-least p.original) in
    let start : 1048576 ≤ p.at = base_from images p f q in
    record {
      reached = reach_image (memory_of size images places) p.at 2 (λ b from to. is_image-of size images places p q b (omega arith) (omega arith)) (omega arith);
      original = λ bytes. rw (let e : wrap (p.at + 1) ≡ p.at + 1 = omega arith in e, byte_at-image size images places bytes p.at (omega arith), byte_at-image size images places bytes (p.at + 1) (omega arith), image_byte-of images p q p.at f (omega arith) (omega arith), image_byte-of images p q (p.at + 1) f (omega arith) (omega arith)) (let e : p.at + 1 - q.image.base ≡ p.at - q.image.base + 1 = omega arith in rw e (sym q.original));
    }

pub are_seen : (size : ℕ) (images : List ImageView) (places : List Place) → size ≤ 1048576 → AreImages images → ArePlaces places → All (IsIn images) places → AreSeen (memory_of size images places) places
are_seen size images places h f g q n l =
    is_seen size images places (get_or places n no_place) h f (All-get_or IsPlace places n no_place l g.each) (All-get_or (IsIn images) places n no_place l q)

pub image_byte-contained : (images : List ImageView) (i : ImageView) (a : ℕ) → AreImages images → Contains images i → in_image i a ≡ true → image_byte images a ≡ slice_index i.bytes (a - i.base)
image_byte-contained images i a f (k, l, e) h =
    rw e at (image_byte-there images i k a l f.apart (rw e h))

-- the halfword of two bytes of one module
pub half_read : (images : List ImageView) (i : ImageView) (a base x y : ℕ) (bytes : List ℕ) → AreImages images → Contains images i → in_image i a ≡ true → base ≡ i.base → bytes ≡ i.bytes → a - base + 1 < length bytes → x ≡ get_or bytes (a - base) x → y ≡ get_or bytes (a - base + 1) y → x * 256 + y ≡ image_byte images a * 256 + image_byte images (a + 1)
half_read images i a base x y bytes f one h p q l s t =
    let from = in_image-from i a h in
    let n : a - base + 1 < length i.bytes = rw q at l in
    let next : in_image i (a + 1) ≡ true = in_image-inside i (a + 1) (omega arith) (omega arith) in
    let first : x ≡ image_byte images a = get_or_read bytes (a - base) x (omega arith) s 0 ∙ rw (p, q) refl ∙ sym (image_byte-contained images i a f one h) in
    let second : y ≡ image_byte images (a + 1) = get_or_read bytes (a - base + 1) y l t 0 ∙ rw (p, q, let e : a - i.base + 1 ≡ a + 1 - i.base = omega arith in e) refl ∙ sym (image_byte-contained images i (a + 1) f one next) in
    cc

-- the bytes of a range in one module
pub list_read : (images : List ImageView) (i : ImageView) (a base n : ℕ) (bytes : List ℕ) → AreImages images → Contains images i → in_image i a ≡ true → base ≡ i.base → bytes ≡ i.bytes → a - base + n ≤ length bytes →
    (j : ℕ) → j < n → slice_index (take n (drop (a - base) bytes)) j ≡ image_byte images (a + j)
list_read images i a base n bytes f one h p q l j k =
    let from = in_image-from i a h in
    let to : a - base + n ≤ length i.bytes = rw q at l in
    let there : in_image i (a + j) ≡ true = in_image-inside i (a + j) (omega arith) (omega arith) in
    let place : a - i.base + j ≡ a + j - i.base = omega arith in
    get_or-take n (drop (a - base) bytes) j 0 k ∙ (get_or-drop (a - base) bytes j 0 ∙ rw (p, q, place) (sym (image_byte-contained images i (a + j) f one there)))
