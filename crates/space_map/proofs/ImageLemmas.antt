-- The module at an address.
use Rattle.std.proofs.Common.{◌≡◌, ℕ, ◌<◌, ◌-◌, zero, suc, true, false, List, [], ◌∷◌, length, get_or, slice_index, refl, arith}
use Rattle.std.specs.List.{list_any}
use Rattle.std.proofs.lemmas.Bool.{or_from}
use Rattle.cov_base.specs.Meaning.{ImageView}
use Rattle.brk_table.specs.Meaning.{in_image, image_byte}

-- the first module that has the address gives its byte
pub image_byte-first : (images : List ImageView) (d : ImageView) (n a : ℕ) → n < length images → in_image (get_or images n d) a ≡ true → ((k : ℕ) (d : ImageView) → k < n → in_image (get_or images k d) a ≡ false) → image_byte images a ≡ slice_index (get_or images n d).bytes (a - (get_or images n d).base)
image_byte-first [] d n a l h f = absurd (omega arith)
image_byte-first (i ∷ is) d zero a l h f = rw h refl
image_byte-first (i ∷ is) d (suc n) a l h f = rw (f 0 d (omega arith)) (image_byte-first is d n a (omega arith) h (λ k d m. f (suc k) d (omega arith)))

pub list_any-none : (images : List ImageView) (a : ℕ) → ((k : ℕ) (d : ImageView) → k < length images → in_image (get_or images k d) a ≡ false) → list_any (λ i. in_image i a) images ≡ false
list_any-none [] a f = refl
list_any-none (i ∷ is) a f = or_from _ _ (f 0 i (omega arith)) (list_any-none is a (λ k d m. f (suc k) d (omega arith)))

pub image_byte-at : (images : List ImageView) (d i : ImageView) (n a : ℕ) → i ≡ get_or images n d → n < length images → in_image i a ≡ true → ((k : ℕ) (d : ImageView) → k < n → in_image (get_or images k d) a ≡ false) → image_byte images a ≡ slice_index i.bytes (a - i.base)
image_byte-at images d i n a e l h f = rw e (image_byte-first images d n a l (rw e at h) f)

pub image_byte-none : (images : List ImageView) (a : ℕ) → ((k : ℕ) (d : ImageView) → k < length images → in_image (get_or images k d) a ≡ false) → image_byte images a ≡ 0
image_byte-none [] a f = refl
image_byte-none (i ∷ is) a f = rw (f 0 i (omega arith)) (image_byte-none is a (λ k d l. f (suc k) d (omega arith)))
