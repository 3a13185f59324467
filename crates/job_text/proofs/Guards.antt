-- Tests and options.
use Rattle.std.proofs.Common.{◌≡◌, Bool, true, false, cond, Option, Some, None, refl, option_map, option_and_then, ◌⊎◌, inl, inr}

pub guard_more : {A : Type 0} (b : Bool) (o : Option A) (y : A) → cond b o None ≡ Some y → (b ≡ true) × (o ≡ Some y)
guard_more true o y e = (refl, e)
guard_more false o y e = absurd cc

pub guard_none : {A : Type 0} (b : Bool) (x y : A) → cond b None (Some x) ≡ Some y → (b ≡ false) × (x ≡ y)
guard_none false x y e = (refl, cc)
guard_none true x y e = absurd cc

pub guard_then : {A : Type 0} (b : Bool) (o : Option A) (y : A) → cond b None o ≡ Some y → (b ≡ false) × (o ≡ Some y)
guard_then false o y e = (refl, e)
guard_then true o y e = absurd cc

pub record FromMap {A B : Type 0} (f : A → B) (o : Option A) (y : B) : Type 0 where
  pub from : A
  pub was : o ≡ Some from
  pub gives : f from ≡ y

pub map_some : {A B : Type 0} (f : A → B) (o : Option A) (y : B) → option_map f o ≡ Some y → FromMap f o y
map_some f (Some x) y e = record { from = x; was = refl; gives = cc }
map_some f None y e = absurd cc

pub record FromThen {A B : Type 0} (f : A → Option B) (o : Option A) (y : B) : Type 0 where
  pub from : A
  pub was : o ≡ Some from
  pub gives : f from ≡ Some y

pub then_some : {A B : Type 0} (f : A → Option B) (o : Option A) (y : B) → option_and_then f o ≡ Some y → FromThen f o y
then_some f (Some x) y e = record { from = x; was = refl; gives = e }
then_some f None y e = absurd cc

pub choose : {A : Type 0} (b : Bool) (x y z : A) → cond b x y ≡ z → ((b ≡ true) × (x ≡ z)) ⊎ ((b ≡ false) × (y ≡ z))
choose true x y z e = inl (refl, e)
choose false x y z e = inr (refl, e)
