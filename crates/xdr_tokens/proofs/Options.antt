-- What is there, and what is not.
use Rattle.std.proofs.Common.{◌≡◌, ◌⊎◌, inl, inr, Bool, true, false, cond, Option, Some, None, refl}
use Rattle.std.specs.Prelude.{option_and_then}

pub some_is : {A : Type 0} (x y : A) → Some x ≡ Some y → x ≡ y
some_is x y e = cc

pub some_is_not : {A : Type 0} (x : A) → Some x ≡ None → ⊥
some_is_not x e = absurd cc

-- a step that gives something, in its parts
pub bind_some : {A B : Type 0} (o : Option A) (f : A → Option B) (y : B) → option_and_then f o ≡ Some y
    → (a : A) × (o ≡ Some a) × (f a ≡ Some y)
bind_some (Some a) f y e = (a, refl, e)
bind_some None f y e = absurd cc

-- which of two was taken
pub chosen : {A : Type 0} (b : Bool) (x y z : A) → cond b x y ≡ z → ((b ≡ true) × (x ≡ z)) ⊎ ((b ≡ false) × (y ≡ z))
chosen true x y z e = inl (refl, e)
chosen false x y z e = inr (refl, e)
