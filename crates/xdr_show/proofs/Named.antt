-- The name of a number is that of the first member that has it.
use Rattle.std.proofs.Common.{◌≡◌, ℤ, List, [], ◌∷◌, Some, None, refl, sym, ap, inl, inr}
use Rattle.std.specs.List.{find}
use Rattle.std.specs.Ordering.{int_eq}
use Rattle.std.proofs.lemmas.Bool.{cases_Bool as tested}
use Rattle.std.proofs.lemmas.Option.{none-some}
use Rattle.xdr_types.specs.Kinds.{Constant}
use Rattle.xdr_show.specs.Line.{name_of_number}

some-is : {A : Type 0} (x y : A) → Some x ≡ Some y → x ≡ y
some-is x y e = cc

pub name-found : (members : List Constant) (z : ℤ) (m : Constant)
    → find (λ (c : Constant). int_eq c.number z) members ≡ Some m → name_of_number members z ≡ m.name
name-found [] z m e = absurd (none-some m e)
name-found (c ∷ members) z m e =
    elim (tested (int_eq c.number z)) [
      | inl h ↦ rw h (ap (λ (d : Constant). d.name) (some-is c m (rw h at e)))
      | inr h ↦ rw h (name-found members z m (rw h at e))
    ]

pub name-missing : (members : List Constant) (z : ℤ)
    → find (λ (c : Constant). int_eq c.number z) members ≡ None → name_of_number members z ≡ []
name-missing [] z e = refl
name-missing (c ∷ members) z e =
    elim (tested (int_eq c.number z)) [
      | inl h ↦ absurd (none-some c (sym (rw h at e)))
      | inr h ↦ rw h (name-missing members z (rw h at e))
    ]
