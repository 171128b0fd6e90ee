-- Values that are one part, whatever their bytes are.
use Rattle.std.proofs.Common.{◌≡◌, ℕ, true, false, List, [], ◌∷◌, length, refl, sym, ap}
use Rattle.xdr_types.specs.Kinds as xdr
use Rattle.xdr_types.specs.Kinds.{KindView, Part, Constant}
use Rattle.xdr_types.specs.Tree as value
use Rattle.xdr_types.specs.Tree.{Head}
use Rattle.xdr_types.specs.Fits.{parts}
use Rattle.xdr_types.specs.Spelling.{own}
use Rattle.xdr_types.specs.Layout.{entry, shown, content, of_number}
use Rattle.xdr_laws.specs.Owed.{lead_of, IsFreeBytes, free_size}
use Rattle.xdr_laws.proofs.Content.{free_parts}
use Rattle.xdr_laws.proofs.Legal.{IsLegal}
use Rattle.xdr_laws.proofs.Numbers.{unit_of, unit4-length}
use Rattle.xdr_parts.specs.Private.Walking.{IsFree}
use Rattle.xdr_parts.specs.Lent.{size_in, role_in}
use Rattle.xdr_parts.specs.declared.part.Role.{Role}
use Rattle.xdr_parts.specs.declared.part.Role.TheVariants.{Number, Content}

-- bytes of any value as one part
abbrev pub IsFreeAs : KindView → Role → ℕ → Type 0
IsFreeAs k role size = IsFreeBytes (lead_of k) × (free_size k ≡ size)
    × ((at d : ℕ) (p : Part) → free_parts at d p k ≡ entry at (size_in role size) d p (role_in role size) ∷ [])

-- a number of one unit as one part
abbrev pub IsUnitAs : KindView → Role → ℕ → Type 0
IsUnitAs k role size = (role ≡ Number) × (size ≡ 4)
    × ((s : List KindView) (at d : ℕ) (p : Part) (h : Head) → IsLegal s k h
    → (shown at d p k h ≡ entry at 4 d p of_number ∷ []) × (length (own k h) ≡ 4) × (parts k h ≡ []))

unit_int : (s : List KindView) (at d : ℕ) (p : Part) (h : Head) → IsLegal s xdr.int h
    → (shown at d p xdr.int h ≡ entry at 4 d p of_number ∷ []) × (length (own xdr.int h) ≡ 4) × (parts xdr.int h ≡ [])
unit_int s at d p (value.int z) l = (refl, unit4-length (unit_of z), refl)
unit_int s at d p _ l = absurd l

unit_unsigned : (s : List KindView) (at d : ℕ) (p : Part) (h : Head) → IsLegal s xdr.unsigned h
    → (shown at d p xdr.unsigned h ≡ entry at 4 d p of_number ∷ []) × (length (own xdr.unsigned h) ≡ 4)
    × (parts xdr.unsigned h ≡ [])
unit_unsigned s at d p (value.unsigned n) l = (refl, unit4-length n, refl)
unit_unsigned s at d p _ l = absurd l

unit_boolean : (s : List KindView) (at d : ℕ) (p : Part) (h : Head) → IsLegal s xdr.boolean h
    → (shown at d p xdr.boolean h ≡ entry at 4 d p of_number ∷ []) × (length (own xdr.boolean h) ≡ 4)
    × (parts xdr.boolean h ≡ [])
unit_boolean s at d p (value.boolean true) l = (refl, unit4-length 1, refl)
unit_boolean s at d p (value.boolean false) l = (refl, unit4-length 0, refl)
unit_boolean s at d p _ l = absurd l

unit_numbered : (cs : List Constant) (s : List KindView) (at d : ℕ) (p : Part) (h : Head)
    → IsLegal s (xdr.numbered cs) h
    → (shown at d p (xdr.numbered cs) h ≡ entry at 4 d p of_number ∷ []) × (length (own (xdr.numbered cs) h) ≡ 4)
    × (parts (xdr.numbered cs) h ≡ [])
unit_numbered cs s at d p (value.numbered z) l = (refl, unit4-length (unit_of z), refl)
unit_numbered cs s at d p _ l = absurd l

pub free_as : {A : Type 0} → (k : KindView) (role : Role) (size : ℕ) → IsFree k role size
    → (IsFreeAs k role size → A) → (IsUnitAs k role size → A) → A
free_as xdr.int Number size f g u = u (refl, f, unit_int)
free_as xdr.unsigned Number size f g u = u (refl, f, unit_unsigned)
free_as xdr.boolean Number size f g u = u (refl, f, unit_boolean)
free_as (xdr.numbered cs) Number size f g u = u (refl, f, unit_numbered cs)
free_as xdr.hyper Number size f g u = g (tt, sym f, λ at d p. ap (λ (n : ℕ). entry at n d p of_number ∷ []) (sym f))
free_as xdr.unsigned_hyper Number size f g u =
    g (tt, sym f, λ at d p. ap (λ (n : ℕ). entry at n d p of_number ∷ []) (sym f))
free_as (xdr.opaque n) Content size f g u = g (tt, f, λ at d p. ap (λ (n : ℕ). content at d p n) f)
free_as _ _ size f g u = absurd f
