-- What is found has the number that was looked for, and lists of many numbers are a schema.
use Rattle.std.proofs.Common.{◌≡◌, zero, suc, ℤ, pos, List, [], ◌∷◌, Option, Some, None, option_map, IfSome, codes}
use Rattle.std.proofs.Common.{refl, sym, subst, arith, inl, inr, FitsSigned, w64, to_z, of_z, rules}
use Rattle.std.specs.List.{find}
use Rattle.std.specs.Ordering.{int_eq}
use Rattle.std.proofs.lemmas.Bool.{cases_Bool as tested}
use Rattle.std.proofs.lemmas.Bool.Decides.{Decides-int_eq}
use Rattle.xdr_types.specs.Kinds as xdr
use Rattle.xdr_types.specs.Kinds.{KindView, Part, Constant, Lists}
use Rattle.xdr_types.specs.Fits.{member_in}
use Rattle.xdr_types.specs.Faults.{AreFlawless, IsWellFormed, kind_flaw_at}
use Rattle.xdr_types.specs.Sound.{Heighting, IsProper, IsSound}
use Rattle.example_xdr.specs.Rfc.{part}
use Rattle.example_xdr.specs.LookUps.{many_numbers, under}

-- a number's word in memory is read as the number
pub word_of : (z : ℤ) → FitsSigned w64 z → to_z w64 (of_z w64 z) ≡ z
word_of z fits = search rules

-- the constant that was found has the number
abbrev pub HasNumber : ℤ → Option Constant → Type 0
HasNumber z o = IfSome o (λ (c : Constant). c.number ≡ z)

among : (constants : List Constant) (z : ℤ)
    → HasNumber z (find (λ (c : Constant). int_eq c.number z) constants)
among [] z = tt
among (c ∷ cs) z =
    elim (tested (int_eq c.number z)) [
      | inl h ↦ rw h ((Decides-int_eq c.number z).0 h)
      | inr h ↦ rw h (among cs z)
    ]

-- a member that is found has the number
pub has_number : (f : KindView) (z : ℤ) → HasNumber z (member_in f z)
has_number (xdr.numbered constants) z = among constants z
has_number _ z = tt

-- so has what stands for it in memory
pub found : {A : Type 0} (f : A → Constant) (r : Option A) (o : Option Constant) (z : ℤ) → option_map f r ≡ o
    → HasNumber z o → IfSome r (λ (m : A). (f m).number ≡ z)
found f None o z e h = tt
found f (Some m) o z e h = subst (HasNumber z) (sym e) h

flawless : AreFlawless (kind_flaw_at many_numbers) 7
flawless zero low = refl
flawless (suc zero) low = refl
flawless (suc (suc zero)) low = refl
flawless (suc (suc (suc zero))) low = refl
flawless (suc (suc (suc (suc zero)))) low = refl
flawless (suc (suc (suc (suc (suc zero))))) low = refl
flawless (suc (suc (suc (suc (suc (suc zero)))))) low = refl
flawless (suc (suc (suc (suc (suc (suc (suc n))))))) low = absurd (omega (arith, low))

-- kinds with names
abbrev lists : List KindView → List Part → Lists
lists kinds names = record { kinds = kinds; names = names }

unnamed : IsWellFormed (lists many_numbers [])
unnamed = record { few = omega arith; kinds = flawless; names = λ place low. absurd (omega (arith, low)) }

-- no fault applies to the kinds of the examples
pub well_formed : (kinds : List KindView) (names : List Part) → kinds ≡ many_numbers → names ≡ []
    → IsWellFormed (lists kinds names)
well_formed kinds names these none =
    subst (λ ks. IsWellFormed (lists ks names)) (sym these)
    (subst (λ ns. IsWellFormed (lists many_numbers ns)) (sym none) unnamed)

-- the unions stand on the others
abbrev height : Heighting
height (suc (suc (suc (suc (suc zero))))) = Some 1
height (suc (suc (suc (suc (suc (suc zero)))))) = Some 1
height (suc (suc (suc (suc (suc (suc (suc n))))))) = None
height n = Some 0

proper : IsProper many_numbers height
proper zero n is = tt
proper (suc zero) n is = tt
proper (suc (suc zero)) n is = tt
proper (suc (suc (suc zero))) n is = tt
proper (suc (suc (suc (suc zero)))) n is = tt
proper (suc (suc (suc (suc (suc zero))))) n is =
    let one : 1 ≡ n = cc in
    let count = part (codes "count") 3 in
    (count, inl (under (pos 20 ∷ []) count, (0, omega arith, refl), refl), (0, refl, omega (arith, one)))
proper (suc (suc (suc (suc (suc (suc zero)))))) n is =
    let one : 1 ≡ n = cc in
    let first = part (codes "a") 1 in
    (first, inl (under (pos 9 ∷ []) first, (0, omega arith, refl), refl), (0, refl, omega (arith, one)))
proper (suc (suc (suc (suc (suc (suc (suc m))))))) n is = absurd cc

-- each of them has a finite value
pub sound : IsSound many_numbers
sound zero low = (height, 0, proper, refl)
sound (suc zero) low = (height, 0, proper, refl)
sound (suc (suc zero)) low = (height, 0, proper, refl)
sound (suc (suc (suc zero))) low = (height, 0, proper, refl)
sound (suc (suc (suc (suc zero)))) low = (height, 0, proper, refl)
sound (suc (suc (suc (suc (suc zero))))) low = (height, 1, proper, refl)
sound (suc (suc (suc (suc (suc (suc zero)))))) low = (height, 1, proper, refl)
sound (suc (suc (suc (suc (suc (suc (suc n))))))) low = absurd (omega (arith, low))
