-- Cases that strictly rise are there once.
use Rattle.std.proofs.Common.{◌≡◌, ◌≤ℤ◌, ◌<ℤ◌, ℤ, false, List, [], ◌∷◌, int_eq, inl, inr, refl, arith}
use Rattle.std.specs.List.{list_any}
use Rattle.std.proofs.lemmas.Bool.{cases_Bool as tested}
use Rattle.std.proofs.lemmas.Bool.Decides.{Decides-int_eq}
use Rattle.std.proofs.lemmas.Int.{ints}
use Rattle.xdr_types.specs.Kinds.{Branch}
use Rattle.xdr_types.specs.Fits.{is_listed}
use Rattle.xdr_types.specs.Sound.{has_arm}
use Rattle.xdr_types.specs.Faults.{case_twice, arms_case_twice}
use Rattle.xdr_types.specs.Private.Rising.{RiseTo, ArmsRise}

above : (z c : ℤ) → z <ℤ c → int_eq c z ≡ false
above z c lt =
    elim (tested (int_eq c z)) [
      | inl h ↦ let same : c ≡ z = (Decides-int_eq c z).0 h in absurd (omega (arith, ints))
      | inr h ↦ h
    ]

-- no case is at or below what all are above
not_listed : (low : ℤ) (cs : List ℤ) (last z : ℤ) → RiseTo low cs last → z ≤ℤ low → is_listed cs z ≡ false
not_listed low [] last z h le = refl
not_listed low (c ∷ cs) last z h le =
    let lt : low <ℤ c = h.0 in
    rw (above z c (omega (arith, ints)), not_listed c cs last z h.1 (omega (arith, ints))) refl

-- the last is not below the first
up_to : (low : ℤ) (cs : List ℤ) (last : ℤ) → RiseTo low cs last → low ≤ℤ last
up_to low [] last h =
    let same : last ≡ low = h in
    omega (arith, ints)
up_to low (c ∷ cs) last h =
    let lt : low <ℤ c = h.0 in
    let rest : c ≤ℤ last = up_to c cs last h.1 in
    omega (arith, ints)

no_case_twice : (low : ℤ) (cs : List ℤ) (last : ℤ) → RiseTo low cs last → case_twice cs ≡ false
no_case_twice low [] last h = refl
no_case_twice low (c ∷ cs) last h =
    rw (not_listed c cs last c h.1 (omega (arith, ints)), no_case_twice c cs last h.1) refl

not_there : (low : ℤ) (arms : List Branch) (z : ℤ) → ArmsRise low arms → z ≤ℤ low → has_arm arms z ≡ false
not_there low [] z h le = refl
not_there low (a ∷ arms) z h le =
    let rest : low ≤ℤ h.0 = up_to low a.cases h.0 h.1 in
    rw (not_listed low a.cases h.0 z h.1 le, not_there h.0 arms z h.2 (omega (arith, ints))) refl

-- no case of an arm is there in later ones
none_later : (low : ℤ) (cs : List ℤ) (last : ℤ) (arms : List Branch) → RiseTo low cs last → ArmsRise last arms
    → list_any (has_arm arms) cs ≡ false
none_later low [] last arms h later = refl
none_later low (c ∷ cs) last arms h later =
    rw (not_there last arms c later (up_to c cs last h.1), none_later c cs last arms h.1 later) refl

pub once : (low : ℤ) (arms : List Branch) → ArmsRise low arms → arms_case_twice arms ≡ false
once low [] h = refl
once low (a ∷ arms) h =
    rw (no_case_twice low a.cases h.0 h.1, none_later low a.cases h.0 arms h.1 h.2, once h.0 arms h.2) refl
