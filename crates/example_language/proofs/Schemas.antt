-- Which lists make a schema, computed.
use Rattle.std.proofs.Common.{◌≡◌, ◌≤◌, ℕ, zero, suc, List, [], ◌∷◌, ◌++◌, length, true, Some, None, refl, arith, subst}
use Rattle.xdr_types.specs.Kinds.{KindView, Lists}
use Rattle.xdr_types.specs.Named.{basic}
use Rattle.xdr_types.specs.Faults.{kind_flaw_at, name_flaw_at, IsWellFormed}
use Rattle.xdr_types.specs.Sound.{Heighting, IsBelow, Asks, IsProper, IsSound}
use Rattle.xdr_types.proofs.Flawless.{all_flawless, flawless}

pub well : (s : Lists) → length s.kinds ≤ 1024 → all_flawless (kind_flaw_at s.kinds) (length s.kinds) ≡ true
    → all_flawless (name_flaw_at s.kinds s.names) (length s.names) ≡ true → IsWellFormed s
well s few kinds names = record {
  few = few;
  kinds = flawless (kind_flaw_at s.kinds) (length s.kinds) kinds;
  names = flawless (name_flaw_at s.kinds s.names) (length s.names) names;
}

-- the basic kinds
abbrev pub eight : List KindView
eight = basic.kinds

abbrev pub height_eight : Heighting
height_eight zero = Some 0
height_eight (suc zero) = Some 0
height_eight (suc (suc zero)) = Some 0
height_eight (suc (suc (suc zero))) = Some 0
height_eight (suc (suc (suc (suc zero)))) = Some 0
height_eight (suc (suc (suc (suc (suc zero))))) = Some 0
height_eight (suc (suc (suc (suc (suc (suc zero)))))) = Some 0
height_eight (suc (suc (suc (suc (suc (suc (suc zero))))))) = Some 0
height_eight (suc (suc (suc (suc (suc (suc (suc (suc m)))))))) = None

proper_eight : IsProper (eight) height_eight
proper_eight zero n is = tt
proper_eight (suc zero) n is = tt
proper_eight (suc (suc zero)) n is = tt
proper_eight (suc (suc (suc zero))) n is = tt
proper_eight (suc (suc (suc (suc zero)))) n is = tt
proper_eight (suc (suc (suc (suc (suc zero))))) n is = tt
proper_eight (suc (suc (suc (suc (suc (suc zero)))))) n is = tt
proper_eight (suc (suc (suc (suc (suc (suc (suc zero))))))) n is = tt
proper_eight (suc (suc (suc (suc (suc (suc (suc (suc m)))))))) n is = absurd cc

pub sound_eight : IsSound (eight)
sound_eight zero low = (height_eight, 0, proper_eight, refl)
sound_eight (suc zero) low = (height_eight, 0, proper_eight, refl)
sound_eight (suc (suc zero)) low = (height_eight, 0, proper_eight, refl)
sound_eight (suc (suc (suc zero))) low = (height_eight, 0, proper_eight, refl)
sound_eight (suc (suc (suc (suc zero)))) low = (height_eight, 0, proper_eight, refl)
sound_eight (suc (suc (suc (suc (suc zero))))) low = (height_eight, 0, proper_eight, refl)
sound_eight (suc (suc (suc (suc (suc (suc zero)))))) low = (height_eight, 0, proper_eight, refl)
sound_eight (suc (suc (suc (suc (suc (suc (suc zero))))))) low = (height_eight, 0, proper_eight, refl)
sound_eight (suc (suc (suc (suc (suc (suc (suc (suc m)))))))) low = absurd (omega (arith, low))

-- the basic kinds and 1 more
abbrev pub nine : (a : KindView) → List KindView
nine a = basic.kinds ++ a ∷ []

abbrev pub height_nine : Heighting
height_nine zero = Some 0
height_nine (suc zero) = Some 0
height_nine (suc (suc zero)) = Some 0
height_nine (suc (suc (suc zero))) = Some 0
height_nine (suc (suc (suc (suc zero)))) = Some 0
height_nine (suc (suc (suc (suc (suc zero))))) = Some 0
height_nine (suc (suc (suc (suc (suc (suc zero)))))) = Some 0
height_nine (suc (suc (suc (suc (suc (suc (suc zero))))))) = Some 0
height_nine (suc (suc (suc (suc (suc (suc (suc (suc zero)))))))) = Some 1
height_nine (suc (suc (suc (suc (suc (suc (suc (suc (suc m))))))))) = None

proper_nine : (a : KindView) → Asks (nine a) (IsBelow height_nine 1) a → IsProper (nine a) height_nine
proper_nine a ha zero n is = tt
proper_nine a ha (suc zero) n is = tt
proper_nine a ha (suc (suc zero)) n is = tt
proper_nine a ha (suc (suc (suc zero))) n is = tt
proper_nine a ha (suc (suc (suc (suc zero)))) n is = tt
proper_nine a ha (suc (suc (suc (suc (suc zero))))) n is = tt
proper_nine a ha (suc (suc (suc (suc (suc (suc zero)))))) n is = tt
proper_nine a ha (suc (suc (suc (suc (suc (suc (suc zero))))))) n is = tt
proper_nine a ha (suc (suc (suc (suc (suc (suc (suc (suc zero)))))))) n is =
    let same : 1 ≡ n = cc in subst (λ (k : ℕ). Asks (nine a) (IsBelow height_nine k) a) same ha
proper_nine a ha (suc (suc (suc (suc (suc (suc (suc (suc (suc m))))))))) n is = absurd cc

pub sound_nine : (a : KindView) → Asks (nine a) (IsBelow height_nine 1) a → IsSound (nine a)
sound_nine a ha zero low = (height_nine, 0, proper_nine a ha, refl)
sound_nine a ha (suc zero) low = (height_nine, 0, proper_nine a ha, refl)
sound_nine a ha (suc (suc zero)) low = (height_nine, 0, proper_nine a ha, refl)
sound_nine a ha (suc (suc (suc zero))) low = (height_nine, 0, proper_nine a ha, refl)
sound_nine a ha (suc (suc (suc (suc zero)))) low = (height_nine, 0, proper_nine a ha, refl)
sound_nine a ha (suc (suc (suc (suc (suc zero))))) low = (height_nine, 0, proper_nine a ha, refl)
sound_nine a ha (suc (suc (suc (suc (suc (suc zero)))))) low = (height_nine, 0, proper_nine a ha, refl)
sound_nine a ha (suc (suc (suc (suc (suc (suc (suc zero))))))) low = (height_nine, 0, proper_nine a ha, refl)
sound_nine a ha (suc (suc (suc (suc (suc (suc (suc (suc zero)))))))) low = (height_nine, 1, proper_nine a ha, refl)
sound_nine a ha (suc (suc (suc (suc (suc (suc (suc (suc (suc m))))))))) low = absurd (omega (arith, low))

-- the basic kinds and 2 more
abbrev pub ten : (a b : KindView) → List KindView
ten a b = basic.kinds ++ a ∷ b ∷ []

abbrev pub height_ten : Heighting
height_ten zero = Some 0
height_ten (suc zero) = Some 0
height_ten (suc (suc zero)) = Some 0
height_ten (suc (suc (suc zero))) = Some 0
height_ten (suc (suc (suc (suc zero)))) = Some 0
height_ten (suc (suc (suc (suc (suc zero))))) = Some 0
height_ten (suc (suc (suc (suc (suc (suc zero)))))) = Some 0
height_ten (suc (suc (suc (suc (suc (suc (suc zero))))))) = Some 0
height_ten (suc (suc (suc (suc (suc (suc (suc (suc zero)))))))) = Some 1
height_ten (suc (suc (suc (suc (suc (suc (suc (suc (suc zero))))))))) = Some 2
height_ten (suc (suc (suc (suc (suc (suc (suc (suc (suc (suc m)))))))))) = None

proper_ten : (a b : KindView) → Asks (ten a b) (IsBelow height_ten 1) a → Asks (ten a b) (IsBelow height_ten 2) b
    → IsProper (ten a b) height_ten
proper_ten a b ha hb zero n is = tt
proper_ten a b ha hb (suc zero) n is = tt
proper_ten a b ha hb (suc (suc zero)) n is = tt
proper_ten a b ha hb (suc (suc (suc zero))) n is = tt
proper_ten a b ha hb (suc (suc (suc (suc zero)))) n is = tt
proper_ten a b ha hb (suc (suc (suc (suc (suc zero))))) n is = tt
proper_ten a b ha hb (suc (suc (suc (suc (suc (suc zero)))))) n is = tt
proper_ten a b ha hb (suc (suc (suc (suc (suc (suc (suc zero))))))) n is = tt
proper_ten a b ha hb (suc (suc (suc (suc (suc (suc (suc (suc zero)))))))) n is =
    let same : 1 ≡ n = cc in subst (λ (k : ℕ). Asks (ten a b) (IsBelow height_ten k) a) same ha
proper_ten a b ha hb (suc (suc (suc (suc (suc (suc (suc (suc (suc zero))))))))) n is =
    let same : 2 ≡ n = cc in subst (λ (k : ℕ). Asks (ten a b) (IsBelow height_ten k) b) same hb
proper_ten a b ha hb (suc (suc (suc (suc (suc (suc (suc (suc (suc (suc m)))))))))) n is = absurd cc

pub sound_ten : (a b : KindView) → Asks (ten a b) (IsBelow height_ten 1) a → Asks (ten a b) (IsBelow height_ten 2) b
    → IsSound (ten a b)
sound_ten a b ha hb zero low = (height_ten, 0, proper_ten a b ha hb, refl)
sound_ten a b ha hb (suc zero) low = (height_ten, 0, proper_ten a b ha hb, refl)
sound_ten a b ha hb (suc (suc zero)) low = (height_ten, 0, proper_ten a b ha hb, refl)
sound_ten a b ha hb (suc (suc (suc zero))) low = (height_ten, 0, proper_ten a b ha hb, refl)
sound_ten a b ha hb (suc (suc (suc (suc zero)))) low = (height_ten, 0, proper_ten a b ha hb, refl)
sound_ten a b ha hb (suc (suc (suc (suc (suc zero))))) low = (height_ten, 0, proper_ten a b ha hb, refl)
sound_ten a b ha hb (suc (suc (suc (suc (suc (suc zero)))))) low = (height_ten, 0, proper_ten a b ha hb, refl)
sound_ten a b ha hb (suc (suc (suc (suc (suc (suc (suc zero))))))) low = (height_ten, 0, proper_ten a b ha hb, refl)
sound_ten a b ha hb (suc (suc (suc (suc (suc (suc (suc (suc zero)))))))) low =
    (height_ten, 1, proper_ten a b ha hb, refl)
sound_ten a b ha hb (suc (suc (suc (suc (suc (suc (suc (suc (suc zero))))))))) low =
    (height_ten, 2, proper_ten a b ha hb, refl)
sound_ten a b ha hb (suc (suc (suc (suc (suc (suc (suc (suc (suc (suc m)))))))))) low = absurd (omega (arith, low))
