-- An int and a structure of it are a schema.
use Rattle.std.proofs.Common.{◌≡◌, ℕ, zero, suc, List, [], ◌∷◌, Some, None, refl, arith}
use Rattle.xdr_types.specs.Kinds as xdr
use Rattle.xdr_types.specs.Kinds.{KindView}
use Rattle.xdr_types.specs.Sound.{Heighting, IsProper, IsSound}
use Rattle.example_xdr.specs.Rfc.{part}

-- the two kinds
abbrev pub two : List ℕ → List KindView
two name = xdr.int ∷ xdr.structure (part name 0 ∷ []) ∷ []

abbrev height : Heighting
height zero = Some 0
height (suc zero) = Some 1
height (suc (suc n)) = None

proper : (name : List ℕ) → IsProper (two name) height
proper name zero n is = tt
proper name (suc zero) n is = let one : 1 ≡ n = cc in ((0, refl, omega (arith, one)), tt)
proper name (suc (suc m)) n is = absurd cc

pub sound : (name : List ℕ) → IsSound (two name)
sound name zero low = (height, 0, proper name, refl)
sound name (suc zero) low = (height, 1, proper name, refl)
sound name (suc (suc n)) low = absurd (omega (arith, low))
