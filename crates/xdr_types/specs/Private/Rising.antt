-- Numbers that strictly rise: none of them is there twice.
use Rattle.std.specs.Prelude.{◌≡◌, ◌<ℤ◌, ℤ, List, [], ◌∷◌, ⊤}
use Rattle.xdr_types.specs.Kinds.{Branch}

-- the first number is above `low`, each other above the one before it, and `last` is the last, or `low` where there is
-- none
abbrev pub RiseTo : ℤ → List ℤ → ℤ → Type 0
RiseTo low [] last = last ≡ low
RiseTo low (c ∷ cs) last = (low <ℤ c) × RiseTo c cs last

-- the cases of the arms, one arm after the other, rise from `low` on
abbrev pub ArmsRise : ℤ → List Branch → Type 0
ArmsRise low [] = ⊤
ArmsRise low (a ∷ arms) = (last : ℤ) × RiseTo low a.cases last × ArmsRise last arms
