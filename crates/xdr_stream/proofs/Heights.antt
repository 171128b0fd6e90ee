-- How high what is due may be, and what is due before any byte.
use Rattle.std.proofs.Common.{◌≡◌, ℕ, ◌+◌, List, [], ◌∷◌, length}
use Rattle.xdr_types.specs.Kinds.{KindView, Part}
use Rattle.xdr_types.specs.Within.{Bounds}
use Rattle.xdr_types.specs.Height.{height}
use Rattle.xdr_stream.specs.Frames.{dues}
use Rattle.xdr_stream.specs.Sees.{Reading}

-- the height of what comes next, and one more
abbrev pub next_height : List KindView → List Part → ℕ
next_height kinds [] = 0
next_height kinds (p ∷ ps) = height kinds p.kind + 1

-- before any byte a part of this kind is due at this depth
abbrev pub IsDue : List KindView → (kind : ℕ) → Bounds → (place depth : ℕ) → Type 0
IsDue kinds kind limits place depth =
    (p : Part) × (ps : List Part) × (fs : List (List Part)) × Reading kinds kind limits (dues ((p ∷ ps) ∷ fs)) []
    × (p.kind ≡ place) × (length fs + 1 ≡ depth)
