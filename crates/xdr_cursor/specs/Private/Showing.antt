-- What a node shows by itself.
use Rattle.std.specs.Prelude.{◌≡◌, ℕ, ◌+◌, ◌≤◌, List, [], ◌∷◌, ◌++◌, length, drop}
use Rattle.xdr_types.specs.Kinds.{KindView, Part}
use Rattle.xdr_types.specs.Fits.{parts}
use Rattle.xdr_types.specs.Layout.{Entry, entry, content, of_length}
use Rattle.xdr_units.specs.Numbers.{gap}
use Rattle.xdr_laws.specs.Owed.{Rest, Completes, lead_of, IsUnitFirst, IsLengthFirst, Accepts, head_of, role_of}
use Rattle.xdr_stream.specs.Frames.{dues}
use Rattle.xdr_parts.specs.Lent.{size_in, role_in}
use Rattle.xdr_cursor.specs.Frames.{left_in}
use Rattle.xdr_cursor.specs.declared.frame.Next.{Next}
use Rattle.xdr_cursor.specs.declared.shown.Shown.{Shown}
use Rattle.xdr_cursor.specs.declared.shown.Shown.TheVariants.{Leaf, Open, Counted}

-- the part that comes next
abbrev pub part_of : Next → Part
part_of n = record { name = n.name.now; kind = n.kind.place }

-- what the first unit of a value of the kind makes, where the kind accepts it (RFC 4506 sections 4.1 to 4.19)
abbrev pub IsUnitShown : List KindView → KindView → (unit : ℕ) → Shown → Type 0
IsUnitShown kinds k x (Leaf role size) =
    IsUnitFirst (lead_of k) × (size ≡ 4) × (size_in role 4 ≡ 4) × (role_in role 4 ≡ role_of k)
    × (Accepts kinds k x → parts k (head_of kinds k x) ≡ [])
IsUnitShown kinds k x (Open role size inside) =
    IsUnitFirst (lead_of k) × (size ≡ 4) × (size_in role 4 ≡ 4) × (role_in role 4 ≡ role_of k)
    × (Accepts kinds k x → parts k (head_of kinds k x) ≡ left_in kinds inside)
IsUnitShown kinds k x (Counted n) = IsLengthFirst (lead_of k) × (n ≡ x)

-- its bytes are there
abbrev pub IsThere : (bytes : List ℕ) → (at : ℕ) → Shown → Type 0
IsThere bytes at (Leaf role size) = at + (size + gap size) ≤ length bytes
IsThere bytes at (Open role size inside) = at + size ≤ length bytes
IsThere bytes at (Counted n) = at + 4 ≤ length bytes

-- of these parts some come first, and the others are owed so many bytes on
pub record Moves (kinds : List KindView) (bytes : List ℕ) (at : ℕ) (es new : List Entry) (moved : ℕ)
    (fs : List (List Part)) : Type 0 where
  pub left : List Entry
  pub parted : es ≡ new ++ left
  pub owes : Completes kinds (at + moved) (dues fs) (drop (at + moved) bytes) left
  pub within : at + moved ≤ length bytes

-- of these parts a length and so many bytes of content come first; when the length has gone by, the content is owed
pub record Counts (kinds : List KindView) (bytes : List ℕ) (at : ℕ) (es : List Entry) (p : Part) (size : ℕ)
    (ps : List Part) (fs : List (List Part)) : Type 0 where
  pub left : List Entry
  pub parted : es ≡ entry at 4 (length fs + 1) p of_length ∷ (content (at + 4) (length fs + 1) p size ++ left)
  pub owes : Completes kinds (at + 4) (Rest size ∷ dues (ps ∷ fs)) (drop (at + 4) bytes) left

-- at the place a part of a kind is owed, then others, and these are their parts
pub record IsOwed (kinds : List KindView) (place : ℕ) (bytes : List ℕ) (at : ℕ) (p : Part) (ps : List Part)
    (fs : List (List Part)) (es : List Entry) : Type 0 where
  pub kind : p.kind ≡ place
  pub within : at ≤ length bytes
  pub owes : Completes kinds at (dues ((p ∷ ps) ∷ fs)) (drop at bytes) es

-- what comes of it then
abbrev pub Follows : List KindView → (bytes : List ℕ) → (at : ℕ) → Part → List Part → List (List Part) → List Entry
    → Shown → Type 0
Follows kinds bytes at p ps fs es (Leaf role size) =
    Moves kinds bytes at es (entry at (size_in role size) (length fs + 1) p (role_in role size) ∷ []) (size + gap size)
    (ps ∷ fs)
Follows kinds bytes at p ps fs es (Open role size inside) =
    Moves kinds bytes at es (entry at (size_in role size) (length fs + 1) p (role_in role size) ∷ []) size
    (left_in kinds inside ∷ ps ∷ fs)
Follows kinds bytes at p ps fs es (Counted size) = Counts kinds bytes at es p size ps fs

-- wherever a part of the kind is owed there, this comes of it
abbrev pub IsShown : List KindView → (place : ℕ) → (bytes : List ℕ) → (at : ℕ) → Shown → Type 0
IsShown kinds place bytes at s =
    (p : Part) (ps : List Part) (fs : List (List Part)) (es : List Entry) → IsOwed kinds place bytes at p ps fs es
    → Follows kinds bytes at p ps fs es s

-- no part of the kind is owed there
abbrev pub IsShownNowhere : List KindView → (place : ℕ) → (bytes : List ℕ) → (at : ℕ) → Type 0
IsShownNowhere kinds place bytes at =
    (p : Part) (ps : List Part) (fs : List (List Part)) (es : List Entry) → IsOwed kinds place bytes at p ps fs es → ⊥
