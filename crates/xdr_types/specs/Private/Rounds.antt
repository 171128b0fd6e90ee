-- What is retained while heights are found: the numbers so far.
use Rattle.std.specs.Prelude.{◌≡◌, ℕ, ◌+◌, ◌<◌, ◌≤◌, List, [], ◌∷◌, length, map, Option, Some, None, Bool}
use Rattle.std.specs.Prelude.{slice_index_or, true, false, ◌&&◌, ◌||◌, is_some, IsTrue}
use Rattle.xdr_types.specs.Kinds.{KindView, Part, Branch, kind_at}
use Rattle.xdr_types.specs.KindViews.{kind_view}
use Rattle.xdr_types.specs.declared.kind.Kind.{Kind}
use Rattle.xdr_types.specs.Sound.{Heighting, Asks, IsProper}
use Rattle.xdr_types.specs.Private.Sets.{AreReached}

-- the number of a place in a list, where it has one
abbrev pub height_in : List (Option ℕ) → Heighting
height_in hs place = slice_index_or hs place None

-- the place has got a number
abbrev pub is_marked : List (Option ℕ) → ℕ → Bool
is_marked hs place = is_some (height_in hs place)

-- the place has got a number, as a fact
abbrev pub IsMarked : List (Option ℕ) → ℕ → Type 0
IsMarked hs place = IsTrue (is_marked hs place)

-- all the parts have numbers
abbrev pub are_marked : List (Option ℕ) → List Part → Bool
are_marked hs [] = true
are_marked hs (p ∷ ps) = is_marked hs p.kind && are_marked hs ps

-- the part of some arm has a number
abbrev pub some_marked : List (Option ℕ) → List Branch → Bool
some_marked hs [] = false
some_marked hs (a ∷ arms) = is_marked hs a.part.kind || some_marked hs arms

-- every number is below next
abbrev pub AreBelow : List (Option ℕ) → ℕ → Type 0
AreBelow hs next = (place n : ℕ) → height_in hs place ≡ Some n → n < next

-- no place without a number has what it asks
abbrev pub IsClosed : List KindView → List (Option ℕ) → Type 0
IsClosed kinds hs = (place : ℕ) → place < length kinds → height_in hs place ≡ None
    → Asks kinds (IsMarked hs) (kind_at kinds place) → ⊥

-- every place has got a number
abbrev pub AreAllMarked : List (Option ℕ) → Type 0
AreAllMarked hs = (place : ℕ) → place < length hs → IsMarked hs place

-- the first place without a number
pub record IsFirstUnmarked (hs : List (Option ℕ)) (place : ℕ) : Type 0 where
  pub within : place < length hs
  pub none : height_in hs place ≡ None
  pub before : (q : ℕ) → q < place → IsMarked hs q

-- how many places have no number
abbrev pub missing : List (Option ℕ) → ℕ
missing [] = 0
missing (None ∷ hs) = missing hs + 1
missing (Some n ∷ hs) = missing hs

-- the numbers so far are a proper heighting, all below the next one
pub record AreHeights (kinds : List KindView) (hs : List (Option ℕ)) (next : ℕ) : Type 0 where
  pub lengths : length hs ≡ length kinds
  pub proper : IsProper kinds (height_in hs)
  pub below : AreBelow hs next
  pub left : next + missing hs ≡ length kinds

-- What holds between the steps of a round: there are at most 1024 kinds, rs says which defaults can be reached, ws has
-- an index for each kind, and hs are the numbers so far.
pub record BetweenSteps (kinds : List Kind) (rs : List Bool) (ws : List ℕ) (hs : List (Option ℕ))
    (next : ℕ) : Type 0 where
  pub few : length kinds ≤ 1024
  pub reached : AreReached (map kind_view kinds) rs
  pub waits : length ws ≡ length kinds
  pub heights : AreHeights (map kind_view kinds) hs next

-- What one step does at a place: it gives it the next number, or it gives none, where the place has one or has not what
-- it asks.
pub record Settles (kinds : List KindView) (place : ℕ) (old : List (Option ℕ)) (before : ℕ) (new : List (Option ℕ))
    (after : ℕ) (r : Bool) : Type 0 where
  pub settled : IsTrue r → after ≡ before + 1
  pub same : r ≡ false → (new ≡ old) × (after ≡ before)
  pub unmet : r ≡ false → height_in new place ≡ None → Asks kinds (IsMarked new) (kind_at kinds place) → ⊥
