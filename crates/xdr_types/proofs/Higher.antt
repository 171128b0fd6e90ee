-- The function `height` agrees with what the rounds found.
use Rattle.std.proofs.Common.{◌≡◌, ℕ, zero, suc, ◌+◌, ◌<◌, ◌≤◌, max, List, [], ◌∷◌, length, Option, Some, None, refl}
use Rattle.std.proofs.Common.{ap, MatchOption, arith}
use Rattle.std.proofs.Math.Nat.{le-max_left, le-max_right}
use Rattle.std.specs.List.{AllByRecursion}
use Rattle.xdr_types.specs.Kinds as xdr
use Rattle.xdr_types.specs.Kinds.{KindView, Part, kind_at}
use Rattle.xdr_types.specs.Sound.{Heighting, IsBelow, Asks, IsProper, IsSound, IsLowestWithout}
use Rattle.xdr_types.specs.Private.Rounds.{height_in, IsMarked, AreHeights, IsClosed, AreAllMarked, IsFirstUnmarked}
use Rattle.xdr_types.specs.Height.{highest, over, height_within, IsHigher, AreHigher}
use Rattle.xdr_types.proofs.Heighting.{asks-mono, number, no-height, has-height}

highest-same : (f g : ℕ → ℕ) (ps : List Part) → AllByRecursion (λ (p : Part). f p.kind ≡ g p.kind) ps
    → highest f ps ≡ highest g ps
highest-same f g [] h = refl
highest-same f g (p ∷ ps) h = rw (h.0, highest-same f g ps h.1) refl

over-same : (kinds : List KindView) (f g : ℕ → ℕ) (k : KindView) → Asks kinds (λ q. f q ≡ g q) k → over f k ≡ over g k
over-same kinds f g (xdr.structure ps) h = ap (λ n. n + 1) (highest-same f g ps h)
over-same kinds f g (xdr.fixed item size) h = ap (λ n. n + 1) h
over-same kinds f g _ h = refl

all-below : (f g : ℕ → ℕ) (ps : List Part) (top : ℕ) → AllByRecursion (λ (p : Part). f p.kind ≡ g p.kind) ps
    → highest f ps < top → AllByRecursion (λ (p : Part). g p.kind < top) ps
all-below f g [] top h b = tt
all-below f g (p ∷ ps) top h b =
    let here : f p.kind ≡ g p.kind = h.0 in
    let left : f p.kind ≤ max (f p.kind) (highest f ps) = le-max_left (f p.kind) (highest f ps) in
    let right : highest f ps ≤ max (f p.kind) (highest f ps) = le-max_right (f p.kind) (highest f ps) in
    (omega arith, all-below f g ps top h.1 (omega arith))

higher-over : (kinds : List KindView) (f g : ℕ → ℕ) (k : KindView) (top : ℕ) → Asks kinds (λ q. f q ≡ g q) k
    → over f k ≡ top
    → IsHigher g k top
higher-over kinds f g (xdr.structure ps) top h e = all-below f g ps top h (omega arith)
higher-over kinds f g (xdr.fixed item size) top h e = let same : f item ≡ g item = h in omega arith
higher-over kinds f g _ top h e = tt

module _ (kinds : List KindView) (h : Heighting) (proper : IsProper kinds h) where
  -- more levels than a place's number show no more
  stable : (bound place m n k : ℕ) → m < bound → h place ≡ Some m → m < n → m < k
      → height_within kinds n place ≡ height_within kinds k place
  stable zero place m n k b e mn mk = absurd (omega arith)
  stable (suc bound) place m zero k b e mn mk = absurd (omega arith)
  stable (suc bound) place m (suc n) zero b e mn mk = absurd (omega arith)
  stable (suc bound) place m (suc n) (suc k) b e mn mk =
      over-same kinds (height_within kinds n) (height_within kinds k) (kind_at kinds place)
      (asks-mono kinds (IsBelow h m) (λ q. height_within kinds n q ≡ height_within kinds k q)
      (λ q below. stable bound q below.0 n k (omega (arith, below.2)) below.1 (omega (arith, below.2))
      (omega (arith, below.2)))
      (kind_at kinds place) (proper place m e))

  pub higher-at : (n place m : ℕ) → h place ≡ Some m → m < n
      → IsHigher (height_within kinds n) (kind_at kinds place) (height_within kinds n place)
  higher-at zero place m e mn = absurd (omega arith)
  higher-at (suc n) place m e mn =
      higher-over kinds (height_within kinds n) (height_within kinds (suc n)) (kind_at kinds place)
      (height_within kinds (suc n) place)
      (asks-mono kinds (IsBelow h m) (λ q. height_within kinds n q ≡ height_within kinds (suc n) q)
      (λ q below. stable (below.0 + 1) q below.0 n (suc n) (omega arith) below.1 (omega (arith, below.2))
      (omega (arith, below.2)))
      (kind_at kinds place) (proper place m e))
      refl

pub are-higher : (kinds : List KindView) (hs : List (Option ℕ)) (next : ℕ) → AreHeights kinds hs next
    → ((place : ℕ) → place < length kinds → IsMarked hs place) → AreHigher kinds
are-higher kinds hs next are all place within =
    let found = number hs place (all place within) in
    let below : found.0 < next = are.below place found.0 found.1 in
    higher-at kinds (height_in hs) are.proper (length kinds) place found.0 found.1 (omega (arith, are.left))

-- where the rounds have ended, the first place without a number is the lowest without a height
pub lowest-found : (kinds : List KindView) (hs : List (Option ℕ)) (next : ℕ) → AreHeights kinds hs next
    → IsClosed kinds hs → (r : Option ℕ) → MatchOption r (AreAllMarked hs) (IsFirstUnmarked hs)
    → MatchOption r (IsSound kinds × AreHigher kinds) (IsLowestWithout kinds)
lowest-found kinds hs next are closed None all =
    let marked : (place : ℕ) → place < length kinds → IsMarked hs place =
    λ place h. all place (omega (arith, h, are.lengths)) in
    (λ place h. has-height kinds hs are.proper place (marked place h), are-higher kinds hs next are marked)
lowest-found kinds hs next are closed (Some place) first = record {
  within = omega (arith, first.within, are.lengths);
  none = no-height kinds hs closed place first.none;
  lower = λ q h. has-height kinds hs are.proper q (first.before q h);
}
