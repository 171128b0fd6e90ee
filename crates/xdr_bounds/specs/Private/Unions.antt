-- Which parts of a union some legal discriminant picks (RFC 4506 section 4.15).
use Rattle.std.specs.Prelude.{◌≡◌, ℕ, ℤ, List, Option, Some, true}
use Rattle.xdr_types.specs.Kinds.{KindView, Part, kind_at}
use Rattle.xdr_types.specs.Fits.{is_tag_of, part_in}
use Rattle.xdr_bounds.specs.Private.Amounts.{IsIn, places_of}
use Rattle.xdr_types.specs.declared.kind.KindId.{KindId}

-- the part under a number is of the kind
abbrev pub PicksKind : List KindView → (union : ℕ) → ℤ → (kind : ℕ) → Type 0
PicksKind kinds union z kind = (p : Part) × (part_in (kind_at kinds union) z ≡ Some p) × (p.kind ≡ kind)

-- the part under a number is of the kind of the default, where there is one
abbrev pub PicksDefault : List KindView → (union : ℕ) → ℤ → Option Part → Type 0
PicksDefault kinds union z other = (p : Part) × (other ≡ Some p) × PicksKind kinds union z p.kind

-- some legal discriminant picks a part of the kind
abbrev pub IsPicked : List KindView → (union tag kind : ℕ) → Type 0
IsPicked kinds union tag kind =
    (z : ℤ) × (is_tag_of (kind_at kinds tag) z ≡ true) × PicksKind kinds union z kind

-- the kind of the part under a number is among those, where the number is legal
abbrev pub IsSeen : List KindView → (union tag : ℕ) → List KindId → ℤ → Type 0
IsSeen kinds union tag ids z = (kind : ℕ) → is_tag_of (kind_at kinds tag) z ≡ true → PicksKind kinds union z kind
    → IsIn kind (places_of ids)

-- new kinds beside the old ones, each of which is picked
pub record Adds (kinds : List KindView) (union tag : ℕ) (old new : List KindId) : Type 0 where
  pub stay : (q : ℕ) → IsIn q (places_of old) → IsIn q (places_of new)
  pub picked : ((q : ℕ) → IsIn q (places_of old) → IsPicked kinds union tag q) → (q : ℕ) → IsIn q (places_of new)
      → IsPicked kinds union tag q

-- exactly the kinds that are picked
pub record ArePicked (kinds : List KindView) (union tag : ℕ) (ids : List KindId) : Type 0 where
  pub each : (q : ℕ) → IsIn q (places_of ids) → IsPicked kinds union tag q
  pub all : (z : ℤ) → IsSeen kinds union tag ids z
