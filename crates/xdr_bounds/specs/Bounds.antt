-- How many bytes the values of a kind have at least and at most. No limit on depth or bytes plays a part.
use Rattle.std.specs.Prelude.{◌≡◌, ℕ, ◌^◌, ◌<◌, ◌≤◌, List, length, ⊤, Option, Some, None, MatchOption, slice_index_or}
use Rattle.xdr_types.specs.Kinds.{KindView}
use Rattle.xdr_types.specs.Tree.{Tree}
use Rattle.xdr_types.specs.Fits.{Fits}
use Rattle.xdr_types.specs.Spelling.{bytes_of}
use Rattle.xdr_bounds.specs.declared.greatest.Greatest.{Greatest}
use Rattle.xdr_bounds.specs.declared.greatest.Greatest.TheVariants as greatest
use Rattle.xdr_bounds.specs.declared.range.Range.{Range}

-- some value of the kind has exactly so many bytes (RFC 4506 section 4)
abbrev pub IsReached : List KindView → (place n : ℕ) → Type 0
IsReached kinds place n = (t : Tree) × Fits kinds place t × (length (bytes_of kinds place t) ≡ n)

-- every value of the kind has so many bytes or more (RFC 4506 section 4)
abbrev pub HasAtLeast : List KindView → (place n : ℕ) → Type 0
HasAtLeast kinds place n = (t : Tree) → Fits kinds place t → n ≤ length (bytes_of kinds place t)

-- every value of the kind has so many bytes or fewer (RFC 4506 section 4)
abbrev pub HasAtMost : List KindView → (place n : ℕ) → Type 0
HasAtMost kinds place n = (t : Tree) → Fits kinds place t → length (bytes_of kinds place t) ≤ n

-- the least count of bytes: every value has so many or more, and one has just these
pub record IsLeast (kinds : List KindView) (place n : ℕ) : Type 0 where
  pub every : HasAtLeast kinds place n
  pub one : IsReached kinds place n

-- the greatest count of bytes: every value has so many or fewer, and one has just these
pub record IsGreatest (kinds : List KindView) (place n : ℕ) : Type 0 where
  pub every : HasAtMost kinds place n
  pub one : IsReached kinds place n

-- whatever the number, some value of the kind has more bytes (RFC 4506 sections 4.13, 4.15, 4.19)
abbrev pub IsUnbounded : List KindView → (place : ℕ) → Type 0
IsUnbounded kinds place = (n : ℕ) → (t : Tree) × Fits kinds place t × (n < length (bytes_of kinds place t))

-- the answer on the fewest bytes: their count, or none where every value has 2^64 bytes or more
abbrev pub IsLeastAnswer : List KindView → (place : ℕ) → Option ℕ → Type 0
IsLeastAnswer kinds place answer =
    MatchOption answer (HasAtLeast kinds place (2 ^ 64)) (λ n. IsLeast kinds place n)

-- the answer on the most bytes: their count; or that there is one of 2^64 or more; or that there is none
abbrev pub IsGreatestAnswer : List KindView → (place : ℕ) → Greatest → Type 0
IsGreatestAnswer kinds place (greatest.Bytes n) = IsGreatest kinds place n
IsGreatestAnswer kinds place greatest.MoreThanU64 = (n : ℕ) × (2 ^ 64 ≤ n) × IsGreatest kinds place n
IsGreatestAnswer kinds place greatest.Unbounded = IsUnbounded kinds place

-- both answers on a kind
pub record IsRange (kinds : List KindView) (place : ℕ) (range : Range) : Type 0 where
  pub least : IsLeastAnswer kinds place range.least
  pub greatest : IsGreatestAnswer kinds place range.greatest

-- the answers on all kinds of a list, each at the place of its kind
pub record AreRanges (kinds : List KindView) (ranges : List Range) : Type 0 where
  pub lengths : length ranges ≡ length kinds
  pub each : (place : ℕ) (r : Range) → place < length ranges → r ≡ slice_index_or ranges place r
      → IsRange kinds place r
