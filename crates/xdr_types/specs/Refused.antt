-- What a refusal of lists says: which fault is the first, and where.
use Rattle.std.specs.Prelude.{◌≡◌, ◌⊎◌, ◌<◌, ◌≤◌, ℕ, length, Option, Some}
use Rattle.xdr_types.specs.Kinds.{Lists}
use Rattle.xdr_types.specs.Faults.{fault, kind_flaw_at, name_flaw_at, AreFlawless, IsWellFormed}
use Rattle.xdr_types.specs.Sound.{IsSound, IsLowestWithout}
use Rattle.xdr_types.specs.declared.fault.Flaw.{Flaw}
use Rattle.xdr_types.specs.declared.fault.Flaw.TheVariants as flaw
use Rattle.xdr_types.specs.declared.fault.SchemaFault.{SchemaFault}

-- the fault is the first flaw below n: its place has it, and no place before has one
pub record IsFirstFlaw (flaw_at : ℕ → Option Flaw) (n : ℕ) (e : SchemaFault) : Type 0 where
  pub within : e.place < n
  pub before : AreFlawless flaw_at e.place
  pub here : flaw_at e.place ≡ Some e.why

-- there are more than 1024 kinds
abbrev pub HasTooManyKinds : Lists → SchemaFault → Type 0
HasTooManyKinds s e = (1024 < length s.kinds) × (e ≡ fault flaw.TooManyKinds 0)

-- else the fault is the first flaw of a kind
abbrev pub HasKindFlaw : Lists → SchemaFault → Type 0
HasKindFlaw s e = (length s.kinds ≤ 1024) × IsFirstFlaw (kind_flaw_at s.kinds) (length s.kinds) e

-- else, where no kind has a flaw, it is the first flaw of a name
abbrev pub HasNameFlaw : Lists → SchemaFault → Type 0
HasNameFlaw s e =
    (length s.kinds ≤ 1024) × AreFlawless (kind_flaw_at s.kinds) (length s.kinds)
    × IsFirstFlaw (name_flaw_at s.kinds s.names) (length s.names) e

-- else, where no name has one either, the place is the lowest without a height
abbrev pub HasNoFiniteValue : Lists → SchemaFault → Type 0
HasNoFiniteValue s e = IsWellFormed s × (e.why ≡ flaw.NoFiniteValue) × IsLowestWithout s.kinds e.place

-- what is found first in lists that make no schema
abbrev pub IsFirstFault : Lists → SchemaFault → Type 0
IsFirstFault s e = HasTooManyKinds s e ⊎ (HasKindFlaw s e ⊎ (HasNameFlaw s e ⊎ HasNoFiniteValue s e))

-- a refusal is an allocation failure, or the first fault
abbrev pub IsRefused : Lists → SchemaFault → Type 0
IsRefused s e = (e ≡ fault flaw.NoMemory 0) ⊎ IsFirstFault s e

-- lists in which a fault is found are not both well formed and sound
abbrev pub NoSchemaHasAFault : Type 0
NoSchemaHasAFault = (s : Lists) (e : SchemaFault) → IsFirstFault s e → IsWellFormed s → IsSound s.kinds → ⊥
